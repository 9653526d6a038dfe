-- Separations as problems.
use Rattle.std.specs.Prelude.{ℕ, ◌++◌, List, map, filter, flat_map, nat_lt}
use Rattle.std.specs.Int.{abs_diff}
use Rattle.std.specs.List.{range_with_len}
use Rattle.channel_tables.specs.declared.separation.Separation.{Separation}
use Rattle.ring_problems.specs.declared.pattern.Entry.TheVariants.{Wildcard, Channel}
use Rattle.ring_problems.specs.declared.pattern.Pattern.{Pattern}

-- the first channel at a place, and the second one at its right neighbour
abbrev pub next_to : ℕ → ℕ → Pattern
next_to first second = record { first = Channel first; second = Channel second; third = Wildcard }

-- the first channel at a place, and the second one two places to its right
abbrev pub two_from : ℕ → ℕ → Pattern
two_from first second = record { first = Channel first; second = Wildcard; third = Channel second }

-- the channels below a number that are closer to one than the distance
abbrev pub close_to : ℕ → ℕ → ℕ → List ℕ
close_to channels distance first = filter (λ second. nat_lt (abs_diff first second) distance)
    (range_with_len 0 channels)

-- a pattern for each pair of channels below a number that are closer than the distance
abbrev pub close_pairs : (ℕ → ℕ → Pattern) → ℕ → ℕ → List Pattern
close_pairs pattern channels distance = flat_map (λ first. map (pattern first) (close_to channels distance first))
    (range_with_len 0 channels)

-- the problem of a separation of channels below a number: pairs that neighbours must not have, then those that
-- places at distance two must not have
abbrev pub separation_problem : ℕ → Separation → List Pattern
separation_problem channels s = close_pairs next_to channels s.near ++ close_pairs two_from channels s.far
