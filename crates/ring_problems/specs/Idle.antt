-- Patterns that never match.
use Rattle.std.specs.Prelude.{ℕ, Bool, not, List, Option, option_map, filter, slice_get}
use Rattle.ring_problems.specs.declared.idle.IdlePattern.{IdlePattern}
use Rattle.ring_problems.specs.declared.pattern.Pattern.{Pattern}
use Rattle.ring_problems.specs.Patterns.{is_below}

-- the patterns that channels below a number can't match
abbrev pub idle : List Pattern → ℕ → List Pattern
idle patterns channels = filter (λ p. not (is_below channels p)) patterns

-- the first of them, if there are any
abbrev pub idle_in : List Pattern → ℕ → Option IdlePattern
idle_in patterns channels = option_map (λ p. record { pattern = p; channels = channels })
    (slice_get (idle patterns channels) 0)
