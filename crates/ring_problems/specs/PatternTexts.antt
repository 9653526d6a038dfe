-- The texts of patterns.
use Rattle.std.specs.Prelude.{ℕ, List, [], ◌∷◌, ◌++◌, codes, map, take, if◌then◌else◌}
use Rattle.std.specs.Fmt.{decimal}
use Rattle.std.specs.List.{flat_map, join_with_byte}
use Rattle.ring_problems.specs.declared.pattern.Entry.{Entry}
use Rattle.ring_problems.specs.declared.pattern.Entry.TheVariants.{Wildcard, Channel}
use Rattle.ring_problems.specs.declared.pattern.Pattern.{Pattern}
use Rattle.ring_problems.specs.Patterns.{is_channel, has_third}

-- the number of a pattern's entries up to the last one that asks for a channel, at least 1
abbrev pub span : Pattern → ℕ
span p = if has_third p then 3 else if is_channel p.second then 2 else 1

-- these entries
abbrev pub entries : Pattern → List Entry
entries p = take (span p) (p.first ∷ p.second ∷ p.third ∷ [])

-- a channel in decimal, or a star for any
abbrev pub entry_text : Entry → List ℕ
entry_text Wildcard = codes "*"
entry_text (Channel c) = decimal c

-- the entries, separated by commas (byte 44)
abbrev pub pattern_text : Pattern → List ℕ
pattern_text p = join_with_byte 44 (map entry_text (entries p))

-- the texts of patterns, each after a blank
abbrev pub patterns_text : List Pattern → List ℕ
patterns_text patterns = flat_map (λ pattern. codes " " ++ pattern_text pattern) patterns
