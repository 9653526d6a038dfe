-- The bytes of a finding.
use Rattle.std.specs.Prelude.{◌==◌, ◌&&◌, if◌then◌else◌, ℕ, ◌+◌, ◌%◌, List, [], ◌∷◌, ◌++◌, length, map, max, take}
use Rattle.std.specs.Prelude.{slice_index, codes}
use Rattle.std.specs.List.{flat_map, range_with_len}
use Rattle.std.specs.Fmt.{decimal}
use Rattle.node_lang.specs.Printed.{printed}
use Rattle.channel_tables.specs.declared.separation.Separation.{Separation}
use Rattle.ring_problems.specs.declared.pattern.Pattern.{Pattern}
use Rattle.ring_problems.specs.PatternTexts.{span, patterns_text}
use Rattle.value_trees.specs.Explanation.{explanation}
use Rattle.value_trees.specs.Trace.{trace_lines}
use Rattle.table_text.specs.TableText.{table_text}
use Rattle.table_formula.specs.Problems.{Problem}
use Rattle.table_formula.specs.Texts.{formula_text}
use Rattle.reports.specs.Codes.{code_of, details_of, subject_of}
use Rattle.reports.specs.Findings.{Fault, Finding}
use Rattle.reports.specs.Findings as value
use Rattle.reports.specs.Lines.{line, numbers_text, right_aligned}

-- the line of a program that is accepted
abbrev pub accepted_line : (ids rounds channels bound windows : ℕ) → List ℕ
accepted_line ids rounds channels bound windows =
    line (codes "accepted ids " ∷ decimal ids ∷ codes " rounds " ∷ decimal rounds ∷ codes " channels "
    ∷ decimal channels
    ∷ codes " bound " ∷ decimal bound ∷ codes " windows " ∷ decimal windows ∷ [])

-- the line of a table whose channels are far enough apart everywhere, with the number of its tuples
abbrev pub good_line : ℕ → List ℕ
good_line count = line (codes "yes: " ∷ decimal count ∷ codes " tuples" ∷ [])

-- the line of a ring on which a place and its right neighbour have the same channel
abbrev pub bad_line : List ℕ → ℕ → ℕ → List ℕ
bad_line ring place channel =
    line (codes "no: ring " ∷ numbers_text ring ∷ codes " place " ∷ decimal place ∷ codes " channel "
    ∷ decimal channel ∷ [])

-- the line of a ring on which the channels of two places are too close
abbrev pub close_line : List ℕ → ℕ × ℕ → ℕ × ℕ → List ℕ
close_line ring places channels =
    line (codes "no: ring " ∷ numbers_text ring ∷ codes " places " ∷ decimal places.0 ∷ codes " " ∷ decimal places.1
    ∷ codes " channels " ∷ decimal channels.0 ∷ codes " " ∷ decimal channels.1 ∷ [])

-- the line of a no: if neighbours' channels only have to differ, it has the one channel of both places
abbrev pub no_line : Separation → List ℕ → ℕ × ℕ → ℕ × ℕ → List ℕ
no_line s ring places channels =
    if (s.near == 1) && (s.far == 0) then bad_line ring places.0 channels.0 else close_line ring places channels

-- so many places of a ring, from this one on
abbrev pub places_from : List ℕ → ℕ → ℕ → List ℕ
places_from ring place count = map (λ step. (place + step) % length ring) (range_with_len 0 count)

-- how many places the line of a pattern that matches has: those up to its last entry that asks for a channel, at
-- least two
abbrev pub shown : Pattern → ℕ
shown pattern = max 2 (span pattern)

-- the line of a ring on which the channels of a place and of those after it match a pattern
abbrev pub broken_line : List ℕ → ℕ → ℕ × ℕ × ℕ → Pattern → List ℕ
broken_line ring place channels pattern =
    line (codes "no: ring " ∷ numbers_text ring ∷ codes " places "
    ∷ numbers_text (places_from ring place (shown pattern)) ∷ codes " channels "
    ∷ numbers_text (take (shown pattern) (channels.0 ∷ channels.1 ∷ channels.2 ∷ [])) ∷ [])

-- the line of a place, with its identifier and its channel
abbrev pub place_line : ℕ → ℕ → ℕ → List ℕ
place_line place id channel =
    line (right_aligned place ∷ codes " " ∷ right_aligned id ∷ codes " " ∷ right_aligned channel ∷ [])

-- the lines of a ring's places, from place 0 on, with their channels
abbrev pub lines_of_places : List ℕ → (ℕ → ℕ) → List ℕ
lines_of_places places channel =
    flat_map (λ place. place_line place (slice_index places place) (channel place)) (range_with_len 0 (length places))

-- what a problem asks of the channels: near and far if no pattern is forbidden, else the patterns
abbrev pub demand_text : Separation → List Pattern → List ℕ
demand_text s [] = codes " near " ++ (decimal s.near ++ (codes " far " ++ decimal s.far))
demand_text s patterns = codes " forbid" ++ patterns_text patterns

-- the line of a problem whose formula is refuted
abbrev pub refuted_line : Problem → List ℕ
refuted_line p =
    line (codes "refuted: ids " ∷ decimal p.ids ∷ codes " rounds " ∷ decimal p.rounds ∷ codes " channels "
    ∷ decimal p.channels
    ∷ demand_text p.separation p.forbidden ∷ [])

-- the line of a refusal
abbrev pub fault_line : Fault → List ℕ
fault_line f = line (subject_of f ∷ codes " fault " ∷ code_of f ∷ details_of f ∷ [])

-- the bytes of a finding
abbrev pub bytes_of : Finding → List ℕ
bytes_of (value.accepted ids rounds channels bound windows) = accepted_line ids rounds channels bound windows
bytes_of (value.program p) = printed p
bytes_of (value.yes tuples nodes ids) = good_line tuples
bytes_of (value.no s ring places channels) = no_line s ring places channels
bytes_of (value.solved tuples idle) = good_line tuples
bytes_of (value.broken ring place channels pattern known idle) = broken_line ring place channels pattern
bytes_of (value.channels of) = line (numbers_text of ∷ [])
bytes_of (value.trace b p ring) = trace_lines b p ring
bytes_of (value.tree b p ring place) = explanation b p ring place
bytes_of (value.places ring of) = lines_of_places ring (slice_index of)
bytes_of (value.table t s) = table_text t s
bytes_of (value.formula p) = formula_text p
bytes_of (value.refuted p) = refuted_line p
bytes_of (value.refused f) = fault_line f
