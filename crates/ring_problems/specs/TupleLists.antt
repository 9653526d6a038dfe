-- Tuples: the identifiers of the windows of two or three places in a row of a ring.
use Rattle.std.specs.Prelude.{◌≡◌, ◌==◌, ℕ, ◌+◌, ◌-◌, ◌*◌, if◌then◌else◌, List, [], ◌∷◌, ◌++◌, map, flat_map, length}
use Rattle.std.specs.Prelude.{take, drop, slice_index}
use Rattle.win_index.specs.Windows.{unused, windows, IsWindow}
use Rattle.ring_problems.specs.declared.pattern.Pattern.{Pattern}
use Rattle.ring_problems.specs.Patterns.{is_long, extra}

-- the list with one more number at its end, for each number that is none of its second to its last
abbrev pub followed : ℕ → List ℕ → List (List ℕ)
followed m list = map (λ x. list ++ x ∷ []) (unused m (drop 1 list))

-- the tuples of m identifiers and t rounds in order: all lists of 2t+2 distinct identifiers; if a pattern asks
-- something of the third place, each of them with one more identifier that is none of its second to its last
unfoldable pub tuples_below : ℕ → ℕ → List Pattern → List (List ℕ)
tuples_below m t problem =
    let pairs : List (List ℕ) = windows (2 * t + 1 + 1) m in
    if is_long problem then flat_map (followed m) pairs else pairs

-- the number of tuples that begin with the same 2t+2 identifiers
abbrev pub per_pair : ℕ → ℕ → List Pattern → ℕ
per_pair m t problem = if is_long problem then m - (2 * t + 1) else 1

-- a tuple by its content: its first 2t+2 identifiers are distinct, and so are its last 2t+2
pub record IsTuple (m t : ℕ) (problem : List Pattern) (tuple : List ℕ) : Type 0 where
  pub size : length tuple ≡ 2 * t + 1 + extra problem
  pub front : IsWindow (2 * t + 1 + 1) m (take (2 * t + 1 + 1) tuple)
  pub back : IsWindow (2 * t + 1 + 1) m (drop (extra problem - 1) tuple)

-- a tuple as a ring: without its last identifier if that is the first one again
abbrev pub ring_of : List ℕ → List ℕ
ring_of tuple =
    let last = length tuple - 1 in
    if slice_index tuple last == slice_index tuple 0 then take last tuple else tuple
