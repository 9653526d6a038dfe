-- Windows: lists of distinct identifiers, in order, and their numbers.
use Rattle.std.specs.Prelude.{◌≡◌, ◌≢◌, ◌==◌, ℕ, zero, suc, ◌<◌, Bool, not, nat_eq, Option, List, [], ◌∷◌, ◌++◌, map}
use Rattle.std.specs.Prelude.{filter, flat_map, position, length, All, AllPairs}
use Rattle.std.specs.List.{list_any, range_with_len}
use lib.Pointwise.{pointwise}

-- whether the list contains the number x
abbrev pub is_used : List ℕ → ℕ → Bool
is_used list x = list_any (λ y. y == x) list

-- the numbers below m that are not in the list, in rising order
abbrev pub unused : ℕ → List ℕ → List ℕ
unused m list = filter (λ x. not (is_used list x)) (range_with_len 0 m)

-- the list with one more number at its end, for each number that it lacks
abbrev pub extended : ℕ → List ℕ → List (List ℕ)
extended m list = map (λ x. list ++ x ∷ []) (unused m list)

-- the windows of length k below m, in lexicographic order: each shorter one, in order, with one more number
unfoldable pub windows : ℕ → ℕ → List (List ℕ)
windows zero m = [] ∷ []
windows (suc k) m = flat_map (extended m) (windows k m)

-- the number of a window is its index in that list; any other list has none
unfoldable pub number_of : ℕ → ℕ → List ℕ → Option ℕ
number_of k m list = position (λ w. pointwise nat_eq w list) (windows k m)

-- a window of length k below m, by its content: k distinct numbers below m
pub record IsWindow (k m : ℕ) (list : List ℕ) : Type 0 where
  pub size : length list ≡ k
  pub below : All (λ x. x < m) list
  pub distinct : AllPairs (λ a b. a ≢ b) list
