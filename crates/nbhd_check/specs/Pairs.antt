-- Pairs that hold neither of two elements, by inclusion and exclusion.
use Rattle.std.specs.Prelude.{◌≡◌, ◌==◌, ℕ, ◌+◌, Bool, not, ◌&&◌, ◌||◌, List, count_by}

-- whether the pair holds the element
abbrev pub holds : ℕ → ℕ × ℕ → Bool
holds x pair = (x == pair.0) || (x == pair.1)

-- in a list of pairs, the pairs of a class that hold neither a nor b, those that hold a and those that hold b are
-- together as many as all pairs of the class and, once more, those that hold both
abbrev pub PairsThatAvoidTwo : Type 0
PairsThatAvoidTwo =
    (pairs : List (ℕ × ℕ)) (class : ℕ × ℕ → Bool) (a b : ℕ)
    → count_by (λ pair. class pair && (not (holds a pair) && not (holds b pair))) pairs
    + count_by (λ pair. class pair && holds a pair) pairs + count_by (λ pair. class pair && holds b pair) pairs
    ≡ count_by class pairs + count_by (λ pair. class pair && (holds a pair && holds b pair)) pairs
