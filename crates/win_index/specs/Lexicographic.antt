-- The lexicographic order of lists of numbers.
use Rattle.std.specs.Prelude.{◌≡◌, ℕ, ◌<◌, ◌⊎◌, List, [], ◌∷◌}

-- a is before b: at the first position where they differ, a has the smaller number
abbrev pub StandsBefore : List ℕ → List ℕ → Type 0
StandsBefore [] b = ⊥
StandsBefore (x ∷ a) [] = ⊥
StandsBefore (x ∷ a) (y ∷ b) = (x < y) ⊎ ((x ≡ y) × StandsBefore a b)
