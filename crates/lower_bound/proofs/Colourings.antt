-- Colourings of rising lists of k numbers below m.
use Rattle.std.proofs.Common.{◌≡◌, ◌≢◌, ℕ, suc, ◌<◌, ◌++◌, ◌∷◌, [], List, length}

-- the first number of a list, or m
abbrev pub first_or : ℕ → List ℕ → ℕ
first_or m [] = m
first_or m (x ∷ list) = x

-- the numbers rise, and are below m
abbrev pub Rises : ℕ → List ℕ → Type 0
Rises m [] = Unit {0}
Rises m (x ∷ list) = (x < first_or m list) × Rises m list

-- c colours of the rising lists of k numbers below m, by which the first k numbers of a rising list of k+1 and its last
-- k have different colours
pub record IsColouring (k m c : ℕ) (colour : List ℕ → ℕ) : Type 0 where
  pub below : (list : List ℕ) → Rises m list → length list ≡ k → colour list < c
  pub differ :
      (x y : ℕ) (middle : List ℕ) → Rises m (x ∷ middle ++ y ∷ []) → suc (length middle) ≡ k
      → colour (x ∷ middle) ≢ colour (middle ++ y ∷ [])
