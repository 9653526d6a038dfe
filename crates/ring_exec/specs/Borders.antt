-- The blanks of borders. No public contract cites this file.
use Rattle.std.specs.Prelude.{◌≡◌, ℕ}
use Rattle.ring_exec.specs.declared.border_name.Blanks.{Blanks}

-- a blank for each side of the border with these names
abbrev pub AreBlanksOf : Blanks → ℕ → ℕ → Type 0
AreBlanksOf blanks rightward leftward =
    (blanks.right.name ≡ rightward) × (blanks.right.parts ≡ 1) × (blanks.left.name ≡ leftward)
    × (blanks.left.parts ≡ 1)
