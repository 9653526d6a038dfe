-- What other crates cite of numbers in texts. Of the files here they import this one alone.
use Rattle.std.proofs.Common.{◌≡◌, ℕ, ◌^◌, ◌<◌, Option, List, ◌∷◌, ◌++◌, IfNone}
use Rattle.std.specs.Fmt.{decimal}
use Rattle.numerals.proofs.NumberTexts
use Rattle.numerals.proofs.Options

-- a text has at most one number at its start that is followed by a byte below the digits
pub number_once : (end m n : ℕ) (xs ys : List ℕ) → end < 48 → m < 2 ^ 32 → n < 2 ^ 32
    → decimal m ++ end ∷ xs ≡ decimal n ++ end ∷ ys → (m ≡ n) × (xs ≡ ys)
number_once = NumberTexts.number_once

-- and so it is after a name
pub field_once : (name : List ℕ) (end m n : ℕ) (x y : List ℕ) → end < 48 → m < 2 ^ 32 → n < 2 ^ 32
    → name ++ (decimal m ++ end ∷ x) ≡ name ++ (decimal n ++ end ∷ y) → (m ≡ n) × (x ≡ y)
field_once = NumberTexts.field_once

-- what follows from what a clause says of a `None`
pub IfNone_then : {X P Q : Type 0} (r : Option X) → IfNone r P → (P → Q) → IfNone r Q
IfNone_then r is then_so = Options.IfNone_then r is then_so
