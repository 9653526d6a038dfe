-- Numbers in a base from two to ten, and rows of them.
use Rattle.std.specs.Prelude.{ℕ, ◌-◌, ◌==◌, if◌then◌else◌, max, List, [], ◌∷◌, ◌++◌, codes, false, length, replicate}
use Rattle.std.specs.List.{flat_map}
use Rattle.std.specs.Fmt.{digits}
use Rattle.numerals.specs.declared.base.Base.{Base}
use Rattle.numerals.specs.declared.rows.Form.{Form}

-- the base as a number
abbrev pub radix : Base → ℕ
radix b = b.radix

-- the digits of a number in a base, without leading zeros
abbrev pub numeral : Base → ℕ → List ℕ
numeral b n = digits (radix b) false n

-- the same after zeros that extend it to the width of a form
abbrev pub padded : Form → ℕ → List ℕ
padded form n = replicate (form.width - length (numeral form.base n)) 48 ++ numeral form.base n

-- the number of digits of the widest of some numbers
abbrev pub widest : Base → List ℕ → ℕ
widest b [] = 0
widest b (n ∷ ns) = max (length (numeral b n)) (widest b ns)

-- the width of numbers that are written together: that of the widest, while numbers in base ten have no leading zeros
abbrev pub common_width : Base → List ℕ → ℕ
common_width b ns = if radix b == 10 then 0 else widest b ns

-- the form of numbers that are written together
abbrev pub form_of : Base → List ℕ → Form
form_of b ns = record { base = b; width = common_width b ns }

-- numbers in a form, each after a blank
abbrev pub after_blanks : Form → List ℕ → List ℕ
after_blanks form ns = flat_map (λ n. codes " " ++ padded form n) ns

-- a row of numbers to the end of its line
abbrev pub row : Base → List ℕ → List ℕ
row b ns = after_blanks (form_of b ns) ns ++ codes "\n"
