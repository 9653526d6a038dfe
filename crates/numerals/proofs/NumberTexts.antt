-- Numbers in decimal, and the byte that ends them.
use Rattle.std.proofs.Common.{◌≡◌, ℕ, zero, suc, ◌^◌, ◌<◌, true, false, nat_lt, ◌&&◌, ◌==◌, List, [], ◌∷◌, ◌++◌, length}
use Rattle.std.proofs.Common.{get_or, drop, slice_index, refl, sym, ap, ◌∙◌, arith}
use Rattle.std.specs.Fmt.{decimal}
use Rattle.std.specs.Str.Parse.{AllDigits, IsNumeral, digits_value}
use Rattle.std.proofs.lemmas.Bool.{and_parts, eqb-true}
use Rattle.std.proofs.lemmas.Bool.Decides.{nat_tests}
use Rattle.std.proofs.lemmas.List.{append_cancel_left}
use Rattle.std.proofs.lemmas.Fmt.{decimal_is_IsNumeral, decimal_digit, first_decimal}
use Rattle.std.proofs.lemmas.Fmt.{decimal_injective, decimal-digits_value}
use Rattle.std.proofs.lemmas.Str.Parse.{digit_from_value, numerals_by_value, tells_digits}
use Rattle.numerals.specs.Bytes.{Lacks}

digits : (n : ℕ) → n < 2 ^ 32 → IsNumeral 10 (decimal n)
digits n small = (decimal_is_IsNumeral n (omega arith)).0

-- a number that begins with 0 is that digit alone
one_zero : (n : ℕ) → n < 2 ^ 32 → get_or (decimal n) 0 0 ≡ 48 → length (decimal n) ≡ 1
one_zero zero small first = ap length (decimal_digit 0 (omega arith))
one_zero (suc n) small first = absurd (omega (arith, first_decimal (suc n) (omega arith) (omega arith), first))

-- a word with a leading zero is not a number
pub padded_word : (word : List ℕ) (n : ℕ) → (nat_lt 1 (length word) && (slice_index word 0 == 48)) ≡ true → n < 2 ^ 32
    → word ≡ decimal n → ⊥
padded_word word n padded small same =
    let parts = and_parts (nat_lt 1 (length word)) (slice_index word 0 == 48) padded in
    let zero_first = ap (λ w. get_or w 0 0) (sym same) ∙ eqb-true (slice_index word 0) 48 parts.1 in
    let one = ap length same ∙ one_zero n small zero_first in
    grind (arith, nat_tests)

-- the digits of a number have it as their value
pub value-decimal : (word : List ℕ) (n : ℕ) → n < 2 ^ 32 → word ≡ decimal n
    → IsNumeral 10 word × (digits_value 10 word ≡ n)
value-decimal word n small same = rw same (decimal_is_IsNumeral n (omega arith))

-- digits are a number without leading zeros, if they have none
pub unpadded_word : (word : List ℕ) → (nat_lt 1 (length word) && (slice_index word 0 == 48)) ≡ false → IsNumeral 10 word
    → digits_value 10 word < 2 ^ 64 → word ≡ decimal (digits_value 10 word)
unpadded_word word unpadded is small =
    let own = numerals_by_value (AllDigits 10) tells_digits in
    let short : get_or word 0 0 ≡ 48 → length word ≡ 1 = λ first. grind (arith, nat_tests) in
    sym (decimal-digits_value own word is.1 is.0 short small)

lacks_digits : (end : ℕ) (ds : List ℕ) → end < 48 → AllDigits 10 ds → Lacks end ds
lacks_digits end [] small is = tt
lacks_digits end (c ∷ cs) small is =
    let range = digit_from_value c is.0 in
    (λ same. omega (arith, range.0, same), lacks_digits end cs small is.1)

-- no byte below the digits occurs in a number
pub lacks_decimal : (end n : ℕ) → end < 48 → n < 2 ^ 32 → Lacks end (decimal n)
lacks_decimal end n small fits = lacks_digits end (decimal n) small (digits n fits).1

-- a text without a byte has no prefix that ends with the byte
pub no_cut : (end : ℕ) (front rest : List ℕ) → Lacks end (front ++ end ∷ rest) → ⊥
no_cut end [] rest lacks = lacks.0 refl
no_cut end (x ∷ front) rest lacks = no_cut end front rest lacks.1

-- a text is cut in one way at the first byte of a value
pub one_cut : (end : ℕ) (a b xs ys : List ℕ) → Lacks end a → Lacks end b → a ++ end ∷ xs ≡ b ++ end ∷ ys
    → (a ≡ b) × (xs ≡ ys)
one_cut end [] [] xs ys p q same = (refl, ap (drop 1) same)
one_cut end [] (y ∷ b) xs ys p q same = absurd (q.0 (sym (ap (λ l. get_or l 0 0) same)))
one_cut end (x ∷ a) [] xs ys p q same = absurd (p.0 (ap (λ l. get_or l 0 0) same))
one_cut end (x ∷ a) (y ∷ b) xs ys p q same =
    let head : x ≡ y = ap (λ l. get_or l 0 0) same in
    let more = one_cut end a b xs ys p.1 q.1 (ap (drop 1) same) in
    (cc, more.1)

-- a text has at most one number at its start that is followed by a byte below the digits
pub number_once : (end m n : ℕ) (xs ys : List ℕ) → end < 48 → m < 2 ^ 32 → n < 2 ^ 32
    → decimal m ++ end ∷ xs ≡ decimal n ++ end ∷ ys → (m ≡ n) × (xs ≡ ys)
number_once end m n xs ys small p q same =
    let cut = one_cut end (decimal m) (decimal n) xs ys (lacks_decimal end m small p)
    (lacks_decimal end n small q) same in
    (decimal_injective m n (omega arith) (omega arith) cut.0, cut.1)

-- the text after a name begins with one number
pub field_once : (name : List ℕ) (end m n : ℕ) (x y : List ℕ) → end < 48 → m < 2 ^ 32 → n < 2 ^ 32
    → name ++ (decimal m ++ end ∷ x) ≡ name ++ (decimal n ++ end ∷ y) → (m ≡ n) × (x ≡ y)
field_once name end m n x y small p q same =
    number_once end m n x y small p q (append_cancel_left name (decimal m ++ end ∷ x) (decimal n ++ end ∷ y) same)
