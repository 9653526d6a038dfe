-- The digits of a number are those of its quotient by the base, and then its last one.
use Rattle.std.proofs.Common.{◌≡◌, ℕ, zero, suc, ◌/◌, ◌%◌, ◌^◌, ◌<◌, ◌≤◌, true, false, List, [], ◌∷◌, ◌++◌, ◌⊎◌, inl}
use Rattle.std.proofs.Common.{inr, refl, sym, ap, subst, ◌+◌, length, ◌∙◌, append_assoc, length-append, arith}
use Rattle.std.specs.Prelude.{◌≢◌, ◌==◌, if◌then◌else◌}
use Rattle.std.specs.Fmt.{decimal, digit_glyph, digits, digits_onto}
use Rattle.std.proofs.lemmas.Bool.{ne_eqb}
use Rattle.std.proofs.lemmas.Bool.Decides.{eqb_tells}
use Rattle.std.proofs.Math.Nat.{div-lt_iff_lt-mul, div-eq_of_lt, mod-eq_of_lt, mod-lt, pow-zero}
use Rattle.std.proofs.Math.Nat.{pow-suc, pow-le-pow_left}

-- the last k digits of n at most, before others
abbrev onto : ℕ → ℕ → ℕ → List ℕ → List ℕ
onto b k n acc = digits_onto k b false n acc

abbrev last : ℕ → ℕ → ℕ
last b n = digit_glyph false (n % b)

one : (b k n : ℕ) (acc : List ℕ) → n / b ≡ 0 → onto b (suc k) n acc ≡ last b n ∷ acc
one b k n acc none = ap (λ q. if q == 0 then last b n ∷ acc else onto b k q (last b n ∷ acc)) none

more : (b k n : ℕ) (acc : List ℕ) → n / b ≢ 0 → onto b (suc k) n acc ≡ onto b k (n / b) (last b n ∷ acc)
more b k n acc some = ap (λ t. if t then last b n ∷ acc else onto b k (n / b) (last b n ∷ acc)) (ne_eqb (n / b) 0 some)

appended : (b k n : ℕ) (acc : List ℕ) → onto b k n acc ≡ onto b k n [] ++ acc
appended b zero n acc = refl
appended b (suc k) n acc =
    go (eqb_tells (n / b) 0) (appended b k (n / b) (last b n ∷ acc)) (appended b k (n / b) (last b n ∷ []))
  where
    go : (((n / b == 0) ≡ true) × (n / b ≡ 0)) ⊎ (((n / b == 0) ≡ false) × (n / b ≢ 0))
        → onto b k (n / b) (last b n ∷ acc) ≡ onto b k (n / b) [] ++ last b n ∷ acc
        → onto b k (n / b) (last b n ∷ []) ≡ onto b k (n / b) [] ++ last b n ∷ []
        → onto b (suc k) n acc ≡ onto b (suc k) n [] ++ acc
    go (inl is) whole own = one b k n acc is.1 ∙ ap (λ l. l ++ acc) (sym (one b k n [] is.1))
    go (inr is) whole own =
        more b k n acc is.1 ∙ whole ∙ sym (append_assoc (onto b k (n / b) []) (last b n ∷ []) acc)
        ∙ ap (λ l. l ++ acc) (sym (more b k n [] is.1 ∙ own))

fewer : (b k n : ℕ) → 2 ≤ b → n < b ^ suc k → n / b < b ^ k
fewer b k n low small = (div-lt_iff_lt-mul (omega arith)).1 (subst (λ m. n < m) (pow-suc b k) small)

-- one digit more than enough changes nothing
enough : (b k n : ℕ) (acc : List ℕ) → 2 ≤ b → n < b ^ suc k → onto b (suc k) n acc ≡ onto b (suc (suc k)) n acc
enough b zero n acc low small =
    let less : n / b < b ^ 0 = fewer b 0 n low small in
    let none : n / b ≡ 0 = omega (arith, pow-zero b) in
    one b 0 n acc none ∙ sym (one b 1 n acc none)
enough b (suc k) n acc low small =
    go (eqb_tells (n / b) 0) (enough b k (n / b) (last b n ∷ acc) low (fewer b (suc k) n low small))
  where
    go : (((n / b == 0) ≡ true) × (n / b ≡ 0)) ⊎ (((n / b == 0) ≡ false) × (n / b ≢ 0))
        → onto b (suc k) (n / b) (last b n ∷ acc) ≡ onto b (suc (suc k)) (n / b) (last b n ∷ acc)
        → onto b (suc (suc k)) n acc ≡ onto b (suc (suc (suc k))) n acc
    go (inl is) same = one b (suc k) n acc is.1 ∙ sym (one b (suc (suc k)) n acc is.1)
    go (inr is) same = more b (suc k) n acc is.1 ∙ same ∙ sym (more b (suc (suc k)) n acc is.1)

-- a digit below ten, as a number
digit : (d : ℕ) → d < 10 → decimal d ≡ digit_glyph false d ∷ []
unfolding digits
digit d small = one 10 63 d [] (div-eq_of_lt small) ∙ ap (λ m. digit_glyph false m ∷ []) (mod-eq_of_lt small)

last_digit : (b n : ℕ) → 2 ≤ b → b ≤ 10 → last b n ∷ [] ≡ decimal (n % b)
last_digit b n low high =
    let less : n % b < b = mod-lt n (omega arith) in
    sym (digit (n % b) (omega arith))

pub one_digit : (b n : ℕ) → 2 ≤ b → b ≤ 10 → n < b → digits b false n ≡ decimal n
unfolding digits
one_digit b n low high small =
    one b 63 n [] (div-eq_of_lt small) ∙ last_digit b n low high ∙ ap decimal (mod-eq_of_lt small)

pub more_digits : (b n : ℕ) → 2 ≤ b → b ≤ 10 → b ≤ n → n < 2 ^ 32
    → digits b false n ≡ digits b false (n / b) ++ decimal (n % b)
unfolding digits
more_digits b n low high large fits =
    let powers : 2 ^ 64 ≤ b ^ 64 = pow-le-pow_left low 64 in
    let small : n < b ^ 64 = omega arith in
    let some : n / b ≢ 0 = λ none. let less = (div-lt_iff_lt-mul {k = b} {x = n} {y = 1} (omega arith)).0
    (omega arith) in omega arith in
    more b 63 n [] some ∙ enough b 62 (n / b) (last b n ∷ []) low (fewer b 63 n low small)
    ∙ appended b 64 (n / b) (last b n ∷ [])
    ∙ ap (λ l. onto b 64 (n / b) [] ++ l) (last_digit b n low high)

-- a number below the base has one digit, and any other one more than its quotient
pub one_long : (b n : ℕ) → n < b → length (digits b false n) ≡ 1
unfolding digits
one_long b n small = ap length (one b 63 n [] (div-eq_of_lt small))

pub one_longer : (b n : ℕ) → 2 ≤ b → b ≤ 10 → b ≤ n → n < 2 ^ 32
    → length (digits b false n) ≡ length (digits b false (n / b)) + 1
one_longer b n low high large fits =
    ap length (more_digits b n low high large fits
    ∙ ap (λ l. digits b false (n / b) ++ l) (sym (last_digit b n low high)))
    ∙ length-append (digits b false (n / b)) (last b n ∷ [])
