-- Numbers that are extended with blanks.
use Rattle.std.proofs.Common.{◌≡◌, ℕ, zero, suc, ◌-◌, ◌^◌, List, [], ◌∷◌, ◌++◌, length, replicate, false, ap, arith}
use Rattle.std.proofs.Common.{refl, append-nil}
use Rattle.std.specs.List.{repeat}
use lib.Utf8.{encode}
use Rattle.std.specs.Fmt.{decimal, char_count, format_spec, padded_integral}
use Rattle.reports.specs.Lines.{right_aligned}

blanks : (n : ℕ) → repeat {A = ℕ} n (32 ∷ []) ≡ replicate n 32
blanks zero = refl
blanks (suc n) = ap (λ l. 32 ∷ l) (blanks n)

-- the text of a right-aligned argument of width 4
aligned_digits : (digits : List ℕ)
    → padded_integral (format_spec 32 3 0 4 (2 ^ 64 - 1)) false [] digits ≡ replicate (4 - length digits) 32 ++ digits
unfolding padded_integral char_count encode
aligned_digits digits =
    let width : 4 - length digits - 0 - 0 ≡ 4 - length digits = omega arith in
    let filled : 4 - length digits - (4 - length digits) ≡ 0 = omega arith in
    simp (width, filled, append-nil, blanks)

pub aligned : (n : ℕ) → padded_integral (format_spec 32 3 0 4 (2 ^ 64 - 1)) false [] (decimal n) ≡ right_aligned n
aligned n = aligned_digits (decimal n)
