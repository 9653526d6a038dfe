-- Parts of equal length, of which the last can be shorter.
use Rattle.std.proofs.Common.{ℕ, ◌+◌, ◌*◌, ◌/◌, ◌<◌, ◌≤◌, arith, ⊎_elim}
use Rattle.std.proofs.Math.Nat.{mul-le-mul_right, mul_comm, div-lt_iff_lt-mul, div-mul-le_self, lt-div-mul-add}
use Rattle.std.proofs.lemmas.Grind.{div_ceil_times}
use Rattle.std.proofs.lemmas.Nat.{rows}
use Rattle.std.specs.Int.{div_ceil}
use Rattle.std.proofs.lemmas.Bool.{cases_lt}
use Rattle.nbhd_check.proofs.Cells.{row_more}

-- there are at most as many parts as are enough
pub few_parts : (count len most : ℕ) → 0 < len → count ≤ most * len → div_ceil count len ≤ most
few_parts count len most some enough = grind (arith, row_more most len, mul-le-mul_right, div_ceil_times count len some)

-- the part of a number
pub record InPart (count parts k : ℕ) : Type 0 where
  pub part : ℕ
  pub few : part < parts
  pub low : part * div_ceil count parts ≤ k
  pub high : k < part * div_ceil count parts + div_ceil count parts

pub in_part : (count parts k : ℕ) → 0 < parts → k < count → InPart count parts k
in_part count parts k some lt =
    let each : ℕ = div_ceil count parts in
    let all = (div_ceil_times count parts some).0 in
    let positive : 0 < each =
    ⊎_elim (λ (is : 0 < each). is)
    (λ (none : each ≤ 0). absurd (omega (arith, all, mul-le-mul_right parts none))) (cases_lt 0 each) in
    record {
      part = k / each;
      few = (div-lt_iff_lt-mul positive).1 (omega (arith, all, mul_comm parts each));
      low = div-mul-le_self k each;
      high = lt-div-mul-add positive;
    }

pub quotient_below : (n k count : ℕ) → n < count * k → n / k < count
quotient_below n k count lt = grind (arith, rows)
