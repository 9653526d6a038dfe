use Rattle.std.proofs.Common.{ℕ, ◌*◌, ◌^◌, ◌≤◌, arith}
use Rattle.std.proofs.Math.Nat.{mul-le-mul}
use Rattle.nbhd_check.proofs.Buckets.{free_of_both}
use Rattle.nbhd_check.proofs.far.free_by_counts.Goals as goal

pub overflow_mul-family-2 : goal.overflow_mul-family-2
overflow_mul-family-2 g c =
    let family : ℕ = c.windows_per_family-family.result in
    let few = c.windows_per_family-family.ensures.table.begun.shape.ids.few in
    let small : family ≤ 1048576 =
    rw c.windows_per_family-family.ensures.value
    (mul-le-mul {n₂ = 1024} {m₂ = 1024} (omega (arith, few)) (omega (arith, few))) in
    let product : 8 * family * family ≤ 2 ^ 43 =
    mul-le-mul {n₁ = 8 * family} {m₁ = family} {n₂ = 8388608} {m₂ = 1048576} (omega (arith, small))
    (omega (arith, small)) in
    omega (arith, product)

pub returns : goal.returns
returns g c =
    free_of_both c.args.tuples.windows.now c.args.tuples.separation c.args.most c.free_windows-free.result
    c.free_windows-free.result
    c.requires.near c.free_windows-free.ensures.free c.free_windows-free.ensures.less (omega arith)
