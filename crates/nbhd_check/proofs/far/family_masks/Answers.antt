use Rattle.std.proofs.Common.{◌≡◌, ℕ, ◌+◌, ◌-◌, ◌*◌, subst, sym, arith}
use Rattle.nbhd_check.specs.Counts.{family_len, shared_len}
use Rattle.nbhd_check.specs.Masks.{AreMasks}
use Rattle.nbhd_check.specs.Buckets.{wide}
use Rattle.nbhd_check.proofs.far.family_masks.Goals as goal

pub returns-then-not-is_empty : goal.returns-then-not-is_empty
returns-then-not-is_empty g c =
    let t = c.args.tuples.windows.now in
    let separation = c.args.tuples.separation in
    let each : ℕ = c.windows_per_bucket-len.result in
    let each_is = c.windows_per_bucket-len.ensures.value in
    let enough = c.windows_per_bucket-len.ensures.table.begun.shape.ids.enough in
    let more : each + 1 ≡ t.ids - shared_len t = omega (arith, each_is, enough, c.requires.some) in
    let less : each ≡ t.ids - shared_len t - 1 = omega (arith, more) in
    let size : (each + 1) * each ≡ family_len t = λ q. more q * less q in
    let buckets : AreMasks t.entries each separation.far c.deref.result.now =
    subst (AreMasks t.entries each separation.far) (sym c.deref.ensures.value)
    (subst (λ n. AreMasks t.entries n separation.far c.args.buckets.items) (sym each_is)
    (subst (λ d. AreMasks t.entries (wide t) d c.args.buckets.items) c.if-separation-distance.true
    c.requires.buckets)) in
    subst (λ n. AreMasks t.entries n separation.far c.joined_masks.result.items) size
    (c.joined_masks.ensures t.entries separation.far buckets)
