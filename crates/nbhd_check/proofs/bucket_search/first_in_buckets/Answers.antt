use Rattle.std.proofs.Common.{◌≡◌, ◌*◌, ◌≤◌, Some, slice_get, length, subst, sym, ◌∙◌, arith}
use Rattle.std.proofs.Math.Nat.{mul-le-mul_right}
use Rattle.channel_tables.specs.Tables.{windows_of}
use Rattle.nbhd_check.specs.Buckets.{wide}
use Rattle.nbhd_check.proofs.BucketSteps.{bucket_few}
use Rattle.nbhd_check.proofs.bucket_search.first_in_buckets.Goals as goal

pub returns-then-low-high : goal.returns-then-low-high
returns-then-low-high g c = λ number window low below item.
    absurd (omega (
      arith,
      mul-le-mul_right
          (wide (g.S.BucketSearch.searched c.args.search.now)) c.if-low-high.true,
      low,
      below,
    ))

pub overflow_mul-low : goal.overflow_mul-low
overflow_mul-low g c =
    let within = subst (λ t. c.args.high * wide t ≤ length (windows_of t)) (sym c.table-table.ensures) c.requires in
    omega (
      arith,
      bucket_few c.table-table.result.now c.args.low c.args.high c.windows_per_bucket.result
          c.windows_per_bucket.ensures.table c.windows_per_bucket.ensures.value c.if-low-high.false within,
    )

pub window-requires-clause-below : goal.window-requires-clause-below
window-requires-clause-below g c =
    let within = subst (λ t. c.args.high * wide t ≤ length (windows_of t)) (sym c.table-table.ensures) c.requires in
    let few = bucket_few c.table-table.result.now c.args.low c.args.high c.windows_per_bucket.result
    c.windows_per_bucket.ensures.table c.windows_per_bucket.ensures.value c.if-low-high.false within in
    rw (c.rounds-level.ensures ∙ c.shape-shape.ensures.rounds, c.shape-shape.ensures.ids)
    (omega (arith, few, c.windows_per_bucket.ensures.some))

pub scan_buckets-requires-clause-item : goal.scan_buckets-requires-clause-item
scan_buckets-requires-clause-item g c =
    let rounds_is = c.rounds-level.ensures ∙ c.shape-shape.ensures.rounds in
    let own = rw (rounds_is, c.shape-shape.ensures.ids, c.windows_per_bucket.ensures.value) at c.window.ensures.item in
    subst (λ t. slice_get (windows_of t) (c.args.low * wide t) ≡ Some c.window.new.out) c.table-table.ensures own

pub returns : goal.returns
returns g c = c.scan_buckets.ensures
