use Rattle.std.proofs.Common.{ℕ, ◌+◌, ◌*◌, ◌<◌, ◌≤◌, length, subst, sym, ap, ◌∙◌, arith, ⊎_elim}
use Rattle.std.proofs.lemmas.Bool.{cases_lt}
use Rattle.std.proofs.Math.Nat.{mul-le-mul_right}
use Rattle.channel_tables.specs.Tables.{windows_of}
use Rattle.channel_tables.proofs.Tables.{window_of_shape, step_of_bucket}
use Rattle.nbhd_check.specs.Buckets.{wide}
use Rattle.nbhd_check.proofs.Cells.{row_more}
use Rattle.win_index.proofs.Windows.{windows_all}
use Rattle.nbhd_check.proofs.BucketSteps.{next_first, bucket_few}
use Rattle.nbhd_check.proofs.bucket_search.scan_buckets.Goals as goal

pub next_bucket-requires-clause-window : goal.next_bucket-requires-clause-window
next_bucket-requires-clause-window g c =
    let t = g.S.BucketSearch.searched c.args.search.now in
    let table_is = c.table-table.ensures in
    let item = c.loop-bucket.invariant.0 c.loop-bucket-test.true in
    window_of_shape t c.rounds.result c.shape-shape.result.ids c.loop-bucket.window (c.rounds.ensures
    ∙ c.shape-shape.ensures.rounds ∙ ap (λ x. x.rounds) table_is)
    (c.shape-shape.ensures.ids ∙ ap (λ x. x.ids) table_is)
    (windows_all (2 * t.rounds + 1) t.ids _ c.loop-bucket.window item)

pub loop-bucket-preserved : goal.loop-bucket-preserved
loop-bucket-preserved g c =
    let t = g.S.BucketSearch.searched c.args.search.now in
    let table_is = c.table-table.ensures in
    let bucket : ℕ = c.loop-bucket.bucket in
    let more = row_more bucket (wide t) in
    let item = c.loop-bucket.invariant.0 c.loop-bucket-test.true in
    let step = step_of_bucket t c.rounds.result c.shape-shape.result.ids c.next_bucket.result c.loop-bucket.window c.next_bucket.new.window
    (c.rounds.ensures ∙ c.shape-shape.ensures.rounds ∙ ap (λ x. x.rounds) table_is) (c.shape-shape.ensures.ids
    ∙ ap (λ x. x.ids) table_is) c.next_bucket.ensures in
    let some : 1 ≤ wide t = omega (arith, c.windows_per_bucket-each.ensures.some, c.windows_per_bucket-each.ensures.value, ap wide table_is) in (
      λ lt.
          let all : (bucket + 1 + 1) * wide t ≤ c.args.high * wide t = mul-le-mul_right (wide t) (omega arith) in
          next_first t bucket c.loop-bucket.window item c.next_bucket.result c.next_bucket.new.window step
          (omega (arith, all, row_more (bucket + 1) (wide t), c.requires.within)),
      λ number window low high at'. ⊎_elim
          (λ (before : number < bucket * wide t). c.loop-bucket.invariant.1 number window low before at')
          (λ (own : bucket * wide t ≤ number). c.in_default.ensures number window own (omega arith) at')
          (cases_lt number (bucket * wide t)),
    )

pub overflow_mul-first : goal.overflow_mul-first
overflow_mul-first g c =
    let table_is = c.table-table.ensures in
    let within = subst (λ t. c.args.high * wide t ≤ length (windows_of t)) (sym table_is) c.requires.within in
    omega (
      arith,
      bucket_few c.table-table.result.now c.loop-bucket.bucket c.args.high c.windows_per_bucket-each.result
          c.windows_per_bucket-each.ensures.table c.windows_per_bucket-each.ensures.value
          c.loop-bucket-test.true within,
    )

pub returns-then-load-first : goal.returns-then-load-first
returns-then-load-first g c = λ number window low below item.
    let each_is = c.windows_per_bucket-each.ensures.value ∙ ap wide c.table-table.ensures in
    let same = ap (λ n. c.loop-bucket.bucket * n) each_is in
    c.loop-bucket.invariant.1 number window low (omega (arith, below, same)) item

pub returns-in-Some : goal.returns-in-Some
returns-in-Some g c = λ number window low below item.
    let t = g.S.BucketSearch.searched c.args.search.now in
    ⊎_elim
    (λ (before : number < c.loop-bucket.bucket * wide t). c.loop-bucket.invariant.1 number window low before item)
    (λ (own : c.loop-bucket.bucket * wide t ≤ number). c.in-Some.ensures number window own (omega (arith, below)) item)
    (cases_lt number (c.loop-bucket.bucket * wide t))

pub returns : goal.returns
returns g c = λ number window low below item.
    let t = g.S.BucketSearch.searched c.args.search.now in
    let all = mul-le-mul_right (wide t) c.loop-bucket-test.false in
    c.loop-bucket.invariant.1 number window low (omega (arith, below, all)) item
