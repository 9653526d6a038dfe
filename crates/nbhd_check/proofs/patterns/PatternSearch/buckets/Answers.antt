use Rattle.std.proofs.Common.{◌≡◌, ◌*◌, ◌/◌, ◌≤◌, length, refl, arith}
use Rattle.std.proofs.Math.Nat.{mul-le-mul_left}
use Rattle.channel_tables.specs.Tables.{windows_of}
use Rattle.nbhd_check.specs.Buckets.{wide}
use Rattle.nbhd_check.proofs.MiddleSteps.{buckets_are, wide_some}
use Rattle.nbhd_check.proofs.patterns.PatternSearch.buckets.Goals.{After-windows_per_bucket}
use Rattle.nbhd_check.proofs.patterns.PatternSearch.buckets.Goals as goal

-- the number of buckets, and how large it is
count : (c : After-windows_per_bucket)
    → c.window_count.result / c.windows_per_bucket.result * wide c.args.self.now.table.now
    ≡ length (windows_of c.args.self.now.table.now)
count c =
    buckets_are c.args.self.now.table.now c.windows_per_bucket.result c.window_count.result
    (c.window_count.result / c.windows_per_bucket.result)
    c.args.self.now.table_is c.windows_per_bucket.ensures.value c.window_count.ensures.value refl

few : (c : After-windows_per_bucket) → c.window_count.result / c.windows_per_bucket.result ≤ 4194304
few c =
    let t = c.args.self.now.table.now in
    let table = c.args.self.now.table_is in
    omega (
      arith,
      mul-le-mul_left (c.window_count.result / c.windows_per_bucket.result) (wide_some t table),
      count c,
      table.begun.shape.few_windows,
    )

pub overflow_cast-result : goal.overflow_cast-result
overflow_cast-result c = omega (arith, c.window_count.type_inv)

pub overflow_cast-result-2 : goal.overflow_cast-result-2
overflow_cast-result-2 c = omega (arith, few (goal.at.overflow_cast-result-2 c).After-windows_per_bucket)

pub returns-clause-all : goal.returns-clause-all
returns-clause-all c = count (goal.at.returns-clause-all c).After-windows_per_bucket

pub returns-clause-few : goal.returns-clause-few
returns-clause-few c = few (goal.at.returns-clause-few c).After-windows_per_bucket
