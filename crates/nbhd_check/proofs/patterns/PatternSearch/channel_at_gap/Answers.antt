use Rattle.std.proofs.Common.{◌≡◌, ◌*◌, arith}
use Rattle.nbhd_check.specs.Buckets.{second_bucket, wide}
use Rattle.nbhd_check.proofs.BeforeSteps.{HasCell, has_cell}
use Rattle.nbhd_check.proofs.patterns.PatternSearch.channel_at_gap.Goals.{Start, After-windows_per_bucket}
use Rattle.nbhd_check.proofs.patterns.PatternSearch.channel_at_gap.Goals as goal

cell : (c : Start) → HasCell c.args.self.now.table.now c.args.next c.args.place
cell c = has_cell c.args.self.now.table.now c.args.next c.args.place c.args.self.now.table_is.size c.requires.next c.requires.place

start_is : (c : After-windows_per_bucket) → c.bucket_at.result * c.windows_per_bucket.result
    ≡ second_bucket c.args.next c.args.place * wide c.args.self.now.table.now
start_is c = λ i. c.bucket_at.ensures i * c.windows_per_bucket.ensures.value i

pub bucket_at-requires : goal.bucket_at-requires
bucket_at-requires c =
    let own = cell (goal.at.bucket_at-requires c).Start in
    let table = c.args.self.now.table_is in
    omega (arith, own.first_few, own.at.next_few, table.size, table.begun.shape.few_windows)

pub overflow_mul-start : goal.overflow_mul-start
overflow_mul-start c =
    let own = cell (goal.at.overflow_mul-start c).Start in
    let table = c.args.self.now.table_is in
    omega (arith, start_is (goal.at.overflow_mul-start c).After-windows_per_bucket, own.inside, table.size, table.begun.shape.few_windows)

pub overflow_add-result : goal.overflow_add-result
overflow_add-result c =
    let own = cell (goal.at.overflow_add-result c).Start in
    let table = c.args.self.now.table_is in
    omega (arith, start_is (goal.at.overflow_add-result c).After-windows_per_bucket, c.gap_at.ensures, own.inside, table.size, table.begun.shape.few_windows)

pub offset_bounds-entries-start : goal.offset_bounds-entries-start
offset_bounds-entries-start c =
    let own = cell (goal.at.offset_bounds-entries-start c).Start in
    let table = c.args.self.now.table_is in
    omega (
      arith,
      start_is (goal.at.offset_bounds-entries-start c).After-windows_per_bucket,
      c.gap_at.ensures,
      own.inside,
      table.size,
      table.begun.shape.few_windows,
    )

pub bounds-entries-start : goal.bounds-entries-start
bounds-entries-start c =
    let own = cell (goal.at.bounds-entries-start c).Start in
    rw c.entries.ensures.value
    (omega (arith, start_is (goal.at.bounds-entries-start c).After-windows_per_bucket, c.gap_at.ensures, own.inside))
