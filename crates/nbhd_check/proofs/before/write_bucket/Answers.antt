use Rattle.std.proofs.Common.{◌≡◌, ◌+◌, ◌*◌, ◌<◌, ◌≤◌, ℕ, length, get_or, set, subst, sym, ap, ◌∙◌, arith, length-set}
use Rattle.nbhd_check.specs.ChannelsBefore.{AreBefore}
use Rattle.nbhd_check.specs.Buckets.{second_gap, second_bucket, wide}
use Rattle.nbhd_check.proofs.BeforeSteps.{HasCell, before_more, has_cell, in_bucket_at}
use Rattle.nbhd_check.proofs.before.write_bucket.Goals.{After-windows_per_bucket-each, After-gap_at, In-loop-place}
use Rattle.nbhd_check.proofs.before.write_bucket.Goals as goal

-- the bucket's windows are among all
within : (c : After-windows_per_bucket-each)
    → c.args.next.bucket * wide c.args.table.now + wide c.args.table.now ≤ length c.args.table.now.entries
within c =
    omega (arith, c.requires.next.within, c.windows_per_bucket-each.ensures.table.size)

-- the cell at this place
cell : (c : In-loop-place) → HasCell c.args.table.now c.args.next c.loop-place.place
cell c =
    has_cell c.args.table.now c.args.next c.loop-place.place c.windows_per_bucket-each.ensures.table.size
    c.requires.next
    (omega (arith, c.loop-place-test.true, c.windows_per_bucket-each.ensures.value))

cell_is : (c : After-gap_at) → c.bucket_at.result * c.windows_per_bucket-each.result + c.gap_at.result
    ≡ second_bucket c.args.next c.loop-place.place * wide c.args.table.now + second_gap c.args.next c.loop-place.place
cell_is c = λ i. c.bucket_at.ensures i * c.windows_per_bucket-each.ensures.value i + c.gap_at.ensures i

pub channels_of-channels-requires : goal.channels_of-channels-requires
channels_of-channels-requires c = within (goal.at.channels_of-channels-requires c).After-windows_per_bucket-each

pub bounds-channels-place : goal.bounds-channels-place
bounds-channels-place c =
    let t = c.args.table.now in
    let lt : c.loop-place.place < wide t =
    omega (arith, c.loop-place-test.true, c.windows_per_bucket-each.ensures.value) in
    subst (λ list. c.loop-place.place < length list) (sym c.channels_of-channels.ensures)
    (in_bucket_at t t.entries c.args.next.bucket c.loop-place.place (within (goal.at.bounds-channels-place c).After-windows_per_bucket-each) lt).0

pub bucket_at-requires : goal.bucket_at-requires
bucket_at-requires c =
    let own = cell (goal.at.bucket_at-requires c).In-loop-place in
    let table = c.windows_per_bucket-each.ensures.table in
    omega (arith, own.first_few, own.at.next_few, table.size, table.begun.shape.few_windows)

pub overflow_mul-before : goal.overflow_mul-before
overflow_mul-before c =
    let own = cell (goal.at.overflow_mul-before c).In-loop-place in
    let table = c.windows_per_bucket-each.ensures.table in
    let same : c.bucket_at.result * c.windows_per_bucket-each.result
    ≡ second_bucket c.args.next c.loop-place.place * wide c.args.table.now =
    λ i. c.bucket_at.ensures i * c.windows_per_bucket-each.ensures.value i in
    omega (arith, same, own.inside, table.size, table.begun.shape.few_windows)

pub overflow_add-before : goal.overflow_add-before
overflow_add-before c =
    let own = cell (goal.at.overflow_add-before c).In-loop-place in
    let table = c.windows_per_bucket-each.ensures.table in
    omega (arith, cell_is (goal.at.overflow_add-before c).After-gap_at, own.inside, table.size, table.begun.shape.few_windows)

pub offset_bounds-before-bucket_at : goal.offset_bounds-before-bucket_at
offset_bounds-before-bucket_at c =
    let own = cell (goal.at.offset_bounds-before-bucket_at c).In-loop-place in
    let table = c.windows_per_bucket-each.ensures.table in
    omega (arith, cell_is (goal.at.offset_bounds-before-bucket_at c).After-gap_at, own.inside, table.size, table.begun.shape.few_windows)

pub bounds-before-bucket_at : goal.bounds-before-bucket_at
bounds-before-bucket_at c =
    let own = cell (goal.at.bounds-before-bucket_at c).In-loop-place in
    let table = c.windows_per_bucket-each.ensures.table in
    omega (arith, cell_is (goal.at.bounds-before-bucket_at c).After-gap_at, own.inside, table.size, c.loop-place.invariant.0, c.requires.room)

pub loop-place-preserved : goal.loop-place-preserved
loop-place-preserved c =
    let t = c.args.table.now in
    let l = c.loop-place in
    let own = cell (goal.at.loop-place-preserved c).In-loop-place in
    let lt : l.place < wide t = omega (arith, c.loop-place-test.true, c.windows_per_bucket-each.ensures.value) in
    let read = (in_bucket_at t t.entries c.args.next.bucket l.place (within (goal.at.loop-place-preserved c).After-windows_per_bucket-each) lt).1 in
    let channel = ap (λ list. get_or list l.place 0) c.channels_of-channels.ensures ∙ read in
    let start : ℕ = c.args.next.bucket * wide t in
    let next : start + l.place + 1 ≡ start + (l.place + 1) = omega arith in (
      length-set l.before _ _ ∙ l.invariant.0,
      subst (λ n. AreBefore t n (set l.before (c.bucket_at.result * c.windows_per_bucket-each.result + c.gap_at.result) (get_or c.channels_of-channels.result.now l.place 0))) next
          (before_more t c.args.next l.place _ _ (start + l.place) l.before own.at (omega (arith, l.invariant.0, c.requires.room))
          (cell_is (goal.at.loop-place-preserved c).After-gap_at) channel (omega arith) l.invariant.1),
    )
