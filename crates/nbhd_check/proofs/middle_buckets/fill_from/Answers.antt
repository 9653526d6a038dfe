use Rattle.std.proofs.Common.{◌≡◌, ℕ, ◌+◌, ◌*◌, ◌<◌, ◌≤◌, length, slice_get, Some, subst, ◌∙◌, arith, length-set}
use Rattle.std.proofs.Math.Nat.{mul-le-mul_right}
use Rattle.std.proofs.lemmas.Option.{slice_get_within}
use Rattle.win_index.proofs.Windows.{windows_all}
use Rattle.channel_tables.specs.Tables.{windows_of}
use Rattle.channel_tables.proofs.Tables.{step_of_bucket, window_of_shape}
use Rattle.nbhd_check.specs.Buckets.{wide}
use Rattle.nbhd_check.proofs.Cells.{row_more}
use Rattle.nbhd_check.proofs.MiddleSteps.{known_more, wide_some}
use Rattle.nbhd_check.proofs.BucketSteps.{next_first}
use Rattle.nbhd_check.proofs.middle_buckets.fill_from.Goals as goal

pub next_bucket-requires-clause-window : goal.next_bucket-requires-clause-window
next_bucket-requires-clause-window c =
    let t = c.args.table.now in
    let item = c.loop-place.invariant.1 (omega (arith, c.loop-place-test.true, c.loop-place.auto.place-end)) in
    window_of_shape t c.rounds.result c.shape-shape.result.ids c.loop-place.window (c.rounds.ensures
    ∙ c.shape-shape.ensures.rounds) c.shape-shape.ensures.ids
    (windows_all (2 * t.rounds + 1) t.ids _ c.loop-place.window item)

pub loop-place-preserved : goal.loop-place-preserved
loop-place-preserved c =
    let t = c.args.table.now in
    let l = c.loop-place in
    let bucket : ℕ = c.args.start + l.place in
    let within : l.place < length c.args.part.now = omega (arith, c.loop-place-test.true, l.auto.place-end) in
    let item = l.invariant.1 within in
    let step = step_of_bucket t c.rounds.result c.shape-shape.result.ids c.next_bucket.result l.window
    c.next_bucket.new.window
    (c.rounds.ensures ∙ c.shape-shape.ensures.rounds) c.shape-shape.ensures.ids c.next_bucket.ensures in
    let some = wide_some t c.shape-shape.ensures.table in (
      length-set l.part l.place c.middle_bucket.result ∙ l.invariant.0,
      λ lt.
          let next : bucket + 1 ≡ c.args.start + (l.place + 1) = omega arith in
          let all : (bucket + 1 + 1) * wide t ≤ (c.args.start + length c.args.part.now) * wide t =
          mul-le-mul_right (wide t) (omega arith) in
          subst (λ n. slice_get (windows_of t) (n * wide t) ≡ Some c.next_bucket.new.window) next
          (next_first t bucket l.window item c.next_bucket.result c.next_bucket.new.window step
          (omega (arith, all, row_more (bucket + 1) (wide t), c.requires.room, some))),
      known_more t c.args.start l.place l.part c.middle_bucket.result (omega (arith, within, l.invariant.0)) c.middle_bucket.ensures l.invariant.2,
    )

pub returns-clause-buckets : goal.returns-clause-buckets
returns-clause-buckets c i middle item =
    c.loop-place.invariant.2 i middle
    (omega (arith, slice_get_within c.loop-place.part i middle item, c.loop-place.invariant.0, c.loop-place-test.false)) item
