use Rattle.std.proofs.Common.{◌≡◌, ℕ, ◌+◌, ◌-◌, ◌*◌, ◌<◌, ◌≤◌, List, length, slice_get, Some, refl, ◌∙◌, arith}
use Rattle.std.proofs.lemmas.Option.{slice_get_within}
use Rattle.win_index.specs.Buckets.{IsAtPlace}
use Rattle.win_index.specs.Windows.{windows}
use Rattle.unroll.specs.Below.{part}
use Rattle.unroll.specs.Parts.{window_in, InBucket}
use Rattle.unroll.specs.WideColumns.{AreTakenInBucket}
use Rattle.unroll.proofs.Known.{window_at, asked_both, missing_later, own_entry}
use Rattle.unroll.proofs.SeriesStates.{last_part, in_series, taken_more, bucket_ends, bucket_goes_on}
use Rattle.unroll.proofs.gathering.gather_bucket.Given.{Over}
use Rattle.unroll.proofs.gathering.gather_bucket.Goals.{After-put_lasts, At-loop-block}
use Rattle.unroll.proofs.gathering.gather_bucket.Goals as goal
use Rattle.win_index.specs.declared.limits.TheConstants.{BLOCK_WINDOWS}
use Rattle.win_index.proofs.Windows.{number_of_is}

-- after the last parts of a series were written
module _ (g : Over) (c : After-put_lasts g) where
  -- its windows are in the bucket, each one position after the one before it
  series : (i : ℕ) → i < c.series-count.result → (w : List ℕ)
      × InBucket c.args.upper (window_in c.args.upper c.args.reached.index) c.args.reached.bucket
      (c.loop-block.place + i)
      (c.loop-block.at + i) w
  series =
      let here = c.loop-block.invariant.here in
      let entries = g.S.Source.entries in
      in_series c.args.upper (entries c.args.source.now) (entries c.loop-block.source) _ c.args.reached.bucket c.loop-block.invariant.asked.grows c.requires.reached.bucket
      c.loop-block.place c.loop-block.at c.series-count.result here.0 here.1
      (c.series-count.ensures.series (2 * c.args.upper.below + 1) c.args.upper.plan.now.ids here.0 (omega arith) here.1.is)

  taken : AreTakenInBucket (g.S.Source.entries c.part_block.new.source) c.args.upper c.args.reached.bucket c.args.reached.index
      (c.loop-block.place + c.series-count.result) c.put_lasts.new.cells
  taken =
      let entries = g.S.Source.entries in
      let answer = c.in_ok-block.ensures in
      let is = answer.found.block in
      let few : c.in_ok-block.index + c.series-count.result ≤ BLOCK_WINDOWS =
      omega (arith, c.series-count.ensures.few, c.min.ensures, answer.found.inside, c.len.ensures) in
      taken_more c.args.upper (entries c.args.source.now) (entries c.part_block.new.source)
      (window_in c.args.upper c.args.reached.index) c.args.reached.bucket
      (asked_both c.loop-block.invariant.asked answer.asked).grows c.requires.reached.bucket (entries c.loop-block.source) c.args.reached.index c.loop-block.place
      c.loop-block.at c.in_ok-block.block.now.number c.in_ok-block.index c.series-count.result c.loop-block.sent c.put_lasts.new.cells answer.asked.grows
      c.loop-block.invariant.taken (rw (is.number_is, is.known) refl) (omega (arith, answer.found.place, is.number_is)) few c.put_lasts.ensures series

  -- the last of them
  last : (w : List ℕ) × InBucket c.args.upper (window_in c.args.upper c.args.reached.index) c.args.reached.bucket
      (c.loop-block.place + (c.series-count.result - 1)) (c.loop-block.at + (c.series-count.result - 1)) w
  last = series (c.series-count.result - 1) (omega (arith, c.series-count.ensures.some))

  last_place : IsAtPlace (2 * c.args.upper.below + 1) c.args.upper.plan.now.ids c.args.reached.bucket.places last.0
      (c.loop-block.at + c.series-count.result - 1)
  last_place =
      let place : c.loop-block.at + (c.series-count.result - 1)
      ≡ c.loop-block.at + c.series-count.result - 1 = omega (arith, c.series-count.ensures.some) in
      rw place at last.1.is

pub returns-in_err-block : goal.returns-in_err-block
returns-in_err-block g c = missing_later _ c.from_residual.ensures.1 c.loop-block.invariant.asked c.in_err-block.ensures

pub returns-then-place-len : goal.returns-then-place-len
returns-then-place-len g c =
    let len = c.args.upper.len_is in
    record {
      asked = asked_both c.loop-block.invariant.asked c.in_ok-block.ensures.asked;
      found = record {
        later = omega (arith, c.loop-block.invariant.after, c.series-count.ensures.some);
        within = omega (arith, len, c.if-place-len.true);
        ended = λ fewer. absurd (omega (arith, len, c.if-place-len.true, fewer));
        last_is = own_entry _ _ _ _ _ c.in_ok-block.ensures.found.block;
        taken = taken g (goal.at.returns-then-place-len g c).After-put_lasts;
      };
      missing = tt;
    }

pub returns-in_default : goal.returns-in_default
returns-in_default g c =
    let d = (goal.at.returns-in_default g c).After-put_lasts in
    let some = c.series-count.ensures.some in
    let end = last g d in
    let greatest = c.in_default.ensures.last (2 * c.args.upper.below + 1) c.args.upper.plan.now.ids end.0 (omega arith)
    (last_place g d) in
    record {
      asked = asked_both c.loop-block.invariant.asked c.in_ok-block.ensures.asked;
      found = record {
        later = omega (arith, c.loop-block.invariant.after, some);
        within = omega (arith, c.args.upper.len_is, c.series-count.ensures.few, c.min.ensures, c.loop-block.invariant.within);
        ended = λ fewer. bucket_ends c.args.upper _ c.args.reached.bucket c.loop-block.place c.series-count.result _ end.0 some end.1 greatest;
        last_is = own_entry _ _ _ _ _ c.in_ok-block.ensures.found.block;
        taken = taken g d;
      };
      missing = tt;
    }

-- the last part of the window that is reached
module _ (g : Over) (c : At-loop-block g) where
  last_at : slice_get (windows (2 * c.args.upper.below + 1) c.args.upper.plan.now.ids)
      (c.args.reached.bucket.start + c.loop-block.at) ≡ Some (part c.loop-block.invariant.here.0 c.args.upper.below 2)
  last_at =
      let before = c.loop-block.invariant in
      let entries = g.S.Source.entries in
      last_part c.args.upper (entries c.args.source.now) (entries c.loop-block.source)
      (window_in c.args.upper c.args.reached.index) c.args.reached.bucket
      before.asked.grows c.requires.reached.bucket c.loop-block.place c.loop-block.at before.here.0 before.here.1

  last_inside : c.args.reached.bucket.start + c.loop-block.at < length (windows (2 * c.args.upper.below + 1) c.args.upper.plan.now.ids)
  last_inside = slice_get_within _ _ _ last_at

pub overflow_add-bucket : goal.overflow_add-bucket
overflow_add-bucket g c = omega (arith, last_inside g (goal.at.overflow_add-bucket g c).At-loop-block, c.args.upper.few)

pub part_block-requires : goal.part_block-requires
part_block-requires g c κs =
    let before = c.loop-block.invariant in
    let own = window_at _ _ _ before.here.0 before.here.1.here in
    let number = number_of_is _ _ _ _ (last_at g (goal.at.part_block-requires g c).At-loop-block) in (
      (refl, tt),
      (
        before.asked.same_plan ∙ c.requires.plan,
        (
          omega (arith, c.args.upper.len_is, before.within),
          (record { offset = 2; three = omega arith; number_is = rw own number }, before.last),
        ),
      ),
    )

pub loop-block-preserved : goal.loop-block-preserved
loop-block-preserved g c =
    let d = (goal.at.loop-block-preserved g c).After-put_lasts in
    let low = c.args.upper.below in
    let before = c.loop-block.invariant in
    let some = c.series-count.ensures.some in
    let end = last g d in
    let later = c.in-Some.ensures.next (2 * low + 1) c.args.upper.plan.now.ids end.0 (omega arith) (last_place g d) in
    record {
      after = omega (arith, before.after);
      within = omega (arith, c.if-place-len.false, c.series-count.ensures.few, c.min.ensures, before.within);
      at_inside = c.in-Some.ensures.inside.1;
      asked = asked_both before.asked c.in_ok-block.ensures.asked;
      here = (later.0, bucket_goes_on c.args.upper _ c.args.reached.bucket c.loop-block.place c.series-count.result _ end.0 some end.1 later.0 c.in-Some.next later.1 later.2 later.3);
      last = own_entry _ _ _ _ _ c.in_ok-block.ensures.found.block;
      wide = c.put_lasts.auto.cells ∙ before.wide;
      taken = taken g d;
    }
