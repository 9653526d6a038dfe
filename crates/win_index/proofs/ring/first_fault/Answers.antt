use Rattle.std.proofs.lemmas.List.{take_all}
use Rattle.win_index.proofs.Positions.{front_more}
use Rattle.win_index.proofs.Unused.{lacks_from_differs}
use Rattle.win_index.proofs.ring.first_fault.Goals as goal

pub loop-place-preserved : goal.loop-place-preserved
loop-place-preserved c =
    front_more _ _ _ c.loop-place-test.true c.loop-place.invariant c.if-id-shape.false
    (lacks_from_differs _ _ c.in_default.ensures)

pub returns : goal.returns
returns c =
    let front = c.loop-place.invariant in
    let whole = take_all c.loop-place.place c.args.ids.now c.loop-place-test.false in
    record {
      long = c.if-ids-shape.false;
      short = c.if-ids-shape-2.false;
      below = rw whole at front.below;
      distinct = rw whole at front.distinct;
    }
