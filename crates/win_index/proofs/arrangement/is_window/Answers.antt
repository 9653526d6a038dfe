use Rattle.std.proofs.Common.{sym, ◌∙◌}
use Rattle.win_index.proofs.Positions.{front_more}
use Rattle.win_index.proofs.arrangement.is_window.Goals as goal

pub loop-place-preserved : goal.loop-place-preserved
loop-place-preserved c =
    front_more _ _ c.args.list.now c.loop-place-test.true c.loop-place.invariant c.if-x-ids.false
    (sym c.contains.ensures.value ∙ c.if-contains.false)
