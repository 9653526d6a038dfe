use Rattle.std.proofs.Common.{List, ◌++◌, sym, ap, ◌∙◌, arith, append-nil}
use Rattle.table_formula.specs.declared.formula.conflict.Conflict.{Conflict}
use Rattle.table_formula.proofs.CloseChannels.{close_before, close_whole}
use Rattle.table_formula.proofs.formula.conflict.push_close_to.Goals as goal

pub loop-second-init : goal.loop-second-init
loop-second-init c =
    let none = close_before c.close_start-second.result c.args.step c.args.distance c.args.first
    (omega (arith, c.close_start-second.ensures)) in
    sym (ap (λ (pairs : List Conflict). c.args.out.now.items ++ pairs) none ∙ append-nil c.args.out.now.items)

pub returns : goal.returns
returns c =
    let end = c.close_end-second-end.ensures in
    c.loop-second.invariant
    ∙ ap (λ (pairs : List Conflict). c.args.out.now.items ++ pairs)
    (close_whole c.args.channels c.args.step c.args.distance c.args.first c.loop-second.second c.requires
    (omega (arith, end, c.loop-second-test.false))
    (λ some. let most = c.loop-second.auto.second-end (omega (arith, some, end, c.close_start-second.ensures)) in
    omega (arith, most, end)))
