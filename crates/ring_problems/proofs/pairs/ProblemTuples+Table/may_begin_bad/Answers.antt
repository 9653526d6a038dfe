use Rattle.std.proofs.Common.{sym, ◌∙◌}
use Rattle.ring_problems.proofs.Thirds.{none_by_begin, none_by_ends, on_false}
use Rattle.ring_problems.proofs.pairs.ProblemTuples+Table.may_begin_bad.Goals as goal

pub returns-then-not-may_begin : goal.returns-then-not-may_begin
returns-then-not-may_begin c =
    none_by_begin c.args.self.windows.now c.args.self.problem.now c.args.pair.now _ _ (sym c.channel_from.ensures)
    (sym c.channel_from-2.ensures)
    c.if-not-may_begin.ensures

pub returns : goal.returns
returns c =
    on_false c.may_end.result _ _
    (none_by_ends c.args.self.windows.now c.args.self.problem.now c.args.pair.now c.thirds.result _ _ (sym c.channel_from.ensures)
    (sym c.channel_from-2.ensures) (sym c.is_long.ensures ∙ c.if-not-is_long.false) c.thirds.ensures.thirds) c.may_end.ensures
