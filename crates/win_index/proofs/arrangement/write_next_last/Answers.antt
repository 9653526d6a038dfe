use Rattle.std.proofs.Common.{◌-◌, take, sym, ◌∙◌, arith}
use Rattle.win_index.proofs.Successors.{next_in_last_cell, next_is_window}
use Rattle.win_index.proofs.arrangement.write_next_last.Goals as goal

pub returns-clause-next : goal.returns-clause-next
returns-clause-next c =
    next_in_last_cell c.args.len c.args.ids (c.args.len - 1) c.in-Some.next c.args.list.now (omega arith) (omega arith)
    (sym c.least_unused.ensures ∙ c.in-Some.is)

pub returns-clause-window : goal.returns-clause-window
returns-clause-window c =
    next_is_window c.args.len c.args.ids (take c.args.len c.args.list.now) _ c.requires.window
    (returns-clause-next c)
