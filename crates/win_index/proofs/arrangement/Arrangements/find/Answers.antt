use Rattle.std.proofs.Common.{sym, ◌∙◌}
use Rattle.std.proofs.lemmas.Bool.{false≢true}
use Rattle.win_index.proofs.Positions.{number_of_is, number_of_none}
use Rattle.win_index.proofs.arrangement.Arrangements.find.Goals as goal
use Rattle.win_index.proofs.arrangement.Arrangements.find.Goals.{else-list-len-via-then-list-len+else-is_window}
use Rattle.win_index.proofs.arrangement.Arrangements.find.Goals.{else-list-len-via-else-list-len}

pub returns-then-is_window-clause-number : goal.returns-then-is_window-clause-number
returns-then-is_window-clause-number c =
    sym (number_of_is _ _ _ c.args.list.now c.number.ensures.item)

pub returns-else-list-len-clause-number : goal.returns-else-list-len-clause-number
returns-else-list-len-clause-number c =
    let list = c.args.list.now in
    sym (number_of_none c.args.self.len c.args.self.ids list (λ window.
    elim c.else-list-len.branch [
      | else-list-len-via-then-list-len+else-is_window w ↦
          false≢true (sym w.if-is_window.false ∙ w.is_window.ensures.1 (rw (← w.if-list-len.true) at window))
      | else-list-len-via-else-list-len w ↦ w.if-list-len.false window.size
    ]))
