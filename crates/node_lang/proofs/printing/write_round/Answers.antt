use Rattle.std.proofs.Common.{string_bytes}
use Rattle.std.proofs.lemmas.Result.{IfOk-equal}
use Rattle.node_lang.proofs.Writing.{three_more}
use Rattle.node_lang.proofs.printing.write_round.Goals as goal

pub returns : goal.returns
returns c =
    IfOk-equal c.write_assignments.result _ _ _ c.write_assignments.ensures
    (rw (c.in_ok-write_line-2.ensures, c.in_ok-write_line.ensures, c.deref.ensures.value)
    (three_more (string_bytes c.args.text.now) _ _ _))
