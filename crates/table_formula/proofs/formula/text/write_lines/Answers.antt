use Rattle.std.proofs.Common.{◌++◌, refl, rules}
use Rattle.devices.proofs.Writing.{on_err, sends_all, tells_front, tells_none}
use Rattle.table_formula.specs.Texts.{clauses_text}
use Rattle.table_formula.proofs.formula.text.write_lines.Goals as goal

pub returns-in_err-send : goal.returns-in_err-send
returns-in_err-send g c =
    let comment = c.args.comment.now in
    record {
      ok = search rules;
      front = on_err c.from_residual.result
          (tells_front _ _ _ comment comment _ (clauses_text c.args.formula.now) (tells_none _ comment) c.in_err-send.ensures.front refl);
      fault = search rules;
    }

pub returns : goal.returns
returns g c =
    sends_all _ _ _ (clauses_text c.args.formula.now) (c.args.comment.now ++ clauses_text c.args.formula.now) _ c.write_clauses.result
    (c.args.comment.now, c.in_ok-send.ensures.ok, refl) c.write_clauses.ensures
