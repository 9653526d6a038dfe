use Rattle.std.proofs.Common.{◌++◌, ap, drop, refl, rules}
use Rattle.devices.proofs.Writing.{on_err, sends_all, tells_front, tells_none}
use Rattle.json_reports.specs.TableTexts.{rest_text}
use Rattle.json_reports.proofs.tables.write_parts.Goals as goal

pub returns-in_err-send : goal.returns-in_err-send
returns-in_err-send g c =
    let head = c.args.head.now in
    record {
      ok = search rules;
      front = on_err c.from_residual.result
          (tells_front _ _ _ head head _ (rest_text (drop 1 c.args.entries.now)) (tells_none _ head) c.in_err-send.ensures.front refl);
      fault = search rules;
    }

pub returns : goal.returns
returns g c =
    let head = c.args.head.now in
    let rest = c.others.result.now in
    sends_all _ _ _ (rest_text rest) (head ++ rest_text (drop 1 c.args.entries.now)) _ c.write_rest.result
    (head, c.in_ok-send.ensures.ok, ap (λ ns. head ++ rest_text ns) c.others.ensures) c.write_rest.ensures
