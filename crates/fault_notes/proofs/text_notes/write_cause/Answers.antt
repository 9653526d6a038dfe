use Rattle.std.proofs.Common.{◌++◌, ap, ◌∙◌, append_assoc, string_bytes, codes}
use Rattle.std.proofs.lemmas.Result.{IfOk-equal}
use Rattle.fault_notes.specs.Words.{wanted_part}
use Rattle.fault_notes.proofs.text_notes.write_cause.Goals as goal

pub returns-in_ok-push_str-in-EndOfText : goal.returns-in_ok-push_str-in-EndOfText
returns-in_ok-push_str-in-EndOfText c =
    rw c.in-EndOfText.is (IfOk-equal c.write_wanted_part.result _ _ _ c.write_wanted_part.ensures
    (ap (λ x. x ++ wanted_part c.args.wanted) c.in_ok-push_str-in-EndOfText.ensures.bytes
    ∙ append_assoc (string_bytes c.args.out.now) (codes "unexpected end of the text") (wanted_part c.args.wanted)))
