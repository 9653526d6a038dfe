use Rattle.std.proofs.Common.{◌++◌, ap, ◌∙◌, append_assoc, string_bytes}
use Rattle.fault_notes.specs.Words.{wanted_part}
use Rattle.fault_notes.specs.TextNotes.{quoted}
use Rattle.std.proofs.lemmas.Result.{IfOk-equal}
use Rattle.fault_notes.proofs.text_notes.write_word.Goals as goal

-- The three pieces.
pub returns : goal.returns
returns c =
    let start = string_bytes c.args.out.now in
    let word = quoted c.args.word.now in
    let head = c.args.head.now in
    IfOk-equal c.write_wanted_part.result _ _ _ c.write_wanted_part.ensures
    (ap (λ x. x ++ wanted_part c.args.wanted)
    (c.in_ok-write_quoted.ensures ∙ ap (λ x. x ++ word) c.in_ok-push_str.ensures.bytes)
    ∙ append_assoc (start ++ head) word (wanted_part c.args.wanted)
    ∙ append_assoc start head (word ++ wanted_part c.args.wanted))
