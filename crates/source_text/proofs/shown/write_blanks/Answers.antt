use Rattle.std.proofs.Common.{◌++◌, ap, ◌∙◌, string_bytes}
use Rattle.source_text.proofs.LineParts.{blanks_next}
use Rattle.source_text.proofs.shown.write_blanks.Goals as goal

pub bytes-preserved : goal.bytes-preserved
bytes-preserved c = blanks_next _ _ _ c.args.bytes.now c.bytes.byte-index c.bytes-test.true c.bytes.invariant
    (c.in_ok-push_str.ensures.bytes ∙ ap (λ xs. string_bytes c.bytes.out ++ xs) c.blanks_of.ensures)
