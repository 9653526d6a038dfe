use Rattle.std.proofs.Common.{length, ap, ◌∙◌, arith}
use Rattle.std.proofs.lemmas.Bool.Decides.{nat_tests}
use Rattle.std.proofs.lemmas.List.{nil_from_length}
use Rattle.table_text.specs.TableText.{written, end_then, lines_then, text_of}
use Rattle.table_text.specs.Faults.{no_end, bytes_after}
use Rattle.table_text.proofs.reading.ends.Goals as goal

pub syntax-requires-clause-malformed : goal.syntax-requires-clause-malformed
syntax-requires-clause-malformed c = no_end (written c.args.version c.args.table.now c.args.separation)
    c.requires.written c.requires.lines c.in_default.ensures

pub syntax-requires-then-not-is_empty-clause-malformed : goal.syntax-requires-then-not-is_empty-clause-malformed
syntax-requires-then-not-is_empty-clause-malformed c =
    let w = written c.args.version c.args.table.now c.args.separation in
    bytes_after w c.requires.written (c.requires.lines ∙ ap (lines_then w) c.in-Some.ensures)
    (λ none. let size = ap length none in grind (arith, nat_tests))

pub returns-clause-ok : goal.returns-clause-ok
unfolding text_of
returns-clause-ok c =
    let w = written c.args.version c.args.table.now c.args.separation in
    let none = nil_from_length c.in-Some.more.now (grind (arith, nat_tests)) in
    c.requires.lines ∙ ap (lines_then w) (c.in-Some.ensures ∙ ap end_then none)
