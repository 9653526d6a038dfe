use Rattle.std.proofs.Common.{◌++◌, codes, ap, ◌∙◌}
use Rattle.numerals.specs.Numerals.{row}
use Rattle.value_trees.specs.Trace.{row_line, told_trace}
use Rattle.value_trees.proofs.TraceLines.{trace_told}
use Rattle.value_trees.proofs.trace_lines.trace_text.Goals as goal

pub returns : goal.returns
returns c =
    let b = c.args.base in
    let x = c.args.ring.now.places in
    let named = c.in_ok-push_str.ensures.bytes ∙ ap (λ l. l ++ codes "ring") c.new-text.ensures.bytes in
    let first = c.in_ok-write_row.ensures ∙ (λ k. named k ++ row b (c.ids.ensures.value k)) in
    c.in_ok-write_trace.ensures
    ∙ (λ k. first k ++ told_trace b (c.in_ok-trace.ensures k))
    ∙ ap (λ l. row_line b (codes "ring") x ++ l) (trace_told b c.args.plan.now.program x)
