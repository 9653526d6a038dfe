use Rattle.std.proofs.Common.{◌+◌, ◌++◌, map, drop, string_bytes, append_assoc, sym, ap, ◌∙◌}
use Rattle.node_lang.proofs.Texts.{next_item}
use Rattle.value_trees.specs.Rows.{rows_of_round}
use Rattle.value_trees.specs.Trace.{told_round, told_rounds}
use Rattle.value_trees.proofs.trace_lines.write_rounds.Goals as goal

-- The lines of one more round were written.
pub rounds-preserved : goal.rounds-preserved
rounds-preserved c =
    let b = c.args.base in
    let k = c.rounds.done in
    let e = c.index-rounds-done in
    let next = next_item rows_of_round c.args.rounds.now k e.result c.rounds-test.true e.is in
    let before = string_bytes c.rounds.text in
    let left = told_rounds b (k + 1) (drop (k + 1) (map rows_of_round c.args.rounds.now)) in
    ap (λ l. l ++ left) c.in_ok-write_round.ensures
    ∙ append_assoc before (told_round b (k + 1) (rows_of_round e.result)) left
    ∙ ap (λ rows. before ++ told_rounds b k rows) (sym next)
    ∙ c.rounds.invariant
