use Rattle.std.proofs.Common.{ℕ, ◌+◌, ◌∷◌, [], ◌++◌, map, take, get_or, refl, sym, ◌∙◌, ap, rules}
use Rattle.std.proofs.lemmas.List.{take_more, map-append}
use Rattle.node_program.specs.Node as rounds
use Rattle.round_eval.proofs.RowLemmas.{rows_written}
use Rattle.round_eval.proofs.row.start_of_row.Goals as goal

pub loop-place-preserved : goal.loop-place-preserved
loop-place-preserved c =
    let ids = c.args.ids.now in
    let i : ℕ = c.loop-place.place in
    let w : ℕ = c.width_of-width.result in
    let start = rounds.start c.args.plan.now.program in
    let written = rows_written w i (i + 1) c.loop-place.states c.start_state.new.out _ refl (search rules)
    (search rules) in
    let more = ap (map start) (take_more ids i 0 c.loop-place-test.true)
    ∙ map-append start (take i ids) (get_or ids i 0 ∷ []) in
    written ∙ (λ j. c.loop-place.invariant j ++ c.start_state.ensures j ∷ []) ∙ sym more
