use Rattle.std.proofs.Common.{◌≡◌, ℕ, ◌+◌, ◌-◌, ◌<◌, [], ◌∷◌, ◌++◌, length, drop, get_or, refl, sym, ◌∙◌, ap}
use Rattle.std.proofs.Common.{append_assoc, arith, rules}
use Rattle.round_eval.specs.Rows.{row_after, rows}
use Rattle.round_eval.proofs.RowLemmas.{length-rows, rows_written, row_from, row_from_last}
use Rattle.round_eval.proofs.row.round_of_row.Goals as goal

pub loop-node-preserved : goal.loop-node-preserved
loop-node-preserved c =
    let p = c.args.plan.now.program in
    let r : ℕ = c.args.round in
    let w : ℕ = c.width_of-width.result in
    let i : ℕ = c.loop-node.node in
    let states = c.args.states.now in
    let all = rows w c.args.nodes states in
    let own = c.row_at-own.ensures.value c.args.nodes (omega arith) in
    let after = c.row_at.ensures.value c.args.nodes (omega arith) in
    let inside : i + 1 < length all = omega (arith, length-rows w c.args.nodes states) in
    let from = rw (own, after, ← c.sent_to_left-right.ensures, ← c.sent_to_right-left.ensures, ← c.step.ensures) at
    (row_from p r c.loop-node.left c.args.from_right i all inside) in
    let written = rows_written w i (i + 1) c.loop-node.out c.step.new.out _ refl (search rules) (search rules) in
    let done = rows w i c.loop-node.out in
    ap (λ u. u ++ row_after p r c.sent_to_right-left.result (drop (i + 1) all) c.args.from_right) written
    ∙ append_assoc done (c.step.new.out ∷ [])
    (row_after p r c.sent_to_right-left.result (drop (i + 1) all) c.args.from_right)
    ∙ ap (λ u. done ++ u) (sym from)
    ∙ c.loop-node.invariant

pub returns : goal.returns
returns c =
    let p = c.args.plan.now.program in
    let w : ℕ = c.width_of-width.result in
    let i : ℕ = c.loop-node.node in
    let states = c.args.states.now in
    let all = rows w c.args.nodes states in
    let last : c.args.nodes - 1 ≡ i = omega arith in
    let own = ap (λ n. get_or all n []) (sym last) ∙ c.row_at-own-2.ensures.value c.args.nodes (omega arith) in
    let whole : i + 1 ≡ c.args.nodes = omega arith in
    let end : i + 1 ≡ length all = whole ∙ sym (length-rows w c.args.nodes states) in
    let from = rw (own, ← c.step-2.ensures) at
    (row_from_last p c.args.round c.loop-node.left c.args.from_right i all end) in
    let written = rows_written w (c.args.nodes - 1) c.args.nodes c.loop-node.out c.step-2.new.out _ (omega arith)
    (search rules) (search rules) in
    rw (← c.width_of-width.ensures.value)
    (written ∙ (λ j. rows w (last j) c.loop-node.out ++ sym from j) ∙ c.loop-node.invariant)
