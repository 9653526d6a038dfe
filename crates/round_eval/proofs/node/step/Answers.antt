use Rattle.std.proofs.Common.{◌≡◌, map, get_or, Some, sym, ap, ◌∙◌}
use Rattle.std.specs.Prelude.{slice_get}
use Rattle.std.proofs.lemmas.List.{length-map, get_or-map}
use Rattle.std.proofs.lemmas.Option.{slice_get-get_or}
use Rattle.node_program.specs.Node.{next}
use Rattle.node_program.specs.Term.{step_of}
use Rattle.round_eval.proofs.node.step.Goals as goal

pub assign-requires : goal.assign-requires
assign-requires c =
    let inside = rw (← c.program-program.ensures.value, ← c.steps.ensures.value, length-map) at c.requires.round in
    let cells = rw (← c.program-program.ensures.value) at c.requires.cells in
    let each = c.steps.ensures.each c.args.round c.index-steps-round.result inside in
    rw c.deref.ensures.value (cells ∙ sym each)

-- All assignments of the round read the registers and both messages.
pub returns : goal.returns
unfolding next
returns c =
    let rounds = c.steps.result.now in
    let one = c.index-steps-round.result in
    let steps : c.args.plan.now.program.steps ≡ map step_of rounds =
    sym (c.steps.ensures.value ∙ ap (λ p. p.steps) c.program-program.ensures.value) in
    let inside = rw (← c.program-program.ensures.value, ← c.steps.ensures.value, length-map) at c.requires.round in
    let item = slice_get-get_or (map step_of rounds) c.args.round (step_of one) (rw length-map inside)
    ∙ ap Some (get_or-map step_of rounds c.args.round one (step_of one) inside) in
    let here : slice_get c.args.plan.now.program.steps c.args.round
    ≡ Some (step_of (get_or rounds c.args.round one)) = rw steps item in
    let read = c.reading_messages.ensures in
    rw here (simp (read.id, read.left, read.right, read.registers, c.deref.ensures.value) at c.assign.ensures)
