use Rattle.std.proofs.Common.{◌≡◌, ◌<◌, length, subst, sym}
use Rattle.node_program.specs.GlobalRounds.{state}
use Rattle.round_eval.specs.Configuration.{RingConfiguration}
use Rattle.round_eval.proofs.Configurations.{row_of_place}
use Rattle.round_eval.proofs.configuration.Configuration.held_by.Goals as goal

pub returns-clause-value : goal.returns-clause-value
returns-clause-value c =
    let was = c.self.inside in
    let own = c.row_at.result.now in
    let lt : c.args.place < length was.ring.now.places =
    subst (λ (s : RingConfiguration). c.args.place < length s.places) (sym c.self.view_is) c.requires in
    let row = rw (c.width_of.ensures.value, c.deref.ensures.value) at c.row_at.ensures.value
    (length was.ring.now.places) lt in
    subst (λ (s : RingConfiguration). own ≡ state s.program s.places s.round c.args.place) c.self.view_is
    (row_of_place _ was.states.items _ _ own c.self.invariant lt row)
