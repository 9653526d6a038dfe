use Rattle.std.proofs.Common.{◌≡◌, ◌+◌, ◌-◌, refl, ◌∙◌, arith}
use Rattle.std.proofs.lemmas.List.{with_items_is}
use Rattle.unroll.proofs.Fronts.{columns_more, states_more}
use Rattle.unroll.proofs.gathering.take_fronts.Goals as goal

pub returns-then-not-upper-clause-held : goal.returns-then-not-upper-clause-held
returns-then-not-upper-clause-held c =
    let count = c.args.end - c.args.from in
    let sum : c.args.from + (c.args.end - c.args.from) ≡ c.args.end = omega (arith, c.requires.fronts.order) in
    let whole = with_items_is c.args.scratch.now.from_left c.fill_some.new.cells (c.fill_some.auto.cells
    ∙ c.deref_mut.ensures.len) in (
      columns_more c.args.upper c.args.bucket c.args.from count c.args.end sum c.args.scratch.now _ c.requires.held c.requires.fronts.each c.if-not-upper.true
          (rw whole (rw c.deref_mut.ensures.value at c.fill_some.ensures)) c.fill_states.ensures.size.0
          (omega (arith, sum, c.requires.fronts.few, c.requires.ready.own_wide.0)) c.fill_states.ensures.states,
      refl,
    )

pub returns-clause-held : goal.returns-clause-held
returns-clause-held c =
    let count = c.args.end - c.args.from in
    let sum : c.args.from + (c.args.end - c.args.from) ≡ c.args.end = omega (arith, c.requires.fronts.order) in (
      states_more c.args.upper c.args.bucket c.args.from count c.args.end sum c.args.scratch.now _ c.requires.held c.requires.fronts.each
          c.states_from_parts.ensures.next c.step.new.out c.if-not-upper.false c.fill_states-2.ensures.size.0
          (omega (arith, sum, c.requires.fronts.few, c.requires.ready.made_wide.0)) c.fill_states-2.ensures.states c.step.ensures,
      refl,
    )
