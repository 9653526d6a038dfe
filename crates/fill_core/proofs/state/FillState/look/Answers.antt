use Rattle.std.proofs.Common.{rules, ◌∙◌, ℕ, Option, None, IsSome, length, subst, sym, ap, inl, arith}
use Rattle.std.proofs.lemmas.List.{get_or_read}
use Rattle.round_eval.specs.BlockStates.{MadeBlock}
use Rattle.fill_core.specs.FillMachine.{Worker, cell_of, learned}
use Rattle.fill_core.proofs.FillViews.{Seen, seen, seen_set}
use Rattle.fill_core.proofs.state.FillState.look.Goals as goal

pub learn-requires : goal.learn-requires
learn-requires c =
    let own : Seen c.args.self.now.workers.items c.args.worker c.in-Some-get_mut.hand.now = search (rules, seen) in
    let size = sym (ap (λ (v : Worker). length v.knows) own.is) ∙ c.requires.marks c.args.worker own.inside in
    let inside = rw (c.shape.ensures.ids, c.shape.ensures.rounds) at c.in-Some.ensures.below in
    omega (arith, size, inside)

pub returns-then-is_some : goal.returns-then-is_some
returns-then-is_some c =
    let world = c.args.self.now in
    let w = c.args.worker in
    let job = c.in-Some.job in
    let hand = c.in-Some-get_mut.hand.now in
    let own : Seen world.workers.items w hand = search (rules, seen) in
    let job_is = rw (c.shape.ensures.ids, c.shape.ensures.rounds) at c.in-Some.ensures.number in
    let inside = rw (c.shape.ensures.ids, c.shape.ensures.rounds) at c.in-Some.ensures.below in
    let found = get_or_read world.cells.items job c.index.result.now (omega (arith, c.requires.cells.size, inside)) c.index.ensures None in
    let full = subst (λ (o : Option MadeBlock). IsSome o) found (sym c.is_some.ensures ∙ c.if-is_some.true) in
    let workers = seen_set world.workers.items w hand c.learn.new.self (learned job) own c.learn.ensures in
    inl (
      job,
      record { is_worker = own.inside; is_job = sym job_is; full = subst (λ (o : Option ℕ). IsSome (cell_of world.cells.items o)) job_is full },
      λ i. record { plan = world.plan.now; cells = world.cells.items; next = world.next; workers = workers i },
    )
