use Rattle.std.proofs.Common.{rules, ◌≡◌, ◌+◌, None, Some, true, refl, ap, ◌∙◌, inl, inr, arith}
use Rattle.shared_memo.specs.PlanJobs.{job_count}
use Rattle.fill_core.specs.FillMachine.{Worker, CanDraw}
use Rattle.fill_core.specs.FillStates.{machine_of}
use Rattle.fill_core.proofs.FillViews.{Seen, seen, seen_set}
use Rattle.fill_core.proofs.state.FillState.draw.Goals.{After-jobs}
use Rattle.fill_core.proofs.state.FillState.draw.Goals as goal

-- the worker may draw
module _ (c : After-jobs) where
  own : Seen c.args.self.now.workers.items c.args.worker c.in-Some.hand.now
  own = search (rules, seen)

  can : CanDraw (machine_of c.args.self.now) c.args.worker
  can =
      let none : c.in-Some.hand.now.job ≡ None = search rules in
      record {
        is_worker = own.inside;
        free = ap (λ (v : Worker). v.hand) own.is ∙ none;
        active = ap (λ (v : Worker). v.stopped) own.is ∙ c.if-hand.false;
      }

  count : c.jobs.result ≡ job_count c.args.self.now.plan.now
  count = rw (c.shape-shape.ensures.ids, c.shape-shape.ensures.rounds) at c.jobs.ensures.value

pub returns-then-self-jobs : goal.returns-then-self-jobs
returns-then-self-jobs c =
    let d = (goal.at.returns-then-self-jobs c).After-jobs in
    let world = c.args.self.now in
    let hand = c.in-Some.hand.now in
    let workers = seen_set world.workers.items c.args.worker hand (record hand { job = Some world.next })
    (λ v. record v { hand = Some world.next }) (own d) refl in
    inl (
      can d,
      omega (arith, count d, c.if-self-jobs.true),
      λ i. record { plan = world.plan.now; cells = world.cells.items; next = world.next + 1; workers = workers i },
    )

pub returns-else-self-jobs : goal.returns-else-self-jobs
returns-else-self-jobs c =
    let d = (goal.at.returns-else-self-jobs c).After-jobs in
    let world = c.args.self.now in
    let hand = c.in-Some.hand.now in
    let workers = seen_set world.workers.items c.args.worker hand (record hand { stopped = true })
    (λ v. record v { stopped = true }) (own d) refl in
    inr (inl (
      can d,
      omega (arith, count d, c.if-self-jobs.false),
      λ i. record { plan = world.plan.now; cells = world.cells.items; next = world.next; workers = workers i },
    ))
