use Rattle.std.proofs.Common.{rules, ◌≡◌, ◌∙◌, ◌<◌, None, Some, Bool, List, Option, length, set, subst, sym, refl, ap}
use Rattle.std.proofs.Common.{inl, inr, arith}
use Rattle.std.proofs.lemmas.List.{get_or_read}
use Rattle.std.proofs.lemmas.Option.{MatchOption-at_some, MatchOption-at_none}
use Rattle.round_eval.specs.BlockStates.{MadeBlock}
use Rattle.fill_core.specs.FillMachine.{Worker, cell_of, learned, block_by, MarksBelow}
use Rattle.fill_core.specs.FillPromises.{HoldsJobs, MarkedAreFull}
use Rattle.fill_core.specs.FillStates.{worker_of}
use Rattle.fill_core.proofs.FillViews.{Seen, seen, seen_set, is_none_from}
use Rattle.fill_core.proofs.state.FillState.install.Goals as goal

pub invariant_of-known : goal.invariant_of-known
invariant_of-known c =
    let world = c.args.self.now in
    let own : Seen world.workers.items c.args.worker c.in-Some-get.hand.now = search (rules, seen) in
    record {
      holds = subst (λ (l : List (Option MadeBlock)). HoldsJobs world.plan.now l) (sym c.deref-2.ensures.value) c.requires.cells;
      marks = ap (λ (l : List Bool). length l) c.deref-3.ensures.value
          ∙ sym (ap (λ (v : Worker). length v.knows) own.is) ∙ c.requires.marks c.args.worker own.inside;
    }

pub make_known-requires-clause-full : goal.make_known-requires-clause-full
make_known-requires-clause-full c =
    let world = c.args.self.now in
    let own : Seen world.workers.items c.args.worker c.in-Some-get.hand.now = search (rules, seen) in
    let marks = c.deref-3.ensures.value ∙ ap (λ (v : Worker). v.knows) (sym own.is) in
    subst (λ (l : List (Option MadeBlock)). MarkedAreFull l c.deref-3.result.now) (sym c.deref-2.ensures.value)
    (subst (λ (l : List Bool). MarkedAreFull world.cells.items l) (sym marks) (c.requires.known c.args.worker))

pub returns-in_default-2 : goal.returns-in_default-2
returns-in_default-2 c =
    let world = c.args.self.now in
    let own : Seen world.workers.items c.args.worker c.in-Some-get.hand.now = search (rules, seen) in
    let marks = c.deref-3.ensures.value ∙ ap (λ (v : Worker). v.knows) (sym own.is) in
    let unknown : ¬ MarksBelow world.plan.now c.deref-3.result.now c.args.level c.args.number =
    MatchOption-at_none _ _ c.in_default-2.is c.in_ok-block.ensures in
    inr (λ job can. unknown (subst (λ (l : List Bool). MarksBelow world.plan.now l c.args.level c.args.number) (sym marks) can.knows_below), refl)

pub returns : goal.returns
returns c =
    let world = c.args.self.now in
    let w = c.args.worker in
    let job = c.in-Some.job in
    let own : Seen world.workers.items w c.in-Some-get.hand.now = search (rules, seen) in
    let below : w < length world.workers.items = search rules in
    let still = seen world.workers.items w c.index_mut-2.result.now below c.index_mut-2.ensures.value in
    let marks = c.deref-3.ensures.value ∙ ap (λ (v : Worker). v.knows) (sym own.is) in
    let job_is = rw (c.shape.ensures.ids, c.shape.ensures.rounds) at c.in-Some.ensures.number in
    let inside = rw (c.shape.ensures.ids, c.shape.ensures.rounds) at c.in-Some.ensures.below in
    let found = get_or_read world.cells.items job c.index.result.now (omega (arith, c.requires.cells.size, inside)) c.index.ensures None in
    let none : c.index.result.now ≡ None =
    is_none_from c.index.result.now (sym c.is_some.ensures ∙ c.if-is_some.false) in
    let made : (c.in-Some-2.block ≡ block_by world.plan.now c.args.level c.args.number w)
    × MarksBelow world.plan.now c.deref-3.result.now c.args.level c.args.number =
    MatchOption-at_some _ _ c.in-Some-2.block c.in-Some-2.is c.in_ok-block.ensures in
    let taught : worker_of c.learn.new.self ≡ learned job (worker_of c.index_mut-2.result.now) = c.learn.ensures in
    let workers = seen_set world.workers.items w c.index_mut-2.result.now c.learn.new.self (learned job) still taught in
    inl (
      job,
      record {
        is_worker = own.inside;
        is_job = sym job_is;
        empty = ap (cell_of world.cells.items) (sym job_is) ∙ sym found ∙ none;
        knows_below = subst (λ (l : List Bool). MarksBelow world.plan.now l c.args.level c.args.number) marks made.1;
      },
      λ i. record { plan = world.plan.now; cells = set world.cells.items job (Some (made.0 i)); next = world.next; workers = workers i },
    )
