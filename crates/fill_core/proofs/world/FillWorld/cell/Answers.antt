use Rattle.std.proofs.Common.{◌∙◌, None, subst, sym, ap, arith}
use Rattle.lang_check.specs.Plans.{ProgramForIds}
use Rattle.shared_memo.specs.PlanJobs.{IsKeyedBlock}
use Rattle.fill_core.specs.FillMachine.{Machine}
use Rattle.std.proofs.lemmas.List.{get_or_read}
use Rattle.fill_core.proofs.KnownSources.{keyed}
use Rattle.fill_core.proofs.world.FillWorld.cell.Goals as goal

pub returns-in-Some-clause-block : goal.returns-in-Some-clause-block
returns-in-Some-clause-block c =
    let world = c.self.inside.world in
    let job = c.in_ok-job.job in
    let job_is = rw (c.shape.ensures.ids, c.shape.ensures.rounds) at c.in_ok-job.ensures.number in
    let inside = rw (c.shape.ensures.ids, c.shape.ensures.rounds) at c.in_ok-job.ensures.below in
    let found = get_or_read world.cells.items job c.index.result.now
    (omega (arith, c.self.invariant.cells.size, inside)) c.index.ensures None in
    let own : IsKeyedBlock world.plan.now c.args.level c.args.number c.in-Some.block =
    keyed world.plan.now world.cells.items c.args.level c.args.number job c.in-Some.block c.jobs_have_numbers.ensures.at c.self.invariant.cells (sym job_is)
    (sym found ∙ c.in-Some.is) in
    subst (λ (p : ProgramForIds). IsKeyedBlock p c.args.level c.args.number c.in-Some.block)
    (ap (λ (m : Machine). m.plan) c.self.view_is) own
