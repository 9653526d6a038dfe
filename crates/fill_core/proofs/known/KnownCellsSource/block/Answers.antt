use Rattle.std.proofs.Common.{rules, ◌≡◌, ◌∙◌, true, false, None, get_or, sym, arith}
use Rattle.fill_core.specs.FillPromises.{HoldsJobs}
use Rattle.std.proofs.lemmas.List.{get_or_read}
use Rattle.fill_core.proofs.KnownSources.{entry_is}
use Rattle.fill_core.proofs.known.KnownCellsSource.block.Goals as goal

pub returns-in-Some-clause-found : goal.returns-in-Some-clause-found
returns-in-Some-clause-found c =
    let self = c.args.self.now in
    let job = c.in_ok-job.field-0 in
    let job_is = rw (c.shape.ensures.ids, c.shape.ensures.rounds) at c.in_ok-job.ensures.number in
    let inside = rw (c.shape.ensures.ids, c.shape.ensures.rounds) at c.in_ok-job.ensures.below in
    let holds : HoldsJobs self.plan.now self.cells.now = self.holds in
    let found = get_or_read self.cells.now job c.index-cells-job.result (omega (arith, holds.size, inside)) c.index-cells-job.is None in
    let known : get_or self.knows.now job false ≡ true = search rules in
    entry_is self.plan.now self.cells.now self.knows.now c.args.level c.args.number job c.in-Some.block
    c.jobs_have_numbers.ensures.at holds (sym job_is) known (sym found ∙ c.in-Some.is)
