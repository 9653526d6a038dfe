use Rattle.nbhd_check.proofs.PatternSteps.{free_by_second}
use Rattle.nbhd_check.proofs.patterns.PatternSearch.free_in_bucket.Goals as goal

pub returns-then-not-may_be_broken-clause-free : goal.returns-then-not-may_be_broken-clause-free
returns-then-not-may_be_broken-clause-free c =
    let self' = c.args.self.now in
    free_by_second self'.table.now self'.problem.now self'.before.items c.args.next c.args.least self'.table_is self'.before_are c.requires
    c.if-not-may_be_broken.ensures
