use Rattle.std.proofs.Common.{◌≡◌, ◌+◌, length, sym, ◌∙◌, ap, arith}
use Rattle.win_index.proofs.JobPlaces.{jobs_are_below}
use Rattle.win_index.proofs.shape.Shape.jobs.Goals as goal

pub returns-clause-value : goal.returns-clause-value
returns-clause-value c =
    let shape = c.args.self.now in
    let all : c.loop-level.level ≡ shape.rounds + 1 = omega arith in
    rw all at c.loop-level.invariant.counted ∙ sym (ap length (jobs_are_below shape.ids shape.rounds))
