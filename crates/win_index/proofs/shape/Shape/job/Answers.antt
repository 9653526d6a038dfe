use Rattle.std.proofs.Common.{◌≡◌, ◌+◌, length, ap, arith}
use Rattle.win_index.proofs.JobPlaces.{jobs_are_below, job_at}
use Rattle.win_index.proofs.shape.Shape.job.Goals as goal

pub returns-then-block-blocks-clause-job : goal.returns-then-block-blocks-clause-job
returns-then-block-blocks-clause-job c =
    let shape = c.args.self.now in
    job_at shape.ids shape.rounds c.loop-level.level c.loop-level.block c.args.number (omega arith)
    (omega (arith, c.blocks-blocks.ensures.value)) c.loop-level.invariant

pub unreachable-requires : goal.unreachable-requires
unreachable-requires c =
    let shape = c.args.self.now in
    let all : c.loop-level.level ≡ shape.rounds + 1 = omega arith in
    omega (arith, rw all at c.loop-level.invariant, ap length (jobs_are_below shape.ids shape.rounds), c.requires)
