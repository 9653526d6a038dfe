use Rattle.std.proofs.Common.{◌≡◌, sym, arith}
use Rattle.std.proofs.lemmas.Option.{slice_get_within}
use Rattle.win_index.specs.Jobs.{jobs_of}
use Rattle.win_index.proofs.JobNumbers.{number_of_job, job_number_at, job_number_none}
use Rattle.win_index.proofs.shape.Shape.job_number.Goals as goal
use Rattle.win_index.proofs.shape.Shape.job_number.Goals.{then-level-self-via-then-level-self}
use Rattle.win_index.proofs.shape.Shape.job_number.Goals.{then-level-self-via-else-level-self+then-block-blocks}

pub returns-then-level-self-clause-number : goal.returns-then-level-self-clause-number
returns-then-level-self-clause-number c =
    let shape = c.args.self.now in
    sym (job_number_none shape.ids shape.rounds c.args.level c.args.block (elim c.then-level-self.branch [
      | then-level-self-via-then-level-self w ↦ λ key. absurd (omega (arith, key.0))
      | then-level-self-via-else-level-self+then-block-blocks w ↦
          λ key. absurd (omega (arith, key.1, w.if-block-blocks.true, w.blocks-else-level-self.ensures.value))
    ]))

pub returns-clause-number : goal.returns-clause-number
returns-clause-number c =
    let shape = c.args.self.now in
    let level : c.loop-lower.lower ≡ c.args.level = omega arith in
    sym (job_number_at shape.ids shape.rounds c.args.level c.args.block c.loop-lower.number (omega arith)
    (omega (arith, c.blocks-else-level-self.ensures.value)) (rw level at c.loop-lower.invariant.counted))

pub returns-clause-below : goal.returns-clause-below
returns-clause-below c =
    let shape = c.args.self.now in
    let job = number_of_job shape.ids shape.rounds c.args.level c.args.block c.loop-lower.number in
    slice_get_within (jobs_of shape.ids shape.rounds) c.loop-lower.number (c.args.level, c.args.block)
    (job.0 (sym (returns-clause-number c)))
