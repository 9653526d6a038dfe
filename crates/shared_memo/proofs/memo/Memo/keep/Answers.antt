use Rattle.std.proofs.Common.{◌≡◌, Some, ◌∙◌, ⊎_elim, sym}
use Rattle.shared_memo.specs.PlanJobs.{job_of}
use Rattle.shared_memo.specs.Known.{known_of, seen_of}
use Rattle.shared_memo.proofs.Sets.{IsAt, cell_at, cells_put, item_here, item_put, keeps_put, learns_put, is_installed}
use Rattle.shared_memo.proofs.memo.Memo.keep.Goals.{After-job_at-at}
use Rattle.shared_memo.proofs.memo.Memo.keep.Goals as goal

-- the job is that of the block
job_is : (c : After-job_at-at)
    → job_of c.args.self.now.plan.now c.args.block.value.level c.args.block.value.number ≡ Some c.job_at-at.result
job_is c = rw (c.level.ensures.value, c.deref.ensures, c.number.ensures.value, c.deref-2.ensures) at c.job_at-at.ensures.at

pub put-requires : goal.put-requires
put-requires c =
    let within = c.job_at-at.ensures.within in
    cell_at _ _ _ _ _ c.requires.pass.1 (within.1, c.index_mut.ensures.value) within.0 c.index-cell.ensures

pub invariant_of-pass : goal.invariant_of-pass
invariant_of-pass c =
    let job = job_is (goal.at.invariant_of-pass c).After-job_at-at in
    let here : IsAt c.args.pass.now.entries.items c.job_at-at.result c.index_mut.result.now =
    (c.job_at-at.ensures.within.1, c.index_mut.ensures.value) in
    record {
      keeps = keeps_put _ _ _ c.index_mut.result.now c.put.new.self here c.args.pass.now.keeps (λ b is.
          ⊎_elim (λ (old : known_of c.put.new.self ≡ known_of c.index_mut.result.now). c.args.pass.now.keeps _ b (item_here known_of _ _ _ here ∙ sym old ∙ is))
          (λ (new : known_of c.put.new.self ≡ Some c.args.block.value).
          let same : b ≡ c.args.block.value = cc in
          rw (same, c.requires.pass.0) (c.requires.plan, job))
          c.put.ensures.only);
    }

pub returns-clause-pass : goal.returns-clause-pass
returns-clause-pass c =
    (c.requires.pass.0, cells_put _ _ _ _ c.index_mut.ensures.value c.put.ensures.cell ∙ c.requires.pass.1)

pub returns-clause-learns : goal.returns-clause-learns
returns-clause-learns c =
    rw c.requires.pass.0 (learns_put c.args.self.now.plan.now _ c.args.block.value.level c.args.block.value.number _ c.index_mut.result.now c.put.new.self
    c.jobs_have_numbers.ensures.at (job_is (goal.at.returns-clause-learns c).After-job_at-at)
    (c.job_at-at.ensures.within.1, c.index_mut.ensures.value) c.put.ensures.kept)

pub returns-clause-installed : goal.returns-clause-installed
returns-clause-installed c =
    rw c.requires.pass.0 (is_installed c.args.self.now.plan.now _ _ c.index_mut.result.now c.put.new.self c.args.block.value c.put.result
    (c.job_at-at.ensures.within.1, c.index_mut.ensures.value)
    (job_is (goal.at.returns-clause-installed c).After-job_at-at) c.put.ensures.put)

pub returns-clause-seen : goal.returns-clause-seen
returns-clause-seen c =
    rw (
      c.requires.pass.0,
      job_is (goal.at.returns-clause-seen c).After-job_at-at,
      item_put seen_of c.args.pass.now.entries.items c.job_at-at.result c.put.new.self c.job_at-at.ensures.within.1,
    )
    c.put.ensures.seen
