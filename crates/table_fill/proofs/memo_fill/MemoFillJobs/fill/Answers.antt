use Rattle.std.proofs.Common.{◌≡◌, ℕ, List, [], ◌∷◌, ◌++◌, Some, true, length, sym, ◌∙◌, rules, subst}
use Rattle.std.specs.Prelude.{is_some, slice_get}
use Rattle.std.proofs.lemmas.Option.{some_pair_parts}
use Rattle.std.proofs.lemmas.List.Elements.{All-append, All-cons, All-nil}
use Rattle.lang_check.specs.Plans.{ProgramForIds}
use Rattle.round_eval.specs.Entries.{Entries, Grows}
use Rattle.win_index.specs.Jobs.{jobs_of}
use Rattle.win_index.specs.Laws.{JobsStandAtNumbers}
use Rattle.shared_memo.specs.PlanJobs.{job_of}
use Rattle.unroll.proofs.KnownBlocks.{still_known}
use Rattle.shared_memo.specs.Filled.{AreKnown}
use Rattle.shared_memo.specs.Passes.{known}
use Rattle.shared_memo.specs.Tickets.{drawn}
use Rattle.table_fill.proofs.memo_fill.MemoFillJobs.fill.Goals as goal

-- one more job is known
known_with :
    (plan : ProgramForIds) (old new : Entries) (jobs : List ℕ) (job : ℕ) → Grows old new → AreKnown plan old jobs
    → ((level number : ℕ) → job_of plan level number ≡ Some job → is_some (new level number) ≡ true)
    → AreKnown plan new (jobs ++ job ∷ [])
known_with plan old new jobs job grows known last =
    let P : ℕ → Type 0 = λ j. (level number : ℕ) → job_of plan level number ≡ Some j
    → is_some (new level number) ≡ true in
    All-append P jobs (job ∷ [])
    (λ k d lt level number at. still_known old new level number grows (known k d lt level number at))
    (All-cons P job [] last (All-nil P))

-- a job's level and block are the only ones with its number
block_of_job :
    (plan : ProgramForIds) (new : Entries) (job level block : ℕ) → JobsStandAtNumbers
    → slice_get (jobs_of plan.ids (length plan.program.steps)) job ≡ Some (level, block)
    → is_some (new level block) ≡ true → (l n : ℕ) → job_of plan l n ≡ Some job → is_some (new l n) ≡ true
block_of_job plan new job level block stand at filled l n is =
    let t : ℕ = length plan.program.steps in
    let same = some_pair_parts l level n block (sym ((stand plan.ids t l n job).0 is) ∙ at) in
    rw (same.0, same.1) filled

pub loop-job-preserved : goal.loop-job-preserved
loop-job-preserved g c =
    let plan = c.args.self.now.memo.now.plan.now in
    let new : Entries = known c.fill.new.self.reader.pass in
    let jobs = drawn c.loop-job.ticket in
    let job = c.in-Some.job in
    let level = c.job-level.result.0 in
    let block = c.job-level.result.1 in
    let all : drawn c.draw.new.ticket ≡ jobs ++ job ∷ [] = search rules in
    let at : slice_get (jobs_of plan.ids (length plan.program.steps)) job ≡ Some (level, block) =
    rw (c.shape-shape.ensures.ids, c.shape-shape.ensures.rounds, c.plan.ensures) at c.job-level.ensures.job in
    let filled : is_some (new level block) ≡ true = search rules in
    let last = block_of_job plan new job level block c.jobs_have_numbers.ensures.at at filled in
    let known_all : AreKnown plan new (jobs ++ job ∷ []) =
    known_with plan (known c.loop-job.cells.reader.pass) new jobs job c.fill.ensures.goes_on.grows c.loop-job.invariant.filled last in
    record {
      ticket = search rules;
      untold = search rules;
      worker = search rules;
      same_plan = search rules;
      same_memo = search rules;
      filled = rw all known_all;
    }

pub returns-clause-filled : goal.returns-clause-filled
returns-clause-filled g c =
    let inv = c.loop-job.invariant in
    let entries : Entries = known c.loop-job.cells.reader.pass in
    let same : drawn c.draw.new.ticket ≡ drawn c.loop-job.ticket = search rules in (
      rw inv.same_memo at c.loop-job.cells.reader.pass_of,
      subst (λ jobs. AreKnown c.args.self.now.memo.now.plan.now entries jobs) (sym same) inv.filled,
    )
