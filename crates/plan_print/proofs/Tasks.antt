-- What holds of what each task finds, if it holds of each kind of report.
use Rattle.std.proofs.Common.{ℕ, ◌≤◌, List, length, Option, Some, None}
use Rattle.node_program.specs.declared.limits.TheConstants.{MAX_ROUNDS}
use Rattle.node_program.specs.Term.{ProgramTree}
use Rattle.win_index.specs.declared.limits.TheConstants.{MAX_IDS}
use Rattle.win_index.specs.Ring.{IsRing}
use Rattle.channel_tables.specs.Tables.{ChannelTable}
use Rattle.channel_tables.specs.declared.separation.Separation.{Separation}
use Rattle.numerals.specs.declared.base.Base.{Base}
use Rattle.ring_problems.specs.declared.problem.Demand.{Demand}
use Rattle.ring_problems.specs.declared.problem.Demand.TheVariants.{Apart, Solve}
use Rattle.ring_problems.specs.declared.problem.Problem.{Problem}
use Rattle.table_fill.specs.ProgramTables.{table_of}
use Rattle.reports.specs.Findings.{Finding}
use Rattle.reports.specs.FormulaReports.{IsFormulaReport, IsRefuteReport}
use Rattle.reports.specs.ProblemFaults.{problem as numbered}
use Rattle.reports.specs.Report.{Finds, IsAnswerOnRing, IsDemandJudgement, IsAudit, IsExplainAnswer, IsJudgement}
use Rattle.reports.specs.Report.{IsOnRingByTable, IsPrintReport, IsProblemJudgement, IsProgramReport}
use Rattle.reports.specs.Report.{IsRunAnswer, IsTableReport}
use Rattle.task_words.specs.declared.task.Task.{Task}
use Rattle.task_words.specs.declared.task.Task.TheVariants.{Check, Print, Table, Judge, Run, Trace, Explain, Plan}
use Rattle.task_words.specs.declared.task.Task.TheVariants.{Audit, Apply, Migrate, Formula, Refute}
use Rattle.plan_print.specs.Notes.{IsFound}
use Rattle.plan_print.specs.TaskReport.{IsReport}

-- the numbers of rounds and of identifiers are in their ranges
abbrev pub AreFew : ℕ → ℕ → Type 0
AreFew rounds ids = (rounds ≤ MAX_ROUNDS) × (ids ≤ MAX_IDS)

-- `Holds` is of relations that findings may have to a task, `Known` is what is known of the task.
module _ (Known : Task → Type 0) (input : List ℕ) (Holds : (Finding → Type 0) → Type 0)
    (value : (f : Finding) → IsFound input f → Holds (Finds f))
    (judgement : (t : ChannelTable) (s : Separation) → AreFew t.rounds t.ids → Holds (IsJudgement t s))
    (solution : (t : ChannelTable) (problem : Problem) → Holds (IsProblemJudgement t problem))
    (run : (p : ProgramTree) (x : List ℕ) (segments : ℕ) → Holds (IsRunAnswer p x segments))
    (explanation : (b : Base) (p : ProgramTree) (x : List ℕ) (place : ℕ) → Holds (IsExplainAnswer b p x place))
    (by_table : (t : ChannelTable) (x : List ℕ) → IsRing t.ids t.rounds x → Holds (IsOnRingByTable t x))
    (on_ring : (m t : ℕ) (x : List ℕ) (is : Finding → Type 0) → AreFew t m → (IsRing m t x → Holds is)
    → Holds (IsAnswerOnRing m t x is))
    (on_program : (m : ℕ) (is : ProgramTree → Finding → Type 0)
    → ((p : ProgramTree) → AreFew (length p.steps) m → Holds (is p))
    → Holds (IsProgramReport m is input))
    (on_table : (is : ChannelTable → Separation → Finding → Type 0)
    → ((t : ChannelTable) (s : Separation) → AreFew t.rounds t.ids → Holds (is t s)) → Holds (IsTableReport is input))
    (print : Holds (IsPrintReport input))
    (formula : (m t channels : ℕ) (demand : Demand) → Known (Formula m t channels demand)
    → Holds (IsFormulaReport (numbered m t channels demand)))
    (refutation : (m t channels : ℕ) (demand : Demand) → Known (Refute m t channels demand)
    → Holds (IsRefuteReport (numbered m t channels demand) input)) where
  demanded : (t : ChannelTable) (demand : Demand) → AreFew t.rounds t.ids → Holds (IsDemandJudgement t demand)
  demanded t (Apart s) few = judgement t s few
  demanded t (Solve problem) few = solution t problem

  audited : (problem : Option Problem) (t : ChannelTable) (s : Separation) → AreFew t.rounds t.ids
      → Holds (IsAudit problem t s)
  audited None t s few = judgement t s few
  audited (Some problem) t s few = solution t problem

  -- the table of a program has its rounds, and the identifiers that it was made for
  judged : (m : ℕ) (p : ProgramTree) (demand : Demand) → AreFew (length p.steps) m
      → Holds (IsDemandJudgement (table_of p m) demand)
  unfolding table_of
  judged m p demand few = demanded (table_of p m) demand few

  pub by_task : (task : Task) → Known task → Holds (IsReport task input)
  by_task (Check m) known = on_program m _ (λ p few. value _ tt)
  by_task Print known = print
  by_task (Table m workers near far) known = on_program m _ (λ p few. value _ tt)
  by_task (Judge m workers demand) known = on_program m _ (λ p. judged m p demand)
  by_task (Run m ring segments) known =
      on_program m _ (λ p few. on_ring m _ ring.items _ few (λ is. run p ring.items segments))
  by_task (Trace m ring base) known = on_program m _ (λ p few. on_ring m _ ring.items _ few (λ is. value _ tt))
  by_task (Explain m ring place base) known =
      on_program m _ (λ p few. on_ring m _ ring.items _ few (λ is. explanation base p ring.items place))
  by_task (Plan m ring workers) known = on_program m _ (λ p few. on_ring m _ ring.items _ few (λ is. value _ tt))
  by_task (Audit problem) known = on_table _ (audited problem)
  by_task (Apply ring) known = on_table _ (λ t s few. on_ring t.ids t.rounds ring.items _ few (by_table t ring.items))
  by_task Migrate known = on_table _ (λ t s few. value _ tt)
  by_task (Formula m t channels demand) known = formula m t channels demand known
  by_task (Refute m t channels demand) known = refutation m t channels demand known
