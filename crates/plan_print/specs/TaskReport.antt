-- What a task finds on an input.
use Rattle.std.specs.Prelude.{ℕ, List, Option, None, Some, MatchOption, length}
use Rattle.node_program.specs.Term.{ProgramTree}
use Rattle.table_fill.specs.ProgramTables.{table_of}
use Rattle.node_program.specs.GlobalRounds.{channels_of}
use Rattle.reports.specs.Findings.{Finding}
use Rattle.reports.specs.Findings as value
use Rattle.reports.specs.Report.{Finds, numbers_of, IsAnswerOnRing, IsApplyAnswer, IsAudit, IsDemandJudgement}
use Rattle.reports.specs.Report.{IsExplainAnswer, IsPrintReport, IsProgramReport, IsRunAnswer}
use Rattle.reports.specs.Report.{IsTableReport, IsTableText}
use Rattle.reports.specs.FormulaReports.{IsFormulaReport, IsRefuteReport}
use Rattle.reports.specs.ProblemFaults.{problem}
use Rattle.task_words.specs.declared.task.Task.{Task}
use Rattle.task_words.specs.declared.task.Task.TheVariants.{Check, Print, Table, Judge, Run, Trace, Explain, Plan}
use Rattle.task_words.specs.declared.task.Task.TheVariants.{Audit, Apply, Migrate, Formula, Refute}

-- the number of identifiers for which a task asks about an accepted program, None if it asks about none
abbrev pub program_ids : Task → Option ℕ
program_ids (Check ids) = Some ids
program_ids (Table ids workers near far) = Some ids
program_ids (Judge ids workers demand) = Some ids
program_ids (Run ids places segments) = Some ids
program_ids (Trace ids places base) = Some ids
program_ids (Explain ids places place base) = Some ids
program_ids (Plan ids places workers) = Some ids
program_ids _ = None

-- The report of such a task on the program, which is accepted for `ids` identifiers. It does not depend on the
-- number of workers, or on a number of segments in its range.
abbrev pub IsAnswerTo : Task → ℕ → ProgramTree → Finding → Type 0
IsAnswerTo (Check _) ids p = Finds (numbers_of ids p)
IsAnswerTo (Table _ workers near far) ids p = IsTableText (table_of p ids) (record { near = near; far = far })
IsAnswerTo (Judge _ workers demand) ids p = IsDemandJudgement (table_of p ids) demand
IsAnswerTo (Run _ places segments) ids p = IsAnswerOnRing ids (length p.steps) places.items
    (IsRunAnswer p places.items segments)
IsAnswerTo (Trace _ places base) ids p = IsAnswerOnRing ids (length p.steps) places.items
    (Finds (value.trace base p places.items))
IsAnswerTo (Explain _ places place base) ids p = IsAnswerOnRing ids (length p.steps) places.items
    (IsExplainAnswer base p places.items place)
IsAnswerTo (Plan _ places workers) ids p = IsAnswerOnRing ids (length p.steps) places.items
    (Finds (value.places places.items (channels_of p places.items)))
IsAnswerTo _ ids p = λ r. ⊥

-- The report of another task: print is on a program text, audit, apply and migrate on a table text, a formula on no
-- text at all, and refute on a refutation.
abbrev pub IsTextReport : Task → List ℕ → Finding → Type 0
IsTextReport Print input r = IsPrintReport input r
IsTextReport (Audit problem) input r = IsTableReport (IsAudit problem) input r
IsTextReport (Apply places) input r = IsTableReport (IsApplyAnswer places.items) input r
IsTextReport Migrate input r = IsTableReport IsTableText input r
IsTextReport (Formula ids rounds channels demand) input r = IsFormulaReport (problem ids rounds channels demand) r
IsTextReport (Refute ids rounds channels demand) input r = IsRefuteReport (problem ids rounds channels demand) input r
IsTextReport _ input r = ⊥

-- The report of a task on an input. If the task asks about an accepted program, it refuses the program text or
-- gives the answer.
abbrev pub IsReport : Task → List ℕ → Finding → Type 0
IsReport task input r = MatchOption (program_ids task) (IsTextReport task input r)
    (λ ids. IsProgramReport ids (IsAnswerTo task ids) input r)
