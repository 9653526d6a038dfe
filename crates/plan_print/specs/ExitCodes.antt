-- The exit status of the process.
use Rattle.std.specs.Prelude.{◌≡◌, ◌⊎◌, ℕ, List, Result, Ok, Err, IfOk, MatchResult}
use Rattle.reports.specs.StatusCodes.{exit_code}
use Rattle.plan_print.specs.Notes.{IsNoteOn}
use Rattle.reports.specs.Findings.{Finding, status_of}
use Rattle.reports.specs.Written.{MayHave}
use Rattle.reports.specs.declared.status.Status.TheVariants.{Done}
use Rattle.devices.specs.FaultCodes.{engine_fault_code}
use Rattle.devices.specs.declared.fault.EngineFault.{EngineFault}
use Rattle.devices.specs.declared.fault.EngineFault.TheVariants.{Write}
use Rattle.task_words.specs.ParsedWords.{IsParsed}
use Rattle.task_words.specs.Task.{IsRunnable}
use Rattle.task_words.specs.WordsFault.{words_fault_code}
use Rattle.task_words.specs.declared.request.Request.{Request}
use Rattle.task_words.specs.declared.task.Task.{Task}
use Rattle.task_words.specs.declared.words.WordsFault.{WordsFault}
use Rattle.task_words.specs.declared.words.WordsFault.TheVariants.{Usage, BadRing, BadDemand, OutOfMemory, Help}
use Rattle.plan_print.specs.Engine.{thread_count_of}
use Rattle.plan_print.specs.TaskReport.{IsReport}
use Rattle.plan_print.specs.declared.engine.Reported.{Reported}

-- the status after a result of the engine: that of the report, or that of the fault
abbrev pub reported_code : Result Reported EngineFault → ℕ
reported_code (Ok reported) = exit_code reported.status
reported_code (Err fault) = engine_fault_code fault

-- The status and the note are those of the report of the task on some input.
pub record IsReportedOf (task : Task) (reported : Reported) : Type 0 where
  pub input : List ℕ
  pub report : Finding
  pub is_report : IsReport task input report
  pub status_is : reported.status ≡ status_of report
  pub note : IsNoteOn input report reported.note

-- a result of the engine for the task
abbrev pub IsAnswerFor : Task → Result Reported EngineFault → Type 0
IsAnswerFor task answer = MatchResult answer (IsReportedOf task) (MayHave (thread_count_of task))

-- the status after a task is that of a result of the engine for it
abbrev pub IsStatusOf : Task → ℕ → Type 0
IsStatusOf task status = (answer : Result Reported EngineFault) × IsAnswerFor task answer
    × (status ≡ reported_code answer)

-- the status after words that give no task: that of their fault, and after help that of writing it
abbrev pub IsStatusAfter : WordsFault → ℕ → Type 0
IsStatusAfter (Help text) status = (status ≡ exit_code Done) ⊎ (status ≡ engine_fault_code Write)
IsStatusAfter (Usage text) status = status ≡ words_fault_code (Usage text)
IsStatusAfter BadRing status = status ≡ words_fault_code BadRing
IsStatusAfter (BadDemand f) status = status ≡ words_fault_code (BadDemand f)
IsStatusAfter OutOfMemory status = status ≡ words_fault_code OutOfMemory

-- the status after words that were parsed: that of the task that is requested, or that of the fault
abbrev pub IsStatusFor : Result Request WordsFault → ℕ → Type 0
IsStatusFor parsed status = MatchResult parsed (λ request. IsStatusOf request.task status)
    (λ fault. IsStatusAfter fault status)

-- the status is one after some words: of a task that they request and that can be done, or of their fault
abbrev pub IsExitStatus : ℕ → Type 0
IsExitStatus status =
    (parsed : Result Request WordsFault) × IsParsed parsed × IfOk parsed (λ request. IsRunnable request.task)
    × IsStatusFor parsed status
