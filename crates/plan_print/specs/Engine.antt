-- The effect of the engine on its reader and its writer.
use Rattle.std.specs.Prelude.{◌≡◌, ◌≢◌, ◌↔◌, ◌+◌, ◌≤◌, ℕ, Bool, List, Option, Result, IfErr, IfOk, IsErrOf}
use Rattle.std.specs.Prelude.{IsTrue, OnErr}
use Rattle.std.specs.Io.KnownBytes.{Keeps}
use Rattle.devices.specs.declared.fault.EngineFault.{EngineFault}
use Rattle.devices.specs.declared.fault.EngineFault.TheVariants.{Read, Write}
use Rattle.reports.specs.declared.status.Status.{Status}
use Rattle.task_words.specs.declared.format.Format.{Format}
use Rattle.task_words.specs.declared.task.Task.{Task}
use Rattle.task_words.specs.declared.task.Task.TheVariants.{Table, Judge, Run, Plan, Audit, Apply, Migrate}
use Rattle.task_words.specs.declared.task.Task.TheVariants.{Formula, Refute}
use Rattle.node_lang.specs.declared.limits.TheConstants.{LONGEST_TEXT}
use Rattle.table_text.specs.declared.limits.TheConstants.{LONGEST_TABLE_TEXT}
use Rattle.table_formula.specs.declared.limits.TheConstants.{LONGEST_REFUTATION}
use Rattle.devices.specs.Input.{GivesInput, TakesFront}
use Rattle.devices.specs.Watched.{device_of, has_failed, calls_of}
use Rattle.devices.specs.declared.watched.Watched.{Watched}
use Rattle.reports.specs.Findings.{Finding, status_of}
use Rattle.reports.specs.Written.{MayHave}
use Rattle.plan_print.specs.TaskReport.{IsReport}
use Rattle.plan_print.specs.Formats.{WritesAll, WritesPrefix}
use Rattle.plan_print.specs.Notes.{IsNoteOn}
use Rattle.plan_print.specs.declared.engine.Reported.{Reported}

-- the maximum number of bytes that are read of the input of a task: one more than the length of the longest text
-- that the task is on, so that a longer one is noticed, or none if it is on no text
abbrev pub max_read : Task → ℕ
max_read (Audit problem) = LONGEST_TABLE_TEXT + 1
max_read (Apply places) = LONGEST_TABLE_TEXT + 1
max_read Migrate = LONGEST_TABLE_TEXT + 1
max_read (Formula ids rounds channels demand) = 0
max_read (Refute ids rounds channels demand) = LONGEST_REFUTATION + 1
max_read _ = LONGEST_TEXT + 1

-- What a call does with its reader and its writer: what the reader has left before and after it, what the writer
-- has before and after it, how often the reader was called before and after it, and whether a read or a write has
-- failed.
pub record Streams : Type 0 where
  pub unread : Option (List ℕ)
  pub left : Option (List ℕ)
  pub before : Option (List ℕ)
  pub after : Option (List ℕ)
  pub calls : ℕ
  pub calls_after : ℕ
  pub read_failed : Bool
  pub write_failed : Bool

-- those of a reader and a writer as they were and as they are now, by what a reader has left and what a writer has
abbrev pub streams_of : {R W : Type 0} → (R → Option (List ℕ)) → (W → Option (List ℕ)) → Watched R → Watched R
    → Watched W → Watched W → Streams
streams_of remaining contents reader reader_now writer writer_now = record {
  unread = remaining (device_of reader);
  left = remaining (device_of reader_now);
  before = contents (device_of writer);
  after = contents (device_of writer_now);
  calls = calls_of reader;
  calls_after = calls_of reader_now;
  read_failed = has_failed reader_now;
  write_failed = has_failed writer_now;
}

-- The input was read, and the whole report of the task on it was written, in this format. The status is the report's.
pub record WritesReport (format : Format) (task : Task) (s : Streams) (status : Status) : Type 0 where
  pub input : List ℕ
  pub read : GivesInput s.unread s.left (max_read task) input
  pub report : Finding
  pub is_report : IsReport task input report
  pub written : WritesAll format input report s.before s.after
  pub status_is : status ≡ status_of report

-- The report was written, and the note is on its cause.
pub record TellsReport (format : Format) (task : Task) (s : Streams) (reported : Reported) : Type 0 where
  pub report : WritesReport format task s reported.status
  pub note : IsNoteOn report.input report.report reported.note

-- The input was read, and a prefix of the report of the task on it was written.
pub record WritesFront (format : Format) (task : Task) (s : Streams) : Type 0 where
  pub input : List ℕ
  pub read : GivesInput s.unread s.left (max_read task) input
  pub report : Finding
  pub is_report : IsReport task input report
  pub written : WritesPrefix format input report s.before s.after

-- what a fault leaves in the writer: after Write a prefix of the report of the task on the input that was read,
-- after each other fault nothing
abbrev pub LeavesOutput : Format → Task → Streams → EngineFault → Type 0
LeavesOutput format task s Write = WritesFront format task s
LeavesOutput format task s _ = Keeps s.before s.after

-- the fault is Read exactly if a read failed, and Write exactly if a write failed
abbrev pub TellsFailures : {T : Type 0} → Result T EngineFault → (read_failed write_failed : Bool) → Type 0
TellsFailures result read_failed write_failed =
    (IsErrOf result Read ↔ IsTrue read_failed) × (IsErrOf result Write ↔ IsTrue write_failed)

-- the number of workers or of segments that the task names, or 0
abbrev pub thread_count_of : Task → ℕ
thread_count_of (Table ids workers near far) = workers
thread_count_of (Judge ids workers demand) = workers
thread_count_of (Run ids ring segments) = segments
thread_count_of (Plan ids ring workers) = workers
thread_count_of _ = 0

-- A call does a task, with its report in a format: with a report it `tells` what was written; a fault leaves in the
-- writer what it leaves, and has taken no more than is read of an input, in as many reads at most; a fault of
-- threads is only of a task that has some; and a fault of the reader or of the writer is told exactly if there was
-- one.
pub record DoesTask {T : Type 0} (format : Format) (task : Task) (s : Streams) (tells : Format → Task → Streams → T
    → Type 0) (result : Result T EngineFault) : Type 0 where
  pub report : IfOk result (tells format task s)
  pub left : IfErr result (LeavesOutput format task s)
  pub taken : OnErr result (TakesFront s.unread s.left (max_read task))
  pub asked : s.calls_after ≤ s.calls + max_read task
  pub threads : IfErr result (MayHave (thread_count_of task))
  pub failed : TellsFailures result s.read_failed s.write_failed

-- The fault is of the task itself: no read and no write failed.
abbrev pub IsTaskFault : ℕ → EngineFault → Type 0
IsTaskFault count fault = MayHave count fault × (fault ≢ Read) × (fault ≢ Write)
