-- The effect of writing a report on the writer, and the faults of a task.
use Rattle.std.specs.Prelude.{◌≢◌, ◌↔◌, ◌<◌, ℕ, Bool, List, Option, Result, IfErr, IsErrOf, IsTrue, OnOk}
use Rattle.std.specs.Prelude.{⊤, string_bytes}
use Rattle.std.specs.Io.KnownBytes.{Appends, Keeps}
use Rattle.devices.specs.declared.fault.EngineFault.{EngineFault}
use Rattle.devices.specs.declared.fault.EngineFault.TheVariants.{Read, Write, Memory, Thread, Stranger}
use Rattle.devices.specs.Output.{AppendsFront}
use Rattle.table_formula.specs.declared.refutation.fault.RefuteError.TheVariants as refute
use Rattle.reports.specs.Findings.{Fault, of_segments, of_formula, of_refutation, Finding, refused}
use Rattle.reports.specs.declared.fault_line.Line.{Line}
use Rattle.reports.specs.declared.fault_line.Line.TheVariants as line

-- what a fault leaves in the writer of a report of these bytes: after Write a prefix of it, after each other fault
-- nothing
abbrev pub LeavesFront : List ℕ → (before after : Option (List ℕ)) → EngineFault → Type 0
LeavesFront bytes before after Write = AppendsFront before after bytes
LeavesFront bytes before after _ = Keeps before after

-- the fault is possible for a task with this number of workers or of segments: threads are started only for two or
-- more, and only a worker or a segment has the fault Stranger
abbrev pub MayHave : ℕ → EngineFault → Type 0
MayHave count Read = ⊤
MayHave count Write = ⊤
MayHave count Memory = ⊤
MayHave count Thread = 1 < count
MayHave count Stranger = 0 < count

-- the bytes of a line
abbrev pub bytes_in : Line → List ℕ
bytes_in (line.Fixed text) = text.now
bytes_in (line.Made text) = string_bytes text

-- the line of a refusal takes memory, except those of a number of segments, of the numbers of a formula, and of a
-- refutation that is too long
abbrev pub NeedsMemory : Fault → Type 0
NeedsMemory (of_segments segments places) = ⊥
NeedsMemory (of_formula m t f) = ⊥
NeedsMemory (of_refutation refute.TooLong) = ⊥
NeedsMemory _ = ⊤

-- writing a finding can fail for want of memory only if it is no such refusal
abbrev pub MayLackMemory : Finding → EngineFault → Type 0
MayLackMemory (refused f) Memory = NeedsMemory f
MayLackMemory _ _ = ⊤

-- What writing a report of these bytes does: with Ok they were written; a fault leaves in the writer what it
-- leaves, and is no fault of a read or of threads; it is Write exactly if a write failed.
pub record WritesBytes {T : Type 0} (bytes : List ℕ) (before after : Option (List ℕ)) (failed : Bool)
    (result : Result T EngineFault) : Type 0 where
  pub written : OnOk result (Appends before after bytes)
  pub left : IfErr result (LeavesFront bytes before after)
  pub unread : IfErr result (λ fault. fault ≢ Read)
  pub own : IfErr result (MayHave 0)
  pub told : IsErrOf result Write ↔ IsTrue failed
