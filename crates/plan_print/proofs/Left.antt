-- What a fault of writing leaves.
use Rattle.std.proofs.Common.{◌≡◌, ℕ, List, Option, Some, None, Bool, true, false, string_bytes, refl}
use Rattle.std.specs.Prelude.{Result, Ok, Err, String, OnOk}
use Rattle.std.specs.declared.alloc.Global.{Global}
use Rattle.node_program.specs.declared.memory.OutOfMemory.{OutOfMemory}
use Rattle.devices.specs.Input.{GivesInput}
use Rattle.devices.specs.declared.fault.EngineFault.{EngineFault}
use Rattle.devices.specs.declared.fault.EngineFault.TheVariants as fault
use Rattle.reports.specs.Findings.{Finding}
use Rattle.json_reports.specs.Json.{json_bytes}
use Rattle.json_reports.specs.Reports.{IsReadBack}
use Rattle.reports.specs.Written.{LeavesFront, WritesBytes}
use Rattle.task_words.specs.declared.format.Format.{Format}
use Rattle.task_words.specs.declared.format.Format.TheVariants.{Json}
use Rattle.task_words.specs.declared.task.Task.{Task}
use Rattle.plan_print.specs.Engine.{max_read, Streams, LeavesOutput}
use Rattle.plan_print.specs.Formats.{told_text, AreBytes, HasMemory, IsNoteOf, LeavesPrefix, Writes}
use Rattle.plan_print.specs.Notes.{has_note, IsNote, IsNoteOn, IsToldIf}
use Rattle.plan_print.specs.TaskReport.{IsReport}

-- of bytes that are those of what was found
pub left_of : (format : Format) (input : List ℕ) (f : Finding) (bytes : List ℕ) (before after : Option (List ℕ))
    (e : EngineFault)
    → AreBytes format input f bytes → LeavesFront bytes before after e → LeavesPrefix format input f before after e
left_of format input f bytes before after fault.Read are left = left
left_of format input f bytes before after fault.Write are left = record { bytes = bytes; are = are; appended = left }
left_of format input f bytes before after fault.Memory are left = left
left_of format input f bytes before after fault.Thread are left = left
left_of format input f bytes before after fault.Stranger are left = left

-- of the report of a task
pub left_after : (format : Format) (task : Task) (s : Streams) (input : List ℕ) (f : Finding) (e : EngineFault)
    → GivesInput s.unread s.left (max_read task) input → IsReport task input f
    → LeavesPrefix format input f s.before s.after e → LeavesOutput format task s e
left_after format task s input f fault.Read read is left = left
left_after format task s input f fault.Write read is left =
    record { input = input; read = read; report = f; is_report = is; written = left }
left_after format task s input f fault.Memory read is left = left
left_after format task s input f fault.Thread read is left = left
left_after format task s input f fault.Stranger read is left = left

-- a note for which there was memory is a note on what was found
told : (has : Bool) (is : List ℕ → Type 0) (note : String Global) → IsToldIf has is (Some (Ok note))
    → (has ≡ true) × is (string_bytes note)
told true is note said = (refl, said)
told false is note said = absurd cc

untold : (has : Bool) (is : List ℕ → Type 0) → IsToldIf has is None → has ≡ false
untold true is said = absurd said
untold false is said = refl

pub note_is : (input : List ℕ) (f : Finding) (note : Option (Result (String Global) OutOfMemory))
    → IsNoteOn input f note → HasMemory note
    → IsNoteOf input f (told_text note)
note_is input f None said memory = untold (has_note f) (IsNote input f) said
note_is input f (Some (Ok note)) said memory = told (has_note f) (IsNote input f) note said
note_is input f (Some (Err _)) said memory = absurd memory

-- writing the JSON of what was found, with a note on it
pub json_writes : (input : List ℕ) (f : Finding) (note : Option (List ℕ)) (before after : Option (List ℕ))
    (failed : Bool)
    (result : Result (Unit {0}) EngineFault) → IsNoteOf input f note
    → WritesBytes (json_bytes input f note) before after failed result
    → OnOk result (IsReadBack input f note) → Writes Json input f before after failed result
json_writes input f note before after failed (Ok done) is w read = record {
  written = record { bytes = json_bytes input f note; are = (note, is, refl, read); appended = w.written };
  left = tt;
  unread = tt;
  own = tt;
  told = w.told;
}
json_writes input f note before after failed (Err e) is w read = record {
  written = tt;
  left = left_of Json input f (json_bytes input f note) before after e (note, is, refl) w.left;
  unread = w.unread;
  own = w.own;
  told = w.told;
}
