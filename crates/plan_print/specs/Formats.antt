-- The bytes of a report in a format, and what writing it leaves.
use Rattle.std.specs.Prelude.{◌≡◌, ◌≢◌, ◌↔◌, ℕ, Bool, true, false, List, Option, Some, None, Result, Ok, Err, String}
use Rattle.std.specs.Prelude.{IfErr, IsErrOf, IsTrue, OnOk, ⊤, string_bytes}
use Rattle.std.specs.declared.alloc.Global.{Global}
use Rattle.std.specs.Io.KnownBytes.{Appends, Keeps}
use Rattle.node_program.specs.declared.memory.OutOfMemory.{OutOfMemory}
use Rattle.devices.specs.Output.{AppendsFront}
use Rattle.devices.specs.declared.fault.EngineFault.{EngineFault}
use Rattle.devices.specs.declared.fault.EngineFault.TheVariants.{Read, Write}
use Rattle.json_reports.specs.Json.{json_bytes}
use Rattle.json_reports.specs.Reports.{IsReadBack}
use Rattle.reports.specs.Bytes.{bytes_of}
use Rattle.reports.specs.Findings.{Finding}
use Rattle.reports.specs.Written.{MayHave}
use Rattle.task_words.specs.declared.format.Format.{Format}
use Rattle.task_words.specs.declared.format.Format.TheVariants.{Json, Lines}
use Rattle.plan_print.specs.Notes.{IsNote, has_note}

-- what is told beside what was found in an input: a note on it, or none if it has none
abbrev pub IsNoteOf : List ℕ → Finding → Option (List ℕ) → Type 0
IsNoteOf input f None = has_note f ≡ false
IsNoteOf input f (Some note) = (has_note f ≡ true) × IsNote input f note

-- the text of a note, if there is one for which there was memory
abbrev pub told_text : Option (Result (String Global) OutOfMemory) → Option (List ℕ)
told_text None = None
told_text (Some (Ok note)) = Some (string_bytes note)
told_text (Some (Err _)) = None

-- memory for a note was not refused
abbrev pub HasMemory : Option (Result (String Global) OutOfMemory) → Type 0
HasMemory None = ⊤
HasMemory (Some (Ok note)) = ⊤
HasMemory (Some (Err _)) = ⊥

-- the bytes are those of what was found in an input: its lines, or its JSON with the note on it
abbrev pub AreBytes : Format → List ℕ → Finding → List ℕ → Type 0
AreBytes Lines input f bytes = bytes ≡ bytes_of f
AreBytes Json input f bytes = (note : Option (List ℕ)) × IsNoteOf input f note × (bytes ≡ json_bytes input f note)

-- the same, and in JSON a reader finds what was found
abbrev pub AreReadable : Format → List ℕ → Finding → List ℕ → Type 0
AreReadable Lines input f bytes = bytes ≡ bytes_of f
AreReadable Json input f bytes = (note : Option (List ℕ)) × IsNoteOf input f note × (bytes ≡ json_bytes input f note)
    × IsReadBack input f note

-- what was found was written
pub record WritesAll (format : Format) (input : List ℕ) (f : Finding) (before after : Option (List ℕ)) : Type 0 where
  pub bytes : List ℕ
  pub are : AreReadable format input f bytes
  pub appended : Appends before after bytes

-- a prefix of it was written
pub record WritesPrefix (format : Format) (input : List ℕ) (f : Finding) (before after : Option (List ℕ)) : Type 0 where
  pub bytes : List ℕ
  pub are : AreBytes format input f bytes
  pub appended : AppendsFront before after bytes

-- what a fault leaves in the writer: after Write a prefix, after each other fault nothing
abbrev pub LeavesPrefix : Format → List ℕ → Finding → (before after : Option (List ℕ)) → EngineFault → Type 0
LeavesPrefix format input f before after Write = WritesPrefix format input f before after
LeavesPrefix format input f before after _ = Keeps before after

-- What writing what was found does: with Ok it was written; a fault leaves in the writer what it leaves, and is no
-- fault of a read or of threads; it is Write exactly if a write failed.
pub record Writes {T : Type 0} (format : Format) (input : List ℕ) (f : Finding) (before after : Option (List ℕ))
    (failed : Bool) (result : Result T EngineFault) : Type 0 where
  pub written : OnOk result (WritesAll format input f before after)
  pub left : IfErr result (LeavesPrefix format input f before after)
  pub unread : IfErr result (λ fault. fault ≢ Read)
  pub own : IfErr result (MayHave 0)
  pub told : IsErrOf result Write ↔ IsTrue failed
