-- The note on a finding.
use Rattle.std.specs.Prelude.{◌≡◌, ◌≢◌, ℕ, zero, ◌≤◌, Bool, true, false, List, Option, Some, None, Result, Ok, Err}
use Rattle.std.specs.Prelude.{String, ⊤, codes, string_bytes}
use Rattle.std.specs.declared.alloc.Global.{Global}
use Rattle.node_program.specs.declared.limits.TheConstants.{MAX_ROUNDS}
use Rattle.node_program.specs.declared.memory.OutOfMemory.{OutOfMemory}
use Rattle.node_lang.specs.Faults.{FaultsAt}
use Rattle.win_index.specs.RingFaults.{IsFirstFault}
use Rattle.table_text.specs.Faults.{IsFault}
use Rattle.node_lang.specs.declared.fault.FaultKind.TheVariants as kind
use Rattle.table_text.specs.declared.fault.TableFault.TheVariants as table
use Rattle.fault_notes.specs.TextNotes.{IsTextNote, IsLongNote}
use Rattle.fault_notes.specs.ProgramNotes.{IsCheckNote, IsIdsNote}
use Rattle.table_notes.specs.PatternNotes.{broken_note, idle_note}
use Rattle.table_notes.specs.RingNotes.{place_note, ring_note, segments_note}
use Rattle.table_notes.specs.TableNotes.{IsTableNote}
use Rattle.table_notes.specs.VerdictNotes.{no_tuples_note, verdict_note, HasPlaces}
use Rattle.table_formula.specs.declared.refutation.fault.RefuteError.TheVariants as refute
use Rattle.reports.specs.Findings.{Fault, of_text, of_program, of_ring, of_place, of_segments, of_table_text}
use Rattle.reports.specs.Findings.{of_formula, of_refutation, Finding, refused}
use Rattle.reports.specs.Findings as value
use Rattle.table_formula.specs.RefutationNotes.{IsRefutationNote}
use Rattle.reports.specs.declared.problem.ProblemFault.{ProblemFault}
use Rattle.reports.specs.declared.problem.ProblemFault.TheVariants as problem

-- the note on a formula that would have too many variables
abbrev pub variables_note : List ℕ
variables_note = codes "nbhd: a formula has a variable for each window and channel, and at most 4194304 of them; take fewer identifiers or channels\n"

-- the note on a formula that would have too many clauses
abbrev pub clauses_note : List ℕ
clauses_note = codes "nbhd: a formula has at most 16777216 clauses, and a table of this size would need more; take fewer identifiers or channels\n"

-- the note on m identifiers and t rounds of which there is no formula
abbrev pub IsFormulaNote : ℕ → ℕ → ProblemFault → List ℕ → Type 0
IsFormulaNote m t problem.IdsOutOfRange note = IsIdsNote t m note
IsFormulaNote m t problem.TooManyWindows note = IsIdsNote t m note
IsFormulaNote m t problem.TooManyVariables note = note ≡ variables_note
IsFormulaNote m t problem.TooManyClauses note = note ≡ clauses_note

-- the note on a refusal
abbrev pub IsFaultNote : List ℕ → Fault → List ℕ → Type 0
IsFaultNote input (of_text k offset) note =
    (k ≡ kind.TooLong → IsLongNote input note) × (k ≢ kind.TooLong → IsTextNote input k offset note)
IsFaultNote input (of_program p ids f) note = IsCheckNote input p ids f note
IsFaultNote input (of_ring m t places f) note = note ≡ ring_note m t places f
IsFaultNote input (of_place place places) note = note ≡ place_note place places
IsFaultNote input (of_segments segments places) note = note ≡ segments_note segments places
IsFaultNote input (of_table_text f) note = IsTableNote input f note
IsFaultNote input (of_formula m t f) note = IsFormulaNote m t f note
IsFaultNote input (of_refutation f) note = IsRefutationNote input f note

-- what is told on a finding: nothing, the note on a refusal, or this text
pub data Told : Type 0 where
  nothing : Told
  on_fault : (f : Fault) → Told
  this : (text : List ℕ) → Told

-- a refusal, a no, and a yes over no tuples or with a pattern that never matches have a note, and no other finding
abbrev pub told_on : Finding → Told
told_on (refused f) = on_fault f
told_on (value.no s ring places channels) = this (verdict_note ring places channels)
told_on (value.yes zero nodes ids) = this (no_tuples_note nodes ids)
told_on (value.broken ring place channels pattern known idle) = this
    (broken_note ring place channels pattern known idle)
told_on (value.solved tuples (Some idle)) = this (idle_note idle)
told_on _ = nothing

-- the note is what is told
abbrev pub IsNoteAs : List ℕ → Told → List ℕ → Type 0
IsNoteAs input nothing note = ⊥
IsNoteAs input (on_fault f) note = IsFaultNote input f note
IsNoteAs input (this text) note = note ≡ text

-- the note on a finding
abbrev pub IsNote : List ℕ → Finding → List ℕ → Type 0
IsNote input f note = IsNoteAs input (told_on f) note

-- whether something is told
abbrev pub is_told : Told → Bool
is_told nothing = false
is_told _ = true

-- whether a finding has a note
abbrev pub has_note : Finding → Bool
has_note f = is_told (told_on f)

-- there is such a note, unless memory for it was refused, or none
abbrev pub IsToldIf : Bool → (List ℕ → Type 0) → Option (Result (String Global) OutOfMemory) → Type 0
IsToldIf true is (Some (Ok note)) = is (string_bytes note)
IsToldIf true is (Some (Err _)) = ⊤
IsToldIf true is None = ⊥
IsToldIf false is note = note ≡ None

-- a note exactly on a finding that has one
abbrev pub IsNoteOn : List ℕ → Finding → Option (Result (String Global) OutOfMemory) → Type 0
IsNoteOn input f note = IsToldIf (has_note f) (IsNote input f) note

-- The fault is found in this input: that of a text is one of it. That of a list of identifiers is its own; a
-- formula is of few rounds. OutOfMemory is no fault of a refutation.
abbrev pub IsFaultOf : List ℕ → Fault → Type 0
IsFaultOf input (of_text k offset) = FaultsAt input k offset
IsFaultOf input (of_ring m t places f) = (t ≤ MAX_ROUNDS) × IsFirstFault m t places f
IsFaultOf input (of_table_text f) = (f ≢ table.OutOfMemory) × IsFault input f
IsFaultOf input (of_formula m t f) = t ≤ MAX_ROUNDS
IsFaultOf input (of_refutation f) = f ≢ refute.OutOfMemory
IsFaultOf input _ = ⊤

-- what is found is of this input; the places of a no are places of its ring
abbrev pub IsFound : List ℕ → Finding → Type 0
IsFound input (refused f) = IsFaultOf input f
IsFound input (value.no s ring places channels) = HasPlaces ring places
IsFound input _ = ⊤
