-- The statements of the laws of this crate, one definition each.
use Rattle.std.specs.Prelude.{◌≡◌, ◌≢◌, ◌↔◌, ℕ, ◌<◌, ◌≤◌, List, [], ◌++◌, length}
use Rattle.table_text.specs.TableText.{Written, text_of}
use Rattle.table_text.specs.Texts.{IsWritten}
use Rattle.table_text.specs.Faults.{IsFault}
use Rattle.table_text.specs.declared.limits.TheConstants.{LONGEST_TABLE_TEXT}
use Rattle.table_text.specs.declared.fault.TableFault.{TableFault}
use Rattle.table_text.specs.declared.fault.TableFault.TheVariants.{Syntax, OutOfMemory}

-- if a table text is a prefix of another, both are one text, with one version, one table and one separation
abbrev pub TableTextsAreApart : Type 0
TableTextsAreApart =
    (v w : Written) (more : List ℕ) → IsWritten v → IsWritten w → text_of w ≡ text_of v ++ more → (v ≡ w) × (more ≡ [])

-- a table text is at most LONGEST_TABLE_TEXT bytes long
abbrev pub TableTextsAreShort : Type 0
TableTextsAreShort = (w : Written) → IsWritten w → length (text_of w) ≤ LONGEST_TABLE_TEXT

-- a table text has no fault except OutOfMemory
abbrev pub TableTextsAreRead : Type 0
TableTextsAreRead = (w : Written) (fault : TableFault) → IsWritten w → IsFault (text_of w) fault → fault ≡ OutOfMemory

-- a text that is too long has one fault, at the limit, and even refused memory does not replace it
abbrev pub LongTextsHaveOneFault : Type 0
LongTextsHaveOneFault =
    (text : List ℕ) (fault : TableFault) → LONGEST_TABLE_TEXT < length text →
    IsFault text fault ↔ (fault ≡ Syntax LONGEST_TABLE_TEXT)

-- a text has at most one fault besides OutOfMemory
abbrev pub OneTableFault : Type 0
OneTableFault =
    (text : List ℕ) (f g : TableFault) → f ≢ OutOfMemory → g ≢ OutOfMemory → IsFault text f → IsFault text g → f ≡ g
