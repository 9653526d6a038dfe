-- Where memory was refused to check the lines of a text. No public contract cites this file.
use Rattle.std.specs.Prelude.{◌≡◌, ◌≢◌, ◌⊎◌, true, [], Option, None}
use Rattle.table_formula.specs.Problems.{Problem}
use Rattle.table_formula.specs.declared.refutation.fault.RefuteError.{RefuteError}
use Rattle.table_formula.specs.declared.refutation.reader.Reader.{Reader}
use Rattle.table_formula.specs.Derivations.{Derivation, line_fault, after_line}
use Rattle.table_formula.specs.FirstFaults.{first_fault}
use Rattle.table_formula.specs.Forms.{is_addition}
use Rattle.table_formula.specs.Reader.{lines_left, lines_read, line_read}

-- a line is left to be read, and from this derivation on the lines left have this first fault
pub record IsUnread (p : Problem) (d : Derivation) (lines : Reader) (fault : Option RefuteError) : Type 0 where
  pub some : lines_left lines ≢ []
  pub fault_is : first_fault p d (lines_read lines) (lines_left lines) ≡ fault

-- the last line read adds a clause to this derivation, and is right; from there on the lines left have this first fault
pub record IsUnmade (p : Problem) (d : Derivation) (lines : Reader) (fault : Option RefuteError) : Type 0 where
  pub adds : is_addition lines.form ≡ true
  pub right : line_fault p d (line_read lines) ≡ None
  pub fault_is : first_fault p (after_line d (line_read lines)) (lines_read lines) (lines_left lines) ≡ fault

-- memory was refused to read the next line or to add the clause of the last one, and the first fault is that of a
-- later line
abbrev pub IsRefused : Problem → Derivation → Reader → Option RefuteError → Type 0
IsRefused p d lines fault = IsUnread p d lines fault ⊎ IsUnmade p d lines fault
