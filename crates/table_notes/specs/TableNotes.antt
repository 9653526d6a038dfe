-- The notes on a text that is not the text of a table, and the window that a line of it is to have.
use Rattle.std.specs.Prelude.{◌≡◌, ℕ, ◌+◌, ◌-◌, ◌*◌, ◌<◌, ◌≤◌, ◌++◌, List, ◌∷◌, length, Some, slice_get, codes}
use Rattle.std.specs.Prelude.{bytes_eq, if◌then◌else◌}
use Rattle.std.specs.Fmt.{decimal}
use Rattle.source_text.specs.Heads.{note_head}
use Rattle.source_text.specs.Kinds.{first_line}
use Rattle.source_text.specs.Lists.{joined}
use Rattle.source_text.specs.Lines.{after_lines}
use Rattle.source_text.specs.Shown.{marked_line}
use Rattle.table_text.specs.LineForms.{HasShape}
use Rattle.table_text.specs.declared.fault.TableFault.{TableFault}
use Rattle.table_text.specs.declared.fault.TableFault.TheVariants as table
use Rattle.table_text.specs.declared.limits.TheConstants.{LONGEST_TABLE_TEXT}
use Rattle.win_index.specs.Windows.{windows}

-- a text that is too long
abbrev pub long_note : List ℕ
long_note = codes "nbhd: the text of a table has at most 134217728 bytes\n"

-- a line that does not have its form; advice can follow
pub record IsFormNote (text : List ℕ) (offset : ℕ) (note : List ℕ) : Type 0 where
  pub advice : List ℕ
  pub is : note ≡ note_head text offset
      ++ (codes "this line does not have the form that `nbhd table` writes"
      ++ (advice ++ 10 ∷ marked_line text offset))

-- the line with this number, without its end; lines are counted from 1
abbrev pub line_at : List ℕ → ℕ → List ℕ
line_at text number = first_line (after_lines (number - 1) text)

-- what is said of a line that is the line before it once more
abbrev pub doubled_text : List ℕ → ℕ → List ℕ
doubled_text text line = if bytes_eq (line_at text line) (line_at text (line - 1))
    then codes "; the same line stands right before it" else codes ""

-- a line that should have this window, with an end
abbrev pub line_note : ℕ → List ℕ → List ℕ → List ℕ
line_note line window end = codes "nbhd: line "
    ++ (decimal line ++ (codes " is not the line of window " ++ (joined (codes " ") window
    ++ (codes ", which comes there by line 2; windows stand in lexicographic order" ++ (end ++ codes "\n")))))

-- this line of the text is to have this window: the text gives a shape, and the lines of its windows begin at line 3
pub record IsDue (text : List ℕ) (line : ℕ) (window : List ℕ) : Type 0 where
  pub rounds : ℕ
  pub ids : ℕ
  pub shape : HasShape text rounds ids
  pub number : ℕ
  pub place : line ≡ number + 3
  pub numbered : slice_get (windows (2 * rounds + 1) ids) number ≡ Some window

-- a line with another window than it is to have; a line that is to have none has a note of its own
pub data IsWindowNote (text : List ℕ) (line : ℕ) (note : List ℕ) : Type 0 where
  of_window : (window : List ℕ) → IsDue text line window → note ≡ line_note line window (doubled_text text line)
      → IsWindowNote text line note
  of_none : ((window : List ℕ) → ¬ IsDue text line window) →
      note ≡ codes "nbhd: line " ++ (decimal line ++ codes " is not the line of the window that follows there\n") →
      IsWindowNote text line note

-- a channel that is not below the number of channels
abbrev pub channel_note : ℕ → List ℕ
channel_note line =
    codes "nbhd: line " ++ (decimal line ++ codes " has a channel that is not below the number of channels of line 2\n")

-- the note on a fault of a table text; OutOfMemory is no fault of one
abbrev pub IsTableNote : List ℕ → TableFault → List ℕ → Type 0
IsTableNote input (table.Syntax offset) note =
    (LONGEST_TABLE_TEXT < length input → note ≡ long_note)
    × (length input ≤ LONGEST_TABLE_TEXT → IsFormNote input offset note)
IsTableNote input (table.WrongWindow line) note = IsWindowNote input line note
IsTableNote input (table.ChannelTooLarge line) note = note ≡ channel_note line
IsTableNote input table.OutOfMemory note = ⊥
