-- What a reader of lines has read, and what is left. No public contract cites this file.
use Rattle.std.specs.Prelude.{◌≡◌, ◌≢◌, ℕ, ◌+◌, Bool, true, false, List, [], ◌∷◌, Option, Result, Ok, Err}
use Rattle.std.specs.declared.alloc.AllocError.{AllocError}
use Rattle.table_formula.specs.declared.refutation.reader.Reader.{Reader}
use Rattle.table_formula.specs.Lines.{Line, line_in}
use Rattle.table_formula.specs.Forms.{line_of}
use Rattle.table_formula.specs.Split.{parts_left}

-- the lines that are left
abbrev pub lines_left : Reader → List (List ℕ)
lines_left reader = parts_left reader.left

-- how many lines were read
abbrev pub lines_read : Reader → ℕ
lines_read reader = reader.count

-- what the last line says that was read
abbrev pub line_read : Reader → Option Line
line_read reader = line_of reader.form reader.clause.items reader.numbers.items

-- the same lines are left, after as many
pub record StaysThere (old new : Reader) : Type 0 where
  pub left : lines_left new ≡ lines_left old
  pub read : lines_read new ≡ lines_read old

-- the next line was read, which is this one
pub record ReadsLine (old new : Reader) (line : List ℕ) : Type 0 where
  pub left : lines_left old ≡ line ∷ lines_left new
  pub read : lines_read new ≡ lines_read old + 1
  pub says : line_in line ≡ line_read new

-- the next line was read; or the reader stays where it is, since there is none, or since memory was refused to read it
abbrev pub ReadsNext : Reader → Reader → Result Bool AllocError → Type 0
ReadsNext old new (Ok true) = (line : List ℕ) × ReadsLine old new line
ReadsNext old new (Ok false) = (lines_left old ≡ []) × StaysThere old new
ReadsNext old new (Err refused) = (lines_left old ≢ []) × StaysThere old new
