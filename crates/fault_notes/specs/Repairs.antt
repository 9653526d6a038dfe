-- Edits of a program text that a note tells one to make: each has been tried.
use Rattle.std.specs.Prelude.{◌≡◌, ◌≢◌, ℕ, ◌-◌, ◌+◌, ◌≤◌, ◌==◌, ◌&&◌, nat_lt, nat_le, Bool, true, ◌++◌, List, [], ◌∷◌}
use Rattle.std.specs.Prelude.{length, map, take, drop, slice_index, max, codes, Option, Some, None, if◌then◌else◌}
use Rattle.std.specs.List.{flat_map, list_any}
use Rattle.node_program.specs.Term.{ProgramTree}
use Rattle.node_lang.specs.declared.fault.FaultKind.{FaultKind}
use Rattle.node_lang.specs.declared.fault.FaultKind.TheVariants as kind
use Rattle.node_lang.specs.Grammar.{Reads}
use Rattle.node_lang.specs.Faults.{FaultsAt}
use Rattle.source_text.specs.Shown.{shown_byte}
use Rattle.fault_notes.specs.declared.edits.Edit.{Edit}

-- A byte of an edit as it is tried: 0 stands for an expression that is still to be written, instead of which the
-- number 0 is tried, and 1 for a number of the header, instead of which 1 is tried.
abbrev pub tried_byte : ℕ → ℕ
tried_byte b = if nat_lt b 2 then b + 48 else b

-- the text after an edit, with a blank on each side of what is put
abbrev pub edited : List ℕ → Edit → List ℕ
edited text e = take e.from text ++ (32 ∷ (map tried_byte e.put.items ++ (32 ∷ drop e.to text)))

-- a line ends in a text before its last `left` bytes
abbrev pub ends_line : List ℕ → ℕ → Bool
ends_line text left = list_any (λ b. b == 10) (take (length text - left) text)

-- The edited text is a program; or its first fault stands on a later line: behind the edit, and not before the old
-- fault, a line ends before it. What is behind the edit is the same in both texts, so offsets are counted from
-- their ends.
pub data GoesFurther (text : List ℕ) (offset : ℕ) (e : Edit) : Type 0 where
  whole : (p : ProgramTree) → Reads (edited text e) p → GoesFurther text offset e
  later : (k : FaultKind) (stop : ℕ) → k ≢ kind.TooLong → FaultsAt (edited text e) k stop →
      ends_line (drop (max offset e.to) text) (length (edited text e) - stop) ≡ true → GoesFurther text offset e

-- an edit within a text that goes further than its fault at this offset; what is put instead of nothing is put
-- there
pub record IsRepair (text : List ℕ) (offset : ℕ) (e : Edit) : Type 0 where
  pub ordered : e.from ≤ e.to
  pub within : e.to ≤ length text
  pub put_there : e.from ≡ e.to → e.from ≡ offset
  pub further : GoesFurther text offset e

-- a byte of an edit as it is told: dots for an expression or a number, and a blank for a line feed
abbrev pub written_byte : ℕ → List ℕ
written_byte b = if nat_lt b 2 then codes ".." else if b == 10 then codes " " else shown_byte b

abbrev pub written : List ℕ → List ℕ
written put = flat_map written_byte put

-- the part of a text that an edit takes out
abbrev pub taken : List ℕ → Edit → List ℕ
taken text e = take (e.to - e.from) (drop e.from text)

-- a part of a text, or how it begins
abbrev pub abridged : List ℕ → List ℕ
abridged part = if nat_le (length part) 60 then written part
    else written (take 50 part) ++ codes " .."

-- where something is written: at the end of the text, before the offset, or instead of what stands there
abbrev pub where_text : List ℕ → List ℕ → List ℕ
where_text old rest = if length old == 0 then (if length rest == 0 then codes " at the end" else codes " before it")
    else codes " in the place of `" ++ (abridged old ++ codes "`")

-- what is to be written
abbrev pub what_text : List ℕ → List ℕ
what_text put = if (length put == 1) && (slice_index put 0 == 0) then codes "; write an expression"
    else if (length put == 1) && (slice_index put 0 == 1) then codes "; write a number"
    else codes "; write `" ++ (written put ++ codes "`")

-- what is to be done with this part, before the text that is left
abbrev pub told : List ℕ → List ℕ → List ℕ → List ℕ
told old put rest = if length put == 0 then codes "; leave out `" ++ (abridged old ++ codes "`")
    else what_text put ++ where_text old rest

-- what a note tells one to do
abbrev pub repair_text : List ℕ → Edit → List ℕ
repair_text text e = told (taken text e) e.put.items (drop e.to text)

-- the same, if there is an edit
abbrev pub optional_text : List ℕ → Option Edit → List ℕ
optional_text text None = []
optional_text text (Some e) = repair_text text e
