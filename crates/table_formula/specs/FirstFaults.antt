-- The first fault of lines, as the program finds it. No public contract cites this file.
use Rattle.std.specs.Prelude.{ℕ, ◌+◌, Bool, List, [], ◌∷◌, Option, None, Some, if◌then◌else◌}
use Rattle.table_formula.specs.Problems.{Problem}
use Rattle.table_formula.specs.declared.refutation.fault.FirstFault.{FirstFault}
use Rattle.table_formula.specs.declared.refutation.fault.LineFault.{LineFault}
use Rattle.table_formula.specs.declared.refutation.fault.LineFault.TheVariants.{NoEmptyClause}
use Rattle.table_formula.specs.declared.refutation.fault.RefuteError.{RefuteError}
use Rattle.table_formula.specs.declared.refutation.fault.RefuteError.TheVariants.{At}
use Rattle.table_formula.specs.Words.{lines_of}
use Rattle.table_formula.specs.Lines.{line_in}
use Rattle.table_formula.specs.Derivations.{Derivation, opening, line_fault, after_line, adds_empty}

-- the fault of a line with this number; without one, none if the line adds the empty clause, else that of the other
-- lines
abbrev pub fault_or : Option LineFault → Bool → ℕ → Option RefuteError → Option RefuteError
fault_or (Some fault) is_last line others = Some (At line fault)
fault_or None is_last line others = if is_last then None else others

-- the first fault of lines that follow this number of lines, and that begin at a derivation; none if they refute
-- the formula
abbrev pub first_fault : Problem → Derivation → ℕ → List (List ℕ) → Option RefuteError
first_fault p d count [] = Some (At count NoEmptyClause)
first_fault p d count (line ∷ lines) =
    fault_or (line_fault p d (line_in line)) (adds_empty (line_in line)) (count + 1)
    (first_fault p (after_line d (line_in line)) (count + 1) lines)

-- a fault that was found, as the error of the text
abbrev pub error_of : Option FirstFault → Option RefuteError
error_of None = None
error_of (Some found) = Some (At found.line found.fault)

-- the first fault of the lines of a text, from the formula on
abbrev pub fault_in : Problem → List ℕ → Option RefuteError
fault_in p text = first_fault p (opening p) 0 (lines_of text)
