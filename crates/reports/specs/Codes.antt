-- What the line of a refusal consists of: what has the fault, its code, and its details.
use Rattle.std.specs.Prelude.{ℕ, List, [], ◌++◌, codes}
use Rattle.std.specs.Fmt.{decimal}
use Rattle.node_lang.specs.declared.fault.FaultKind.{FaultKind}
use Rattle.node_lang.specs.declared.fault.FaultKind.TheVariants as kind
use Rattle.lang_check.specs.declared.acceptance.CheckFault.{CheckFault}
use Rattle.lang_check.specs.declared.acceptance.CheckFault.TheVariants as check
use Rattle.win_index.specs.declared.ring.RingFault.{RingFault}
use Rattle.win_index.specs.declared.ring.RingFault.TheVariants as ring
use Rattle.table_text.specs.declared.fault.TableFault.{TableFault}
use Rattle.table_text.specs.declared.fault.TableFault.TheVariants as table
use Rattle.table_formula.specs.declared.refutation.fault.LineFault.{LineFault}
use Rattle.table_formula.specs.declared.refutation.fault.LineFault.TheVariants as line_fault
use Rattle.table_formula.specs.declared.refutation.fault.RefuteError.{RefuteError}
use Rattle.table_formula.specs.declared.refutation.fault.RefuteError.TheVariants as refute
use Rattle.reports.specs.Findings.{Fault, of_text, of_program, of_ring, of_place, of_segments, of_table_text}
use Rattle.reports.specs.Findings.{of_formula, of_refutation}
use Rattle.reports.specs.declared.problem.ProblemFault.{ProblemFault}
use Rattle.reports.specs.declared.problem.ProblemFault.TheVariants as problem

-- what has the fault
abbrev pub subject_of : Fault → List ℕ
subject_of (of_text k offset) = codes "text"
subject_of (of_program p ids f) = codes "check"
subject_of (of_ring m t places f) = codes "ring"
subject_of (of_place place places) = codes "ring"
subject_of (of_segments segments places) = codes "segments"
subject_of (of_table_text f) = codes "table"
subject_of (of_formula m t f) = codes "formula"
subject_of (of_refutation f) = codes "refutation"

abbrev pub text_code : FaultKind → List ℕ
text_code kind.TooLong = codes "N1"
text_code kind.NotAscii = codes "N2"
text_code kind.BadWord = codes "N3"
text_code kind.NumberTooLarge = codes "N4"
text_code kind.HeaderRange = codes "N5"
text_code kind.Unexpected = codes "N6"
text_code kind.TooDeep = codes "N7"
text_code kind.TooManyNodes = codes "N8"
text_code kind.EndOfText = codes "N9"
text_code kind.OutOfMemory = codes "N10"

abbrev pub check_code : CheckFault → List ℕ
check_code check.IdsOutOfRange = codes "X1"
check_code check.TooManyWindows = codes "X2"
check_code (check.RegisterOutOfRange j) = codes "C1"
check_code check.IdOutsideStart = codes "C2"
check_code check.MessageOutsideStep = codes "C3"
check_code (check.ChannelBound bound) = codes "C4"

abbrev pub ring_code : RingFault → List ℕ
ring_code ring.TooShort = codes "G1"
ring_code ring.TooLong = codes "G2"
ring_code (ring.IdTooLarge place) = codes "G3"
ring_code (ring.Repeated first second) = codes "G4"

-- OutOfMemory is no fault of a table text
abbrev pub table_code : TableFault → List ℕ
table_code (table.Syntax offset) = codes "A1"
table_code (table.WrongWindow number) = codes "A2"
table_code (table.ChannelTooLarge number) = codes "A3"
table_code table.OutOfMemory = []

abbrev pub formula_code : ProblemFault → List ℕ
formula_code problem.IdsOutOfRange = codes "X1"
formula_code problem.TooManyWindows = codes "X2"
formula_code problem.TooManyVariables = codes "V1"
formula_code problem.TooManyClauses = codes "V2"

abbrev pub line_code : LineFault → List ℕ
line_code line_fault.Form = codes "L2"
line_code line_fault.NumberNotAscending = codes "L3"
line_code line_fault.UnknownVariable = codes "L4"
line_code (line_fault.UnknownHint hint) = codes "L5"
line_code (line_fault.SeveralLeft hint) = codes "L6"
line_code (line_fault.EarlyConflict hint) = codes "L6"
line_code (line_fault.OneLeft hint) = codes "L7"
line_code line_fault.NoHints = codes "L7"
line_code line_fault.NoEmptyClause = codes "L8"
line_code line_fault.Exchange = codes "L9"

-- OutOfMemory is no fault of a refutation
abbrev pub refutation_code : RefuteError → List ℕ
refutation_code refute.TooLong = codes "L1"
refutation_code (refute.At number f) = line_code f
refutation_code refute.OutOfMemory = []

-- the code of a fault
abbrev pub code_of : Fault → List ℕ
code_of (of_text k offset) = text_code k
code_of (of_program p ids f) = check_code f
code_of (of_ring m t places f) = ring_code f
code_of (of_place place places) = codes "G5"
code_of (of_segments segments places) = codes "E1"
code_of (of_table_text f) = table_code f
code_of (of_formula m t f) = formula_code f
code_of (of_refutation f) = refutation_code f

-- the details of a fault: the byte, the line, the places, the register or the bound that it is about
abbrev pub details_of : Fault → List ℕ
details_of (of_text k offset) = codes " at " ++ decimal offset
details_of (of_program p ids (check.RegisterOutOfRange j)) = codes " register " ++ decimal j
details_of (of_program p ids (check.ChannelBound bound)) = codes " bound " ++ decimal bound
details_of (of_ring m t places (ring.IdTooLarge place)) = codes " place " ++ decimal place
details_of (of_ring m t places (ring.Repeated first second)) = codes " places "
    ++ (decimal first ++ (codes " " ++ decimal second))
details_of (of_place place places) = codes " place " ++ decimal place
details_of (of_table_text (table.Syntax offset)) = codes " at " ++ decimal offset
details_of (of_table_text (table.WrongWindow number)) = codes " line " ++ decimal number
details_of (of_table_text (table.ChannelTooLarge number)) = codes " line " ++ decimal number
details_of (of_refutation (refute.At number f)) = codes " line " ++ decimal number
details_of _ = []
