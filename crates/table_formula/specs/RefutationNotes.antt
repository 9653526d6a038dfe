-- The note on a text that is no refutation.
use Rattle.std.specs.Prelude.{◌≡◌, ℕ, ◌-◌, ◌++◌, List, [], ◌∷◌, ⊤, codes}
use Rattle.std.specs.Fmt.{decimal}
use Rattle.source_text.specs.Lines.{after_lines}
use Rattle.source_text.specs.Shown.{marked_line}
use Rattle.table_formula.specs.declared.refutation.fault.LineFault.{LineFault}
use Rattle.table_formula.specs.declared.refutation.fault.LineFault.TheVariants as line_fault
use Rattle.table_formula.specs.declared.refutation.fault.RefuteError.{RefuteError}
use Rattle.table_formula.specs.declared.refutation.fault.RefuteError.TheVariants as refute

-- what is wrong with a line of a refutation
abbrev pub line_cause : LineFault → List ℕ
line_cause line_fault.Form =
    codes "this line is not a step of LRAT, as `5 -1 2 0 3 4 0`, a deletion, as `5 d 3 4 0`, or a comment"
line_cause line_fault.NumberNotAscending = codes "the number of this step is not above those of the steps before it, or not above those of the formula's clauses: then the options may be those of another formula"
line_cause line_fault.UnknownVariable = codes
    "this clause has a variable that the formula lacks; the numbers may be those of another formula"
line_cause line_fault.Exchange =
    codes "tables need not stay right by this exchange: identifiers are below `--ids` and channels below `--channels`, and two channels are exchanged only if near and far are at most 1"
line_cause (line_fault.UnknownHint hint) = codes "hint " ++ (decimal hint ++ codes " names no clause: there is none of its number yet, or it was deleted; the options may be those of another formula")
line_cause (line_fault.SeveralLeft hint) = codes "several literals of the clause of hint " ++ (decimal hint ++ codes ", or one twice, are not yet known to be false, where at most one may be: a hint is missing before it or stands behind it, or the options may be those of another formula")
line_cause (line_fault.EarlyConflict hint) = codes "all literals of the clause of hint " ++ (decimal hint ++ codes " are known to be false, so it has to be the last one: leave out those behind it; the options may be those of another formula")
line_cause (line_fault.OneLeft hint) = codes "the clause of hint " ++ (decimal hint ++ codes ", the last one, has a literal that is not known to be false: a hint is missing or wrong, or the options may be those of another formula")
line_cause line_fault.NoHints = codes "this step has no hints: behind the 0 of its clause stand the numbers of the clauses from which it follows, and then 0"
line_cause line_fault.NoEmptyClause = codes "the text ends here, before the empty clause"

-- the start of the note on a line: its number, counted from 1, and what is wrong with it
abbrev pub line_head : ℕ → LineFault → List ℕ
line_head number f = codes "nbhd: line " ++ (decimal number ++ (codes ": " ++ line_cause f))

-- the faults of a line on which there may be advice: it has not the form of a line, or the text ends too early
abbrev pub MayHaveAdvice : LineFault → Type 0
MayHaveAdvice line_fault.Form = ⊤
MayHaveAdvice line_fault.NoEmptyClause = ⊤
MayHaveAdvice _ = ⊥

-- the note on a line: its start, advice if there may be some, and the line with a mark
pub record IsLineNote (text : List ℕ) (number : ℕ) (f : LineFault) (note : List ℕ) : Type 0 where
  pub advice : List ℕ
  pub none : ¬ MayHaveAdvice f → advice ≡ []
  pub is : note ≡ line_head number f ++ (advice ++ 10 ∷ marked_line (after_lines (number - 1) text) 0)

-- the note on a text that is no refutation; OutOfMemory has none
abbrev pub IsRefutationNote : List ℕ → RefuteError → List ℕ → Type 0
IsRefutationNote text refute.TooLong note = note
    ≡ codes "nbhd: the text of a refutation has at most 134217728 bytes; `tools/lrat` leaves out what is not needed\n"
IsRefutationNote text (refute.At number f) note = IsLineNote text number f note
IsRefutationNote text refute.OutOfMemory note = note ≡ codes ""
