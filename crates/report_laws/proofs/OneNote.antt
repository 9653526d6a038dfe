-- A note without advice is one text.
use Rattle.std.proofs.Common.{◌≡◌, ℕ, ◌-◌, List, ◌∷◌, ◌++◌, ap, sym, ◌∙◌}
use Rattle.source_text.specs.Lines.{after_lines}
use Rattle.source_text.specs.Shown.{marked_line}
use Rattle.table_formula.specs.declared.refutation.fault.LineFault.{LineFault}
use Rattle.table_formula.specs.declared.refutation.fault.RefuteError.TheVariants as refute
use Rattle.table_formula.specs.RefutationNotes.{line_head, IsLineNote, MayHaveAdvice}
use Rattle.plan_print.specs.Notes.{IsNoteAs, Told, nothing, on_fault, this, told_on}
use Rattle.reports.specs.Findings.{of_text, of_program, of_ring, of_place, of_segments, of_table_text}
use Rattle.reports.specs.Findings.{of_formula, of_refutation}
use Rattle.report_laws.specs.Laws.{IsToldPlainly, OneNote}

-- a line of a refutation without advice
one_line : (text : List ℕ) (number : ℕ) (f : LineFault) (note other : List ℕ) → ¬ MayHaveAdvice f
    → IsLineNote text number f note
    → IsLineNote text number f other → note ≡ other
one_line text number f note other plain is also =
    is.is ∙ ap (λ advice. line_head number f ++ (advice ++ 10 ∷ marked_line (after_lines (number - 1) text) 0))
    (is.none plain ∙ sym (also.none plain)) ∙ sym also.is

one_told : (input : List ℕ) (told : Told) (note other : List ℕ) → IsToldPlainly told → IsNoteAs input told note
    → IsNoteAs input told other → note ≡ other
one_told input nothing note other plain is also = absurd is
one_told input (this text) note other plain is also = is ∙ sym also
one_told input (on_fault (of_ring m t places f)) note other plain is also = is ∙ sym also
one_told input (on_fault (of_place place places)) note other plain is also = is ∙ sym also
one_told input (on_fault (of_segments segments places)) note other plain is also = is ∙ sym also
one_told input (on_fault (of_refutation refute.TooLong)) note other plain is also = is ∙ sym also
one_told input (on_fault (of_refutation (refute.At line f))) note other plain is also =
    one_line input line f note other plain is also
one_told input (on_fault (of_refutation refute.OutOfMemory)) note other plain is also = is ∙ sym also
one_told input (on_fault (of_text k offset)) note other plain is also = absurd plain
one_told input (on_fault (of_program p ids f)) note other plain is also = absurd plain
one_told input (on_fault (of_table_text f)) note other plain is also = absurd plain
one_told input (on_fault (of_formula m t f)) note other plain is also = absurd plain

pub one_note : OneNote
one_note input f = one_told input (told_on f)
