use Rattle.std.proofs.Common.{◌≡◌, ℕ, List, Option, Some, true, IfOk, string_bytes, subst, sym, arith}
use Rattle.std.specs.Prelude.{Result, Ok, Err, String}
use Rattle.std.specs.declared.alloc.Global.{Global}
use Rattle.node_program.specs.declared.memory.OutOfMemory.{OutOfMemory}
use Rattle.table_notes.specs.VerdictNotes.{no_tuples_note}
use Rattle.reports.specs.Findings as value
use Rattle.plan_print.specs.Notes.{IsNoteOn, IsToldIf}
use Rattle.plan_print.proofs.note.answer_note.Goals as goal

as_told : (is : List ℕ → Type 0) (r : Result (String Global) OutOfMemory) → IfOk r (λ note. is (string_bytes note))
    → IsToldIf true is (Some r)
as_told is (Ok note) told = told
as_told is (Err _) told = tt

over_none : (input : List ℕ) (n nodes ids : ℕ) (note : Option (Result (String Global) OutOfMemory)) → n ≡ 0
    → IsToldIf true (λ text. text ≡ no_tuples_note nodes ids) note → IsNoteOn input (value.yes n nodes ids) note
over_none input n nodes ids note none told =
    subst (λ (k : ℕ). IsNoteOn input (value.yes k nodes ids) note) (sym none) told

-- The yes is over no tuples.
pub returns-else-tuples-gt0 : goal.returns-else-tuples-gt0
returns-else-tuples-gt0 c =
    let none : c.in-Yes.tuples ≡ 0 = omega (arith, c.if-tuples-gt0.false) in
    rw c.in-Yes.is (over_none c.args.input.now c.in-Yes.tuples c.in-Yes.nodes c.in-Yes.ids _ none
    (as_told (λ text. text ≡ no_tuples_note c.in-Yes.nodes c.in-Yes.ids) c.no_tuples_note.result c.no_tuples_note.ensures))
