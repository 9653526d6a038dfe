use Rattle.std.proofs.Common.{◌≡◌, ℕ, List, None, Some, sym, ap, ◌∙◌, arith}
use Rattle.table_formula.specs.Problems.{Problem}
use Rattle.table_formula.specs.Words.{lines_of}
use Rattle.table_formula.specs.Derivations.{Derivation, opening}
use Rattle.table_formula.specs.FirstFaults.{first_fault, error_of, fault_in}
use Rattle.table_formula.specs.declared.refutation.fault.RefuteError.TheVariants.{At}
use Rattle.table_formula.proofs.Verdicts.{right_told, fault_told}
use Rattle.table_formula.proofs.refutation.refute.Goals as goal

-- the first fault of all lines from the formula on is that of the text
from_start : (p q : Problem) (text : List ℕ) (d : Derivation) (count : ℕ) (lines : List (List ℕ))
    → q ≡ p → d ≡ opening p → count ≡ 0 → lines ≡ lines_of text → first_fault q d count lines ≡ fault_in p text
from_start p q text d count lines formula begins none all = λ i. first_fault (formula i) (begins i) (none i) (all i)

pub returns-in-None-clause-impossible : goal.returns-in-None-clause-impossible
returns-in-None-clause-impossible c =
    let formula = c.args.formula.now in
    let text = c.args.text.now in
    let start = from_start formula _ text _ _ _ c.in_ok-checker.ensures.problem c.in_ok-checker.ensures.derivation c.new-lines.ensures.read c.new-lines.ensures.left in
    let told : fault_in formula text ≡ None =
    sym start ∙ sym c.in_ok-first_fault.ensures.found ∙ ap error_of c.in-None.is in
    c.refutations_are_sound.ensures formula text (right_told formula text (omega arith) told)

pub returns-clause-fault : goal.returns-clause-fault
returns-clause-fault c =
    let formula = c.args.formula.now in
    let text = c.args.text.now in
    let fault = At c.in-Some.field-0.line c.in-Some.field-0.fault in
    let start = from_start formula _ text _ _ _ c.in_ok-checker.ensures.problem c.in_ok-checker.ensures.derivation c.new-lines.ensures.read c.new-lines.ensures.left in
    let told : fault_in formula text ≡ Some fault =
    sym start ∙ sym c.in_ok-first_fault.ensures.found ∙ ap error_of c.in-Some.is in
    fault_told formula text fault (omega arith) told
