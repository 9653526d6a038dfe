-- That an edit helps, by what reading the edited text gives.
use Rattle.std.proofs.Common.{◌≡◌, ◌≢◌, ℕ, ◌-◌, ◌≤◌, List, length, subst, max, drop}
use Rattle.node_program.specs.Term.{ProgramTree}
use Rattle.node_lang.specs.declared.fault.FaultKind.{FaultKind}
use Rattle.node_lang.specs.declared.fault.FaultKind.TheVariants as kind
use Rattle.node_lang.specs.Grammar.{Reads}
use Rattle.node_lang.specs.Faults.{FaultsAt}
use Rattle.std.specs.Prelude.{true}
use Rattle.fault_notes.specs.declared.edits.Edit.{Edit}
use Rattle.fault_notes.specs.Repairs.{edited, ends_line, whole, later, IsRepair}

-- it makes a program
pub makes_program : (text new : List ℕ) (offset : ℕ) (e : Edit) → e.from ≤ e.to → e.to ≤ length text
    → (e.from ≡ e.to → e.from ≡ offset) →
    new ≡ edited text e →
    (p : ProgramTree) × Reads new p → IsRepair text offset e
makes_program text new offset e ordered within there is program = record {
  ordered = ordered;
  within = within;
  put_there = there;
  further = whole program.0 (subst (λ t. Reads t program.0) is program.1);
}

-- its fault stands on a later line
pub faults_later : (text new : List ℕ) (offset : ℕ) (e : Edit) → e.from ≤ e.to → e.to ≤ length text
    → (e.from ≡ e.to → e.from ≡ offset) →
    new ≡ edited text e →
    (k : FaultKind) (stop : ℕ) (behind : List ℕ) → FaultsAt new k stop → k ≢ kind.TooLong →
    behind ≡ drop (max offset e.to) text → ends_line behind (length new - stop) ≡ true → IsRepair text offset e
faults_later text new offset e ordered within there is k stop behind found other is_behind late = record {
  ordered = ordered;
  within = within;
  put_there = there;
  further = later k stop other (subst (λ t. FaultsAt t k stop) is found)
      (subst (λ b. ends_line b (length (edited text e) - stop) ≡ true) is_behind
      (subst (λ t. ends_line behind (length t - stop) ≡ true) is late));
}
