-- A round whose assignments do not read the message from the right does not depend on it.
use Rattle.std.proofs.Common.{◌≡◌, ℕ, false, ◌||◌, List, [], ◌∷◌, map, Option, None, Some, slice_get, refl, sym}
use Rattle.std.proofs.Common.{ap, ◌∙◌}
use Rattle.std.proofs.lemmas.Bool.{false≢true, or_parts}
use Rattle.std.specs.List.{list_any}
use Rattle.node_program.specs.Node.{reading_messages, assigned_values, next}
use Rattle.node_program.specs.Operations.{unary_value}
use Rattle.node_program.specs.Term.{Term, Literal, Identifier, LeftMessage, RightMessage, RegisterValue, One, Two}
use Rattle.node_program.specs.Term.{Choose, Round, ProgramTree, term_of, step_of}
use Rattle.node_program.specs.declared.tree.Round as code
use Rattle.node_program.specs.Value.{value}
use Rattle.node_program.specs.declared.tree.Expr.{Expr}
use Rattle.unroll.specs.RightReads.{reads_right, assignments_read_right, round_reads_right}

-- the value of an expression that does not read the message from the right, with two such messages
module _ (own : List ℕ) (left right other : ℕ) where
  value_ignores : (e : Term) → reads_right e ≡ false
      → value e (reading_messages own left right) ≡ value e (reading_messages own left other)
  value_ignores (Literal n) none = refl
  value_ignores Identifier none = refl
  value_ignores LeftMessage none = refl
  value_ignores RightMessage none = absurd (false≢true (sym none))
  value_ignores (RegisterValue j) none = refl
  value_ignores (One o a) none = ap (unary_value o) (value_ignores a none)
  value_ignores (Two o a b) none =
      let both = or_parts (reads_right a) (reads_right b) none in
      rw (value_ignores a both.0, value_ignores b both.1) refl
  value_ignores (Choose c a b) none =
      let all = or_parts (reads_right c) (reads_right a || reads_right b) none in
      let both = or_parts (reads_right a) (reads_right b) all.1 in
      rw (value_ignores c all.0, value_ignores a both.0, value_ignores b both.1) refl

  -- the values of several such expressions, and so the assignments of a round
  values_ignore :
      (es : List Term) → list_any reads_right es ≡ false
      → map (λ e. value e (reading_messages own left right)) es
      ≡ map (λ e. value e (reading_messages own left other)) es
  values_ignore [] none = refl
  values_ignore (e ∷ es) none =
      let both = or_parts (reads_right e) (list_any reads_right es) none in
      λ i. value_ignores e both.0 i ∷ values_ignore es both.1 i

  assigned_ignore :
      (round : Option Round) → assignments_read_right round ≡ false
      → assigned_values round own left right ≡ assigned_values round own left other
  assigned_ignore None none = refl
  assigned_ignore (Some round) none = values_ignore round.next none

-- the registers after such a round are the same for every message from the right
pub round_ignores :
    (p : ProgramTree) (k : ℕ) → round_reads_right p k ≡ false
    → (own : List ℕ) (left right other : ℕ) → next p k own left right ≡ next p k own left other
unfolding next round_reads_right
round_ignores p k none own left right other = assigned_ignore own left right other (slice_get p.steps k) none

-- whether a round of the code reads the message from the right
mapped : (es : List Expr) → list_any reads_right (map term_of es) ≡ list_any (λ e. reads_right (term_of e)) es
mapped [] = refl
mapped (e ∷ es) = ap (λ b. reads_right (term_of e) || b) (mapped es)

pub round_reads :
    (p : ProgramTree) (k : ℕ) (round : code.Round) → slice_get p.steps k ≡ Some (step_of round)
    → list_any (λ e. reads_right (term_of e)) round.next.items ≡ round_reads_right p k
unfolding round_reads_right
round_reads p k round here = sym (ap assignments_read_right here ∙ mapped round.next.items)
