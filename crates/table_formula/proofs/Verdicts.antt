-- Each text is a refutation or has a first fault, and only one of both.
use Rattle.std.proofs.Common.{◌≡◌, ◌≢◌, ◌⊎◌, inl, inr, ℕ, ◌+◌, ◌≤◌, Bool, true, false, List, [], ◌∷◌, ◌++◌, Option}
use Rattle.std.proofs.Common.{None, Some, length, refl, sym, ap, ◌∙◌, arith, append-nil}
use Rattle.std.proofs.lemmas.Bool.{cases_order}
use Rattle.table_formula.specs.Problems.{Problem}
use Rattle.table_formula.specs.declared.refutation.fault.LineFault.{LineFault}
use Rattle.table_formula.specs.declared.refutation.fault.LineFault.TheVariants.{NoEmptyClause}
use Rattle.table_formula.specs.declared.refutation.fault.RefuteError.{RefuteError}
use Rattle.table_formula.specs.declared.refutation.fault.RefuteError.TheVariants.{TooLong, At, OutOfMemory}
use Rattle.table_formula.specs.declared.limits.TheConstants.{LONGEST_REFUTATION}
use Rattle.table_formula.specs.Words.{lines_of}
use Rattle.table_formula.specs.Lines.{line_in}
use Rattle.table_formula.specs.Derivations.{Derivation, opening, line_fault, after_line, adds_empty}
use Rattle.table_formula.specs.Refutations.{Leads, IsRefutation, IsFault}
use Rattle.table_formula.specs.FirstFaults.{fault_or, first_fault, fault_in}
use Rattle.table_formula.specs.RefutationLaws.{RefutationsAreRight, OneRefutationFault}
use Rattle.table_formula.specs.RefutationLaws.{LongTextsHaveOneFault, EachTextHasAVerdict}

-- how the lines from a derivation on end
data Ends (p : Problem) (d : Derivation) (count : ℕ) (lines : List (List ℕ)) (r : Option RefuteError) : Type 0 where
  refutes : (before : List (List ℕ)) (here : List ℕ) (later : Derivation) (after : List (List ℕ))
      → lines ≡ before ++ here ∷ after → Leads p d before later
      → line_fault p later (line_in here) ≡ None → adds_empty (line_in here) ≡ true → r ≡ None → Ends p d count lines r
  fails : (before : List (List ℕ)) (here : List ℕ) (later : Derivation) (after : List (List ℕ)) (f : LineFault)
      → lines ≡ before ++ here ∷ after
      → Leads p d before later → line_fault p later (line_in here) ≡ Some f
      → r ≡ Some (At (count + length before + 1) f) → Ends p d count lines r
  lacks : (later : Derivation) → Leads p d lines later → r ≡ Some (At (count + length lines) NoEmptyClause)
      → Ends p d count lines r

module _ (p : Problem) where
  ends_line : (d : Derivation) (count : ℕ) (line : List ℕ) (lines : List (List ℕ)) (r : Option RefuteError)
      (o : Option LineFault) (b : Bool)
      → line_fault p d (line_in line) ≡ o → adds_empty (line_in line) ≡ b
      → Ends p (after_line d (line_in line)) (count + 1) lines r
      → Ends p d count (line ∷ lines) (fault_or o b (count + 1) r)
  ends_line d count line lines r (Some f) b right empty ends =
      fails [] line d lines f refl refl right (ap (λ n. Some (At n f)) (omega arith))
  ends_line d count line lines r None true right empty ends = refutes [] line d lines refl refl right empty refl
  ends_line d count line lines r None false right empty (refutes before here later after e leads right' empty' is) =
      refutes (line ∷ before) here later after (ap (λ ls. line ∷ ls) e) (right, empty, leads) right' empty' is
  ends_line d count line lines r None false right empty (fails before here later after f e leads wrong is) =
      fails (line ∷ before) here later after f (ap (λ ls. line ∷ ls) e) (right, empty, leads) wrong (is
      ∙ ap (λ n. Some (At n f)) (omega arith))
  ends_line d count line lines r None false right empty (lacks later leads is) =
      lacks later (right, empty, leads) (is ∙ ap (λ n. Some (At n NoEmptyClause)) (omega arith))

  ends : (d : Derivation) (count : ℕ) (lines : List (List ℕ)) → Ends p d count lines (first_fault p d count lines)
  ends d count [] = lacks d refl (ap (λ n. Some (At n NoEmptyClause)) (omega arith))
  ends d count (line ∷ lines) =
      ends_line d count line lines _ (line_fault p d (line_in line)) (adds_empty (line_in line)) refl refl
      (ends (after_line d (line_in line)) (count + 1) lines)

  -- lines that lead to a derivation leave the fault to those after them
  right_line : (o : Option LineFault) (b : Bool) (line : ℕ) (r : Option RefuteError) → o ≡ None → b ≡ false
      → fault_or o b line r ≡ r
  right_line None false line r right empty = refl
  right_line None true line r right empty = cc
  right_line (Some f) b line r right empty = cc

  led : (d : Derivation) (count : ℕ) (before more : List (List ℕ)) (later : Derivation) → Leads p d before later
      → first_fault p d count (before ++ more) ≡ first_fault p later (count + length before) more
  led d count [] more later leads = λ i. first_fault p (leads i) (same i) more
    where
      same : count ≡ count + 0
      same = omega arith
  led d count (line ∷ before) more later leads =
      right_line _ _ (count + 1) _ leads.0 leads.1
      ∙ led (after_line d (line_in line)) (count + 1) before more later leads.2
      ∙ ap (λ n. first_fault p later n more) (omega arith)

  module _ (text : List ℕ) where
    pub right_told : length text ≤ LONGEST_REFUTATION → fault_in p text ≡ None → IsRefutation p text
    right_told short told = elim (ends (opening p) 0 (lines_of text)) [
      | refutes before here later after e leads right empty is ↦
          (before, here, later, record { short = short; after = after; lines = e; right = leads }, right, empty)
      | fails before here later after f e leads wrong is ↦ cc
      | lacks later leads is ↦ cc
    ]

    pub fault_told : (f : RefuteError) → length text ≤ LONGEST_REFUTATION → fault_in p text ≡ Some f → IsFault p text f
    fault_told TooLong short told = elim (ends (opening p) 0 (lines_of text)) [
      | refutes before here later after e leads right empty is ↦ cc
      | fails before here later after f e leads wrong is ↦ cc
      | lacks later leads is ↦ cc
    ]
    fault_told OutOfMemory short told = short
    fault_told (At line fault) short told = elim (ends (opening p) 0 (lines_of text)) [
      | refutes before here later after e leads right empty is ↦ cc
      | fails before here later after f e leads wrong is ↦
          let same : Some (At line fault) ≡ Some (At (0 + length before + 1) f) = sym told ∙ is in
          let lines : line ≡ 0 + length before + 1 = cc in
          let faults : f ≡ fault = cc in
          inl (
            before,
            here,
            later,
            record { short = short; after = after; lines = e; right = leads },
            wrong
                ∙ ap Some faults,
            omega (arith, lines),
          )
      | lacks later leads is ↦
          let same : Some (At line fault) ≡ Some (At (0 + length (lines_of text)) NoEmptyClause) = sym told ∙ is in
          let lines : line ≡ 0 + length (lines_of text) = cc in
          let faults : fault ≡ NoEmptyClause = cc in
          inr ((short, later, leads), faults, omega (arith, lines))
    ]

    right_known : IsRefutation p text → fault_in p text ≡ None
    right_known (before, here, d, reaches, right, empty) =
        ap (first_fault p (opening p) 0) reaches.lines ∙ led (opening p) 0 before (here ∷ reaches.after) d reaches.right
        ∙ (λ i. fault_or (right i) (empty i) (0 + length before + 1) (first_fault p (after_line d (line_in here)) (0 + length before + 1) reaches.after))

    fault_known : (line : ℕ) (fault : LineFault) → IsFault p text (At line fault)
        → fault_in p text ≡ Some (At line fault)
    fault_known line fault (inl (before, here, d, reaches, wrong, is)) =
        ap (first_fault p (opening p) 0) reaches.lines ∙ led (opening p) 0 before (here ∷ reaches.after) d reaches.right
        ∙ (λ i. fault_or (wrong i) (adds_empty (line_in here)) (0 + length before + 1) (first_fault p (after_line d (line_in here)) (0 + length before + 1) reaches.after))
        ∙ ap (λ n. Some (At n fault)) (omega (arith, is))
    fault_known line fault (inr ((short, d, leads), none, is)) =
        ap (first_fault p (opening p) 0) (sym (append-nil (lines_of text)))
        ∙ led (opening p) 0 (lines_of text) [] d leads
        ∙ ap (λ n. Some (At n NoEmptyClause)) (omega (arith, is)) ∙ ap (λ f. Some (At line f)) (sym none)

    is_short : (line : ℕ) (fault : LineFault) → IsFault p text (At line fault) → length text ≤ LONGEST_REFUTATION
    is_short line fault (inl (before, here, d, reaches, wrong, is)) = reaches.short
    is_short line fault (inr (all, none, is)) = all.0

pub right : RefutationsAreRight
right p text TooLong refutation long = let short = refutation.3.short in absurd (omega (arith, short, long))
right p text OutOfMemory refutation f = refl
right p text (At line fault) refutation f =
    let same : None ≡ Some (At line fault) = sym (right_known p text refutation) ∙ fault_known p text line fault f in cc

pub one_fault : OneRefutationFault
one_fault p text OutOfMemory g other other' h k = absurd (other refl)
one_fault p text TooLong OutOfMemory other other' h k = absurd (other' refl)
one_fault p text (At line fault) OutOfMemory other other' h k = absurd (other' refl)
one_fault p text TooLong TooLong other other' h k = refl
one_fault p text TooLong (At line fault) other other' h k =
    let short = is_short p text line fault k in absurd (omega (arith, short, h))
one_fault p text (At line fault) TooLong other other' h k =
    let short = is_short p text line fault h in absurd (omega (arith, short, k))
one_fault p text (At line fault) (At line' fault') other other' h k =
    let same : Some (At line fault) ≡ Some (At line' fault') =
    sym (fault_known p text line fault h) ∙ fault_known p text line' fault' k in cc

pub long_fault : LongTextsHaveOneFault
long_fault p text TooLong long = ((λ f. refl), (λ is. long))
long_fault p text OutOfMemory long = ((λ short. absurd (omega (arith, long, short))), (λ is. cc))
long_fault p text (At line fault) long =
    ((λ f. let short = is_short p text line fault f in absurd (omega (arith, long, short))), (λ is. cc))

short_verdict : (p : Problem) (text : List ℕ) → length text ≤ LONGEST_REFUTATION
    → IsRefutation p text ⊎ ((f : RefuteError) × (f ≢ OutOfMemory) × IsFault p text f)
short_verdict p text short = elim (ends p (opening p) 0 (lines_of text)) [
  | refutes before here later after e leads right empty is ↦ inl (right_told p text short is)
  | fails before here later after f e leads wrong is ↦ inr (At (0 + length before + 1) f, (λ no. cc), fault_told p text _ short is)
  | lacks later leads is ↦ inr (At (0 + length (lines_of text)) NoEmptyClause, (λ no. cc), fault_told p text _ short is)
]

pub verdict : EachTextHasAVerdict
verdict p text = elim (cases_order (length text) LONGEST_REFUTATION) [
  | inl same ↦ short_verdict p text (omega (arith, same))
  | inr (inl less) ↦ short_verdict p text (omega (arith, less))
  | inr (inr more) ↦ inr (TooLong, (λ no. cc), more)
]
