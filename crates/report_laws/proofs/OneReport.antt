-- A task finds at most one thing on an input.
use Rattle.std.specs.Prelude.{⊤}
use Rattle.std.proofs.Common.{◌≡◌, ℕ, ◌<◌, ◌≤◌, List, [], length, ap, subst, sym, ◌∙◌, refl, append-nil, arith}
use Rattle.node_program.specs.Term.{ProgramTree}
use Rattle.node_lang.specs.Laws.{OneReading, OneTextFault}
use Rattle.win_index.specs.Ring.{IsRing}
use Rattle.win_index.specs.Laws.{OneRingFault, RingsHaveNoFault}
use Rattle.node_lang.specs.Grammar.{Reads}
use Rattle.lang_check.specs.Acceptance.{IsAccepted}
use Rattle.lang_check.specs.Refusals.{IsFirstRefusal}
use Rattle.channel_tables.specs.Tables.{ChannelTable}
use Rattle.table_text.specs.TableText.{Written, written, text_of}
use Rattle.table_text.specs.Texts.{IsTextOf}
use Rattle.table_text.specs.Faults.{IsFault}
use Rattle.table_text.specs.Laws.{OneTableFault, TableTextsAreApart, TableTextsAreRead}
use Rattle.lang_check.specs.Laws.{OneRefusal, AcceptedProgramsHaveNoRefusal}
use Rattle.channel_tables.specs.declared.separation.Separation.{Separation}
use Rattle.channel_tables.specs.Laws.{OneWitness, ApartTablesHaveNoWitness}
use Rattle.numerals.specs.declared.base.Base.{Base}
use Rattle.reports.specs.Findings.{Fault, of_text, of_program, of_ring, of_table_text, of_formula, of_refutation}
use Rattle.reports.specs.Findings.{Finding, refused}
use Rattle.reports.specs.Findings as value
use Rattle.reports.specs.Laws.{OneListOfChannels}
use Rattle.ring_problems.specs.declared.problem.Problem.{Problem as Posed}
use Rattle.ring_problems.specs.Demands.{known_in, patterns_of}
use Rattle.ring_problems.specs.Idle.{idle_in}
use Rattle.ring_problems.specs.Laws.{OneWitness as OneProblemWitness, SolvedTablesHaveNoWitness}
use Rattle.reports.specs.Report.{Finds, IsRefusedOr, told, answered, IsJudgement, good, bad, IsProblemJudgement, solved}
use Rattle.reports.specs.Report.{broken, IsAnswerOnRing, IsRunAnswer, IsExplainAnswer, IsTextRefusal, IsPrintReport}
use Rattle.reports.specs.Report.{IsProgramRefusal, text_fault, check_fault, IsProgramReport, IsOnRingByTable}
use Rattle.reports.specs.Report.{IsTableRefusal, IsTableReport}
use Rattle.table_formula.specs.Problems.{Problem}
use Rattle.table_formula.specs.Refutations.{IsRefutation}
use Rattle.table_formula.specs.RefutationLaws.{OneRefutationFault, RefutationsAreRight}
use Rattle.reports.specs.FormulaReports.{IsFormulaRefusal, IsNoRefutation}
use Rattle.reports.specs.ProblemFaults.{HasFormula, IsProblemFault, problem as numbered}
use Rattle.reports.specs.declared.problem.ProblemFault.{ProblemFault}
use Rattle.reports.specs.declared.problem.ProblemFault.TheVariants.{IdsOutOfRange, TooManyWindows}
use Rattle.reports.specs.declared.problem.ProblemFault.TheVariants.{TooManyVariables, TooManyClauses}
use Rattle.plan_print.proofs.Tasks.{AreFew, by_task}
use Rattle.report_laws.specs.Laws.{OneReport}

-- at most one is so
abbrev IsOne : {A : Type 0} → (A → Type 0) → Type 0
IsOne {A} is = (x y : A) → is x → is y → x ≡ y

one_value : (value : Finding) → IsOne (Finds value)
one_value value f g is is' = is ∙ sym is'

-- a refusal or an answer is one if each is, and not both are
one_of_two : (refusal : Fault → Type 0) (answer : Finding → Type 0) → IsOne refusal
    → ((fault : Fault) (f : Finding) → refusal fault → answer f → ⊥) → IsOne answer → IsOne (IsRefusedOr refusal answer)
one_of_two refusal answer one apart each f g (told fault is same) (told other is' same') =
    same ∙ ap (λ x. refused x) (one fault other is is') ∙ sym same'
one_of_two refusal answer one apart each f g (told fault is same) (answered said) = absurd (apart fault g is said)
one_of_two refusal answer one apart each f g (answered said) (told fault is same) = absurd (apart fault f is said)
one_of_two refusal answer one apart each f g (answered said) (answered said') = each f g said said'

one_judgement : OneWitness → ApartTablesHaveNoWitness → (t : ChannelTable) (d : Separation) → IsOne (IsJudgement t d)
one_judgement one no_witness t d f g (good apart is) (good apart' is') = is ∙ sym is'
one_judgement one no_witness t d f g (good apart is) (bad ring i c witness is') =
    absurd (no_witness t d ring i c apart witness)
one_judgement one no_witness t d f g (bad ring i c witness is) (good apart is') =
    absurd (no_witness t d ring i c apart witness)
one_judgement one no_witness t d f g (bad ring i c witness is) (bad other j e witness' is') =
    let same = one t d ring other i j c e witness witness' in
    is ∙ (λ k. value.no d (same.0 k) (same.1 k) (same.2 k)) ∙ sym is'

one_problem_judgement : OneProblemWitness → SolvedTablesHaveNoWitness → (t : ChannelTable) (problem : Posed)
    → IsOne (IsProblemJudgement t problem)
one_problem_judgement one no_witness t problem f g (solved everywhere is) (solved everywhere' is') = is ∙ sym is'
one_problem_judgement one no_witness t problem f g (solved everywhere is) (broken ring i c p witness is') =
    absurd (no_witness t (patterns_of problem) ring i c p everywhere witness)
one_problem_judgement one no_witness t problem f g (broken ring i c p witness is) (solved everywhere is') =
    absurd (no_witness t (patterns_of problem) ring i c p everywhere witness)
one_problem_judgement one no_witness t problem f g (broken ring i c p witness is) (broken other j d q witness' is') =
    let same = one t (patterns_of problem) ring other i j c d p q witness witness' in
    is ∙ (λ k. value.broken (same.0 k) (same.1 k) (same.2 k) (same.3 k) (known_in problem) (idle_in (patterns_of problem) t.channels)) ∙ sym is'

-- there is one finding on a list of identifiers, if there is one on a ring
one_on_ring : OneRingFault → RingsHaveNoFault → (m t : ℕ) (x : List ℕ) (found : Finding → Type 0)
    → (IsRing m t x → IsOne found)
    → IsOne (IsAnswerOnRing m t x found)
one_on_ring one no_fault m t x found each =
    one_of_two _ _ (λ a b p q. p.is ∙ ap (of_ring m t x) (one m t x p.what q.what p.first q.first) ∙ sym q.is)
    (λ fault f none said. no_fault m t x none.what said.0 none.first) (λ f g p q. each p.0 f g p.1 q.1)

one_run : (p : ProgramTree) (x : List ℕ) (segments : ℕ) → IsOne (IsRunAnswer p x segments)
one_run p x segments =
    one_of_two _ _ (λ a b p q. p.1 ∙ sym q.1) (λ fault f none said. none.0 said.0) (λ f g p q. p.1 ∙ sym q.1)

no_such_place : (x : List ℕ) (place : ℕ) → length x ≤ place → place < length x → ⊥
no_such_place x place beyond within = omega arith

one_explanation : (b : Base) (p : ProgramTree) (x : List ℕ) (place : ℕ) → IsOne (IsExplainAnswer b p x place)
one_explanation b p x place =
    one_of_two _ _ (λ a b p q. p.1 ∙ sym q.1) (λ fault f none said. no_such_place x place none.0 said.0)
    (λ f g p q. p.1 ∙ sym q.1)

one_by_table : OneListOfChannels → (t : ChannelTable) (x : List ℕ) → IsOne (IsOnRingByTable t x)
one_by_table one t x f g first second =
    let same = one t x first.channels second.are.channel first.are second.are.has ∙ sym second.are.are in
    first.is ∙ ap (value.places x) same ∙ sym second.is

one_text_refusal : OneTextFault → (input : List ℕ) → IsOne (IsTextRefusal input)
one_text_refusal one input a b p q =
    let same = one input p.kind q.kind p.offset q.offset p.first q.first in
    p.is ∙ (λ n. of_text (same.0 n) (same.1 n)) ∙ sym q.is

one_print : OneReading → OneTextFault → (input : List ℕ) → IsOne (IsPrintReport input)
one_print one_reading one_text_fault input =
    one_of_two _ _ (one_text_refusal one_text_fault input) (λ fault f none said. none.none said.0 said.1)
    (λ f g p q. p.2 ∙ ap value.program (one_reading input p.0 q.0 p.1 q.1) ∙ sym q.2)

one_program_refusal : OneTextFault → OneReading → OneRefusal → (m : ℕ) (input : List ℕ)
    → IsOne (IsProgramRefusal m input)
one_program_refusal one_text_fault one_reading one_refusal m input a b (text_fault first) (text_fault second) =
    one_text_refusal one_text_fault input a b first second
one_program_refusal one_text_fault one_reading one_refusal m input a b (text_fault first)
    (check_fault p f reads refuses is) =
    absurd (first.none p reads)
one_program_refusal one_text_fault one_reading one_refusal m input a b (check_fault p f reads refuses is)
    (text_fault second) =
    absurd (second.none p reads)
one_program_refusal one_text_fault one_reading one_refusal m input a b (check_fault p f reads refuses is)
    (check_fault q g reads' refuses' is') =
    let program = one_reading input p q reads reads' in
    let same = one_refusal m p f g refuses (subst (λ h. IsFirstRefusal m h g) (sym program) refuses') in
    is ∙ (λ n. of_program (program n) m (same n)) ∙ sym is'

-- an accepted program is not refused
pub accepted_or_refused : OneReading → AcceptedProgramsHaveNoRefusal
    → (m : ℕ) (input : List ℕ) (fault : Fault) (p : ProgramTree)
    → Reads input p → IsAccepted m p → IsProgramRefusal m input fault → ⊥
accepted_or_refused one_reading no_refusal m input fault p reads accepted (text_fault refuses) = refuses.none p reads
accepted_or_refused one_reading no_refusal m input fault p reads accepted (check_fault q f reads' refuses is) =
    no_refusal m q f (subst (IsAccepted m) (one_reading input p q reads reads') accepted) refuses

-- there is one finding on a program text, if there is one on each program
one_program_report : OneReading → OneTextFault → OneRefusal → AcceptedProgramsHaveNoRefusal
    → (m : ℕ) (answer : ProgramTree → Finding → Type 0)
    → ((p : ProgramTree) → AreFew (length p.steps) m → IsOne (answer p)) → (input : List ℕ)
    → IsOne (IsProgramReport m answer input)
one_program_report one_reading one_text_fault one_refusal no_refusal m answer each input =
    one_of_two _ _ (one_program_refusal one_text_fault one_reading one_refusal m input)
    (λ fault f none said. accepted_or_refused one_reading no_refusal m input fault said.0 said.1 said.2 none)
    (λ f g p q. each p.0 (p.1.limits.rounds, p.2.shape.ids.few) f g p.3 (subst (λ h. answer h g) (one_reading input q.0 p.0 q.1 p.1) q.3))

one_table_refusal : OneTableFault → (input : List ℕ) → IsOne (IsTableRefusal input)
one_table_refusal one input a b p q =
    p.is ∙ ap of_table_text (one input p.what q.what p.known q.known p.first q.first) ∙ sym q.is

-- a table text is not refused
pub told_or_refused : TableTextsAreRead → (input : List ℕ) (fault : Fault) (t : ChannelTable) (d : Separation) →
    IsTextOf input t d → IsTableRefusal input fault → ⊥
told_or_refused read input fault t d text refuses =
    refuses.known (read (written text.0 t d) refuses.what text.1
    (subst (λ x. IsFault x refuses.what) text.2 refuses.first))

-- a text gives one table and one separation
pub one_telling : TableTextsAreApart → (input : List ℕ) (t u : ChannelTable) (d e : Separation) →
    IsTextOf input t d → IsTextOf input u e → (t ≡ u) × (d ≡ e)
one_telling apart input t u d e text text' =
    let v = written text.0 t d in
    let w = written text'.0 u e in
    let same = (apart v w [] text.1 text'.1 (sym text'.2 ∙ text.2 ∙ sym (append-nil (text_of v)))).0 in
    (ap (λ (x : Written). x.table) same, ap (λ (x : Written). x.separation) same)

-- there is one finding on a table text, if there is one on each table and separation
one_table_report : OneTableFault → TableTextsAreApart → TableTextsAreRead
    → (answer : ChannelTable → Separation → Finding → Type 0)
    → ((t : ChannelTable) (d : Separation) → AreFew t.rounds t.ids → IsOne (answer t d))
    → (input : List ℕ) → IsOne (IsTableReport answer input)
one_table_report one_fault apart read answer each input =
    one_of_two _ _ (one_table_refusal one_fault input)
    (λ fault f none said. told_or_refused read input fault said.0 said.1 said.2 none)
    (λ f g p q. let same = one_telling apart input q.0 p.0 q.1 p.1 q.2 p.2 in
    let begun = p.2.1.table.begun in
    each p.0 p.1 (begun.few_rounds, begun.shape.ids.few) f g p.3
    (subst (λ x. answer p.0 x g) same.1 (subst (λ x. answer x q.1 g) same.0 q.3)))

-- a problem has at most one fault, and none if it has a formula
one_problem_fault : (p : Problem) (f g : ProblemFault) → IsProblemFault p f → IsProblemFault p g → f ≡ g
one_problem_fault p IdsOutOfRange IdsOutOfRange is is' = refl
one_problem_fault p IdsOutOfRange TooManyWindows is is' = absurd (is is'.0)
one_problem_fault p IdsOutOfRange TooManyVariables is is' = absurd (is is'.0.ids)
one_problem_fault p IdsOutOfRange TooManyClauses is is' = absurd (is is'.0.ids)
one_problem_fault p TooManyWindows IdsOutOfRange is is' = absurd (is' is.0)
one_problem_fault p TooManyWindows TooManyWindows is is' = refl
one_problem_fault p TooManyWindows TooManyVariables is is' = absurd (is.1 is'.0.few_windows)
one_problem_fault p TooManyWindows TooManyClauses is is' = absurd (is.1 is'.0.few_windows)
one_problem_fault p TooManyVariables IdsOutOfRange is is' = absurd (is' is.0.ids)
one_problem_fault p TooManyVariables TooManyWindows is is' = absurd (is'.1 is.0.few_windows)
one_problem_fault p TooManyVariables TooManyVariables is is' = refl
one_problem_fault p TooManyVariables TooManyClauses is is' = absurd (is.1 is'.1.0)
one_problem_fault p TooManyClauses IdsOutOfRange is is' = absurd (is' is.0.ids)
one_problem_fault p TooManyClauses TooManyWindows is is' = absurd (is'.1 is.0.few_windows)
one_problem_fault p TooManyClauses TooManyVariables is is' = absurd (is'.1 is.1.0)
one_problem_fault p TooManyClauses TooManyClauses is is' = refl

no_problem_fault : (p : Problem) (f : ProblemFault) → HasFormula p → IsProblemFault p f → ⊥
no_problem_fault p IdsOutOfRange has is = is has.shape.ids
no_problem_fault p TooManyWindows has is = is.1 has.shape.few_windows
no_problem_fault p TooManyVariables has is = is.1 has.limits.few_variables
no_problem_fault p TooManyClauses has is = is.1.1 has.limits.few_clauses

one_formula_refusal : (p : Problem) → IsOne (IsFormulaRefusal p)
one_formula_refusal p a b first second =
    first.is ∙ ap (of_formula p.ids p.rounds) (one_problem_fault p first.what second.what first.first second.first)
    ∙ sym second.is

-- there is one finding on a problem, if there is one where it has a formula
one_on_formula : (p : Problem) (found : Finding → Type 0) → IsOne found
    → IsOne (IsRefusedOr (IsFormulaRefusal p) (λ f. HasFormula p × found f))
one_on_formula p found each =
    one_of_two _ _ (one_formula_refusal p) (λ fault f none said. no_problem_fault p none.what said.0 none.first)
    (λ f g p q. each f g p.1 q.1)

one_refutation : OneRefutationFault → RefutationsAreRight → (p : Problem) (input : List ℕ)
    → IsOne (IsRefusedOr (IsNoRefutation p input) (λ f. IsRefutation p input × (f ≡ value.refuted p)))
one_refutation one right p input =
    one_of_two _ _ (λ a b first second. first.is ∙ ap of_refutation
    (one p input first.what second.what first.known second.known first.first second.first) ∙ sym second.is)
    (λ fault f none said. none.known (right p input none.what said.0 none.first)) (λ f g p q. p.1 ∙ sym q.1)

pub one_report : OneReading → OneTextFault → OneRefusal → AcceptedProgramsHaveNoRefusal → OneRingFault
    → RingsHaveNoFault → OneWitness → ApartTablesHaveNoWitness
    → OneProblemWitness → SolvedTablesHaveNoWitness
    → OneTableFault → TableTextsAreApart → TableTextsAreRead → OneListOfChannels → OneRefutationFault
    → RefutationsAreRight
    → OneReport
one_report one_reading one_text_fault one_refusal no_refusal one_fault no_fault one_witness no_witness one_problem no_problem one_table_fault
    apart read one_list one_refutation_fault right task input =
    by_task (λ task. ⊤) input (λ (is : Finding → Type 0). IsOne is)
    (λ value of. one_value value)
    (λ t s few. one_judgement one_witness no_witness t s)
    (one_problem_judgement one_problem no_problem)
    one_run
    one_explanation
    (λ t x ring. one_by_table one_list t x)
    (λ m t x is few. one_on_ring one_fault no_fault m t x is)
    (λ m is each. one_program_report one_reading one_text_fault one_refusal no_refusal m is each input)
    (λ is each. one_table_report one_table_fault apart read is each input)
    (one_print one_reading one_text_fault input)
    (λ m t channels demand known. one_on_formula (numbered m t channels demand) _ (one_value _))
    (λ m t channels demand known.
    let p = numbered m t channels demand in one_on_formula p _ (one_refutation one_refutation_fault right p input))
    task tt
