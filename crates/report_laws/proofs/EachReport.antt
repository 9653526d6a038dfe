-- Each task finds something on each input.
use Rattle.std.proofs.Common.{◌≢◌, ℕ, ◌<◌, ◌≤◌, List, length, inl, inr, refl}
use Rattle.std.proofs.lemmas.Bool.{cases_lt}
use Rattle.std.specs.Prelude.{◌⊎◌, ⊤, map}
use Rattle.std.specs.List.{range_with_len}
use Rattle.node_program.specs.Term.{ProgramTree}
use Rattle.node_program.specs.GlobalRounds.{channels_of}
use Rattle.node_lang.specs.Grammar.{Reads}
use Rattle.node_lang.specs.Faults.{FaultsAt}
use Rattle.node_lang.specs.Laws.{ReadTextsAreReadable, ReadingStopsAtFirstFault, ReadableTextsHaveNoFault}
use Rattle.node_lang.specs.declared.fault.FaultKind.{FaultKind}
use Rattle.win_index.specs.Ring.{IsRing}
use Rattle.border_exchange.specs.SegmentCounts.{IsSegmentCount}
use Rattle.channel_tables.specs.Tables.{ChannelTable}
use Rattle.channel_tables.specs.declared.separation.Separation.{Separation}
use Rattle.reports.specs.Findings.{Fault, of_text, of_program, of_ring, of_place, of_segments, of_table_text}
use Rattle.reports.specs.Findings.{of_formula, of_refutation, Finding, refused}
use Rattle.reports.specs.Findings as value
use Rattle.numerals.specs.declared.base.Base.{Base}
use Rattle.reports.specs.Laws.{TablesHaveChannels}
use Rattle.ring_problems.specs.declared.pattern.Pattern.{Pattern}
use Rattle.ring_problems.specs.declared.problem.Problem.{Problem as Posed}
use Rattle.ring_problems.specs.Demands.{patterns_of}
use Rattle.reports.specs.Report.{Finds, IsRefusedOr, told, answered, IsJudgement, good, bad, IsProblemJudgement, solved}
use Rattle.reports.specs.Report.{broken, IsAnswerOnRing, IsRunAnswer, IsExplainAnswer, IsTextRefusal, IsPrintReport}
use Rattle.reports.specs.Report.{text_fault, check_fault, IsProgramReport, IsTableReport, IsOnRingByTable}
use Rattle.table_formula.specs.Problems.{Problem}
use Rattle.table_formula.specs.Refutations.{IsRefutation, IsFault as IsFormulaFault}
use Rattle.table_formula.specs.declared.refutation.fault.RefuteError.{RefuteError}
use Rattle.table_formula.specs.declared.refutation.fault.RefuteError.TheVariants as refute
use Rattle.table_formula.specs.RefutationLaws.{EachTextHasAVerdict}
use Rattle.reports.specs.FormulaReports.{IsFormulaRefusal, IsNoRefutation}
use Rattle.reports.specs.ProblemFaults.{HasFormula, problem as numbered}
use Rattle.plan_print.proofs.Tasks.{AreFew, by_task}
use Rattle.report_laws.specs.Laws.{EachTaskHasAReport}
use Rattle.report_laws.proofs.FormulaAnswers.{FormulaAnswer, formula_answer}
use Rattle.report_laws.proofs.TextAnswers.{TextAnswer, text_answer}
use Rattle.report_laws.proofs.JudgeAnswers.{JudgeAnswer, apart, not_apart}
use Rattle.report_laws.proofs.ProblemAnswers.{ProblemAnswer, solves, breaks}
use Rattle.report_laws.proofs.TableAnswers.{TableAnswer, is_text, has_fault, table_answer}
use Rattle.report_laws.proofs.ProgramAnswers.{ProgramAnswer, program_answer, RingAnswer, ring_answer, segments_answer}

-- some finding is so
abbrev Some-finding : (Finding → Type 0) → Type 0
Some-finding is = (f : Finding) × is f

-- some fault is so
abbrev Some-fault : (Fault → Type 0) → Type 0
Some-fault is = (fault : Fault) × is fault

the : (value : Finding) → Some-finding (Finds value)
the value = (value, refl)

tell : (refusal : Fault → Type 0) (answer : Finding → Type 0) → Some-fault refusal
    → Some-finding (IsRefusedOr refusal answer)
tell refusal answer why = (refused why.0, told why.0 why.1 refl)

answer : (refusal : Fault → Type 0) (is : Finding → Type 0) → Some-finding is → Some-finding (IsRefusedOr refusal is)
answer refusal is some = (some.0, answered some.1)

module _ (readable : ReadTextsAreReadable) (stops : ReadingStopsAtFirstFault) (no_fault : ReadableTextsHaveNoFault)
    (judged : (t : ChannelTable) (s : Separation) → JudgeAnswer t s)
    (tried : (t : ChannelTable) (problem : List Pattern) → ProblemAnswer t problem) (channels : TablesHaveChannels)
    (verdict : EachTextHasAVerdict) where
  text_refusal : (input : List ℕ) → ((k : FaultKind) × (offset : ℕ) × FaultsAt input k offset)
      → Some-fault (IsTextRefusal input)
  text_refusal input met = (
    of_text met.0 met.1,
    record { kind = met.0; offset = met.1; none = λ p reads. no_fault input p met.0 met.1 reads met.2; first = met.2; is = refl },
  )

  on_print : (input : List ℕ) → Some-finding (IsPrintReport input)
  on_print input = go (text_answer readable stops input)
    where
      go : TextAnswer input → Some-finding (IsPrintReport input)
      go (inl read) = answer _ _ (value.program read.0, (read.0, read.1, refl))
      go (inr met) = tell _ _ (text_refusal input met)

  on_program : (m : ℕ) (is : ProgramTree → Finding → Type 0)
      → ((p : ProgramTree) → AreFew (length p.steps) m → Some-finding (is p)) → (input : List ℕ)
      → Some-finding (IsProgramReport m is input)
  on_program m is each input = go (text_answer readable stops input)
    where
      of_program' : (p : ProgramTree) → Reads input p → ProgramAnswer m p → Some-finding (IsProgramReport m is input)
      of_program' p reads (inl accepted) =
          let some = each p (reads.limits.rounds, accepted.shape.ids.few) in answer _ _
          (some.0, (p, reads, accepted, some.1))
      of_program' p reads (inr met) = tell _ _ (of_program p m met.0, check_fault p met.0 reads met.1 refl)

      go : TextAnswer input → Some-finding (IsProgramReport m is input)
      go (inl read) = of_program' read.0 read.1 (program_answer m read.0)
      go (inr met) = let why = text_refusal input met in tell _ _ (why.0, text_fault why.1)

  on_list : (m t : ℕ) (x : List ℕ) (is : Finding → Type 0) → (IsRing m t x → Some-finding is)
      → Some-finding (IsAnswerOnRing m t x is)
  on_list m t x is each = go (ring_answer m t x)
    where
      go : RingAnswer m t x → Some-finding (IsAnswerOnRing m t x is)
      go (inl ring) = let some = each ring in answer _ _ (some.0, (ring, some.1))
      go (inr met) = tell _ _ (of_ring m t x met.0, record { what = met.0; first = met.1; is = refl })

  on_run : (p : ProgramTree) (x : List ℕ) (segments : ℕ)
      → IsSegmentCount segments (length x) ⊎ (¬ IsSegmentCount segments (length x))
      → Some-finding (IsRunAnswer p x segments)
  on_run p x segments (inl within) = answer _ _ (value.channels (channels_of p x), (within, refl))
  on_run p x segments (inr out) = tell _ _ (of_segments segments (length x), (out, refl))

  on_place : (b : Base) (p : ProgramTree) (x : List ℕ) (place : ℕ) → (place < length x) ⊎ (length x ≤ place)
      → Some-finding (IsExplainAnswer b p x place)
  on_place b p x place (inl within) = answer _ _ (value.tree b p x place, (within, refl))
  on_place b p x place (inr beyond) = tell _ _ (of_place place (length x), (beyond, refl))

  on_judgement : (t : ChannelTable) (s : Separation) → Some-finding (IsJudgement t s)
  on_judgement t s = go (judged t s)
    where
      go : JudgeAnswer t s → Some-finding (IsJudgement t s)
      go (apart is) = (_, good is refl)
      go (not_apart ring places channels is) = (value.no s ring places channels, bad ring places channels is refl)

  on_problem : (t : ChannelTable) (problem : Posed) → Some-finding (IsProblemJudgement t problem)
  on_problem t problem = go (tried t (patterns_of problem))
    where
      go : ProblemAnswer t (patterns_of problem) → Some-finding (IsProblemJudgement t problem)
      go (solves is) = (_, solved is refl)
      go (breaks ring place channels pattern is) = (_, broken ring place channels pattern is refl)

  on_table : (is : ChannelTable → Separation → Finding → Type 0)
      → ((t : ChannelTable) (s : Separation) → AreFew t.rounds t.ids → Some-finding (is t s)) → (input : List ℕ)
      → Some-finding (IsTableReport is input)
  on_table is each input = go (table_answer input)
    where
      go : TableAnswer input → Some-finding (IsTableReport is input)
      go (is_text t s text) =
          let begun = text.1.table.begun in
          let some = each t s (begun.few_rounds, begun.shape.ids.few) in answer _ _ (some.0, (t, s, text, some.1))
      go (has_fault f known first) =
          tell _ _ (of_table_text f, record { what = f; known = known; first = first; is = refl })

  by_table : (t : ChannelTable) (x : List ℕ) → IsRing t.ids t.rounds x → Some-finding (IsOnRingByTable t x)
  by_table t x is =
      let met = channels t x is in
      let list = map met.0 (range_with_len 0 (length x)) in
      (value.places x list, record { channels = list; are = record { channel = met.0; has = met.1; are = refl }; is = refl })

  on_formula : (p : Problem) (is : Finding → Type 0) → Some-finding is
      → Some-finding (IsRefusedOr (IsFormulaRefusal p) (λ f. HasFormula p × is f))
  on_formula p is some = go (formula_answer p)
    where
      go : FormulaAnswer p → Some-finding (IsRefusedOr (IsFormulaRefusal p) (λ f. HasFormula p × is f))
      go (inl has) = answer _ _ (some.0, (has, some.1))
      go (inr met) = tell _ _ (of_formula p.ids p.rounds met.0, record { what = met.0; first = met.1; is = refl })

  on_refutation : (p : Problem) (input : List ℕ)
      → IsRefutation p input ⊎ ((f : RefuteError) × (f ≢ refute.OutOfMemory) × IsFormulaFault p input f)
      → Some-finding (IsRefusedOr (IsNoRefutation p input) (λ f. IsRefutation p input × (Finds (value.refuted p) f)))
  on_refutation p input (inl is) = answer _ _ (value.refuted p, (is, refl))
  on_refutation p input (inr met) =
      tell _ _ (of_refutation met.0, record { what = met.0; known = met.1; first = met.2; is = refl })

  pub each_task_has_a_report : EachTaskHasAReport
  each_task_has_a_report task input =
      by_task (λ task. ⊤) input Some-finding
      (λ value of. the value)
      (λ t s few. on_judgement t s)
      on_problem
      (λ p x segments. on_run p x segments (segments_answer segments (length x)))
      (λ b p x place. on_place b p x place (cases_lt place (length x)))
      by_table
      (λ m t x is few. on_list m t x is)
      (λ m is each. on_program m is each input)
      (λ is each. on_table is each input)
      (on_print input)
      (λ m t channels demand known. on_formula (numbered m t channels demand) _ (the _))
      (λ m t channels demand known. let p = numbered m t channels demand in on_formula p _ (on_refutation p input (verdict p input)))
      task tt
