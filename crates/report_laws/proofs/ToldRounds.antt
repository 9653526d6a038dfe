-- Reports and global rounds, and the report of a print.
use Rattle.std.proofs.Common.{◌≡◌, ℕ, ◌-◌, ◌<◌, ◌≤◌, List, [], ◌∷◌, ◌++◌, codes, replicate, ap, ap₂, append_assoc}
use Rattle.std.proofs.Common.{arith, refl, subst, sym, ◌∙◌}
use Rattle.std.specs.Prelude.{◌==◌, ◌↔◌, false, if◌then◌else◌, length}
use Rattle.std.specs.List.{flat_map, range_with_len}
use Rattle.std.specs.Fmt.{decimal, digits}
use Rattle.std.proofs.lemmas.List.FromFn.{length-map-range_with_len}
use Rattle.node_program.specs.Term.{ProgramTree}
use Rattle.node_program.specs.GlobalRounds.{channel_at, channels_of}
use Rattle.node_lang.specs.Grammar.{Reads}
use Rattle.node_lang.specs.Laws.{OneReading, PrintedIsRead}
use Rattle.win_index.specs.Laws.{RingsHaveNoFault}
use Rattle.win_index.specs.Ring.{IsRing}
use Rattle.lang_check.specs.Laws.{AcceptedProgramsHaveNoRefusal}
use Rattle.table_fill.specs.Laws.{TableHasTheChannelsOfRounds}
use Rattle.table_fill.specs.ProgramTables.{table_of}
use Rattle.channel_tables.specs.declared.separation.Separation.{Separation}
use Rattle.channel_tables.specs.Laws.{ApartTablesHaveNoWitness}
use Rattle.headline.specs.Headline.{ChannelsAreApart, ChannelsSolve}
use Rattle.ring_problems.specs.declared.problem.Problem.{Problem}
use Rattle.ring_problems.specs.Demands.{patterns_of}
use Rattle.ring_problems.specs.Laws.{SolvedTablesHaveNoWitness}
use Rattle.headline.specs.Laws.{ProgramTablesAreApart, ProgramTablesSolve}
use Rattle.border_exchange.specs.SegmentCounts.{IsSegmentCount}
use Rattle.reports.specs.declared.status.Status.TheVariants.{Done, No}
use Rattle.reports.specs.Lines.{line, numbers_text}
use Rattle.numerals.specs.Numerals.{after_blanks, form_of, padded, radix, row, widest}
use Rattle.numerals.specs.declared.base.Base.{Base}
use Rattle.value_trees.specs.Laws.{ShowsTrace, ExplanationsShowTraces}
use Rattle.value_trees.specs.Trace.{register_lines, round_lines, row_line, trace_lines}
use Rattle.reports.specs.Bytes.{bytes_of}
use Rattle.reports.specs.Findings.{Fault, Finding, status_of}
use Rattle.reports.specs.Findings as value
use Rattle.reports.specs.Report.{IsRefusedOr, told, answered, IsJudgement, good, bad, IsProblemJudgement, solved}
use Rattle.reports.specs.Report.{broken, IsAnswerOnRing, IsRunAnswer, IsExplainAnswer, IsProgramReport}
use Rattle.report_laws.specs.Laws.{IsAcceptedText, JudgeTellsRounds, JudgeTellsSolutions, RunTellsRounds}
use Rattle.report_laws.specs.Laws.{TraceTellsRounds, TraceEndsWithRun, ExplainTellsRounds, ExplainShowsTrace}
use Rattle.report_laws.specs.Laws.{PlanTellsRounds, TableTellsRounds, PrintsAreReadBack}
use Rattle.report_laws.specs.Laws.{SameForWorkers, SameForSegments}
use Rattle.report_laws.proofs.OneReport.{accepted_or_refused}

-- what is found is the answer if there is no refusal
pub answered_by : (refusal : Fault → Type 0) (answer : Finding → Type 0) (f : Finding)
    → ((fault : Fault) → refusal fault → ⊥)
    → IsRefusedOr refusal answer f → answer f
answered_by refusal answer f none (told fault is same) = absurd (none fault is)
answered_by refusal answer f none (answered said) = said

-- what is found on an accepted program is that of the task on the program
answer_on : OneReading → AcceptedProgramsHaveNoRefusal
    → (m : ℕ) (answer : ProgramTree → Finding → Type 0) (input : List ℕ) (p : ProgramTree) (f : Finding)
    → IsAcceptedText input m p → IsProgramReport m answer input f → answer p f
answer_on one_reading no_refusal m answer input p f text is =
    let said = answered_by _ _ f
    (λ fault. accepted_or_refused one_reading no_refusal m input fault p text.0 text.1) is in
    subst (λ h. answer h f) (one_reading input said.0 p said.1 text.0) said.3

-- a judgement on a table decides whether the channels of global rounds are apart
judgement_tells : ApartTablesHaveNoWitness → ProgramTablesAreApart
    → (p : ProgramTree) (m : ℕ) (s : Separation) (f : Finding) → IsJudgement (table_of p m) s f
    → ((status_of f ≡ Done) ↔ ChannelsAreApart p m s) × ((status_of f ≡ No) ↔ (¬ ChannelsAreApart p m s))
judgement_tells no_witness tables p m s f (good apart is) =
    let rounds = (tables p m s).0 apart in (
      (λ done. rounds, λ are. ap status_of is),
      (λ no. absurd (let both : Done ≡ No = sym (ap status_of is) ∙ no in cc), λ not. absurd (not rounds)),
    )
judgement_tells no_witness tables p m s f (bad ring places channels witness is) =
    let not : ¬ ChannelsAreApart p m s =
    λ are. no_witness (table_of p m) s ring places channels ((tables p m s).1 are) witness in (
      (λ done. absurd (let both : No ≡ Done = sym (ap status_of is) ∙ done in cc), λ are. absurd (not are)),
      (λ no. not, λ n. ap status_of is),
    )

pub judge_tells : OneReading → AcceptedProgramsHaveNoRefusal → ApartTablesHaveNoWitness →
    ProgramTablesAreApart → JudgeTellsRounds
judge_tells one_reading no_refusal no_witness tables m workers near far input p f text is =
    judgement_tells no_witness tables p m (record { near = near; far = far }) f
    (answer_on one_reading no_refusal m _ input p f text is)

-- a judgement on a problem decides whether the channels of global rounds solve it
solution_tells : SolvedTablesHaveNoWitness → ProgramTablesSolve
    → (p : ProgramTree) (m : ℕ) (problem : Problem) (f : Finding) → IsProblemJudgement (table_of p m) problem f
    → ((status_of f ≡ Done) ↔ ChannelsSolve p m (patterns_of problem))
    × ((status_of f ≡ No) ↔ (¬ ChannelsSolve p m (patterns_of problem)))
solution_tells no_witness tables p m problem f (solved everywhere is) =
    let rounds = (tables p m (patterns_of problem)).0 everywhere in (
      (λ done. rounds, λ are. ap status_of is),
      (λ no. absurd (let both : Done ≡ No = sym (ap status_of is) ∙ no in cc), λ not. absurd (not rounds)),
    )
solution_tells no_witness tables p m problem f (broken ring place channels pattern witness is) =
    let not : ¬ ChannelsSolve p m (patterns_of problem) =
    λ are. no_witness (table_of p m) (patterns_of problem) ring place channels pattern
    ((tables p m (patterns_of problem)).1 are) witness in (
      (λ done. absurd (let both : No ≡ Done = sym (ap status_of is) ∙ done in cc), λ are. absurd (not are)),
      (λ no. not, λ n. ap status_of is),
    )

pub judge_solves : OneReading → AcceptedProgramsHaveNoRefusal → SolvedTablesHaveNoWitness → ProgramTablesSolve
    → JudgeTellsSolutions
judge_solves one_reading no_refusal no_witness tables m workers problem input p f text is =
    solution_tells no_witness tables p m problem f (answer_on one_reading no_refusal m _ input p f text is)

-- what is found on a ring
pub on_this_ring : RingsHaveNoFault → (m t : ℕ) (places : List ℕ) (found : Finding → Type 0) (f : Finding) →
    IsRing m t places → IsAnswerOnRing m t places found f → found f
on_this_ring no_fault m t places found f ring is =
    (answered_by _ _ f (λ fault none. no_fault m t places none.what ring none.first) is).1

run_in_range : (p : ProgramTree) (places : List ℕ) (segments : ℕ) (f : Finding)
    → IsSegmentCount segments (length places) → IsRunAnswer p places segments f
    → f ≡ value.channels (channels_of p places)
run_in_range p places segments f within is = (answered_by _ _ f (λ fault none. none.0 within) is).1

pub run_tells : OneReading → AcceptedProgramsHaveNoRefusal → RingsHaveNoFault → RunTellsRounds
run_tells one_reading no_refusal no_fault m segments ring input p f text is_ring within is =
    run_in_range p ring.items segments f within
    (on_this_ring no_fault m (length p.steps) ring.items _ f is_ring
    (answer_on one_reading no_refusal m _ input p f text is))

pub trace_tells : OneReading → AcceptedProgramsHaveNoRefusal → RingsHaveNoFault → TraceTellsRounds
trace_tells one_reading no_refusal no_fault m ring base input p f text is_ring is =
    on_this_ring no_fault m (length p.steps) ring.items _ f is_ring
    (answer_on one_reading no_refusal m _ input p f text is)

beyond : (n place : ℕ) → n ≤ place → place < n → ⊥
beyond n place past within = omega arith

pub explain_tells : OneReading → AcceptedProgramsHaveNoRefusal → RingsHaveNoFault → ExplainTellsRounds
explain_tells one_reading no_refusal no_fault m place ring base input p f text is_ring within is =
    (answered_by _ _ f (λ fault none. beyond (length ring.items) place none.0 within)
    (on_this_ring no_fault m (length p.steps) ring.items (IsExplainAnswer base p ring.items place) f is_ring
    (answer_on one_reading no_refusal m _ input p f text is))).1

pub explain_shows : ExplanationsShowTraces → OneReading → AcceptedProgramsHaveNoRefusal →
    RingsHaveNoFault → ExplainShowsTrace
explain_shows shown one_reading no_refusal no_fault m place ring base input p f text is_ring within is =
    let same = explain_tells one_reading no_refusal no_fault m place ring base input p f text is_ring within is in
    subst (λ (g : Finding). ShowsTrace base p ring.items place (bytes_of g)) (sym same)
    (shown base p ring.items place within)

-- a number in base ten has no leading zeros
plain : (b : Base) (ns : List ℕ) (n : ℕ) → radix b ≡ 10 → codes " " ++ padded (form_of b ns) n ≡ 32 ∷ decimal n
plain b ns n ten =
    let none : 0 - length (decimal n) ≡ 0 = omega arith in
    ap (λ r. 32 ∷ (replicate ((if r == 10 then 0 else widest b ns) - length (digits r false n)) 48 ++ digits r false n)) ten
    ∙ ap (λ k. 32 ∷ (replicate k 48 ++ decimal n)) none

all_plain : (b : Base) (ms ns : List ℕ) → radix b ≡ 10
    → after_blanks (form_of b ms) ns ≡ flat_map (λ n. 32 ∷ decimal n) ns
all_plain b ms [] ten = refl
all_plain b ms (n ∷ ns) ten = ap₂ (λ a b. a ++ b) (plain b ms n ten) (all_plain b ms ns ten)

-- a row in base ten is a blank and the line of its numbers
row_is_line : (b : Base) (ns : List ℕ) → radix b ≡ 10 → 0 < length ns
    → row b ns ≡ codes " " ++ line (numbers_text ns ∷ [])
row_is_line b [] ten some = absurd (omega arith)
row_is_line b (n ∷ ns) ten some =
    ap (λ l. l ++ codes "\n") (all_plain b (n ∷ ns) (n ∷ ns) ten)

some_channels : (p : ProgramTree) (x : List ℕ) → 0 < length x → 0 < length (channels_of p x)
some_channels p x some = omega (arith, length-map-range_with_len (channel_at p x) 0 (length x))

-- a trace is some lines followed by the line of its channels
ends : (b : Base) (p : ProgramTree) (x : List ℕ) → radix b ≡ 10 → 0 < length x
    → trace_lines b p x
    ≡ (row_line b (codes "ring") x
    ++ (register_lines b p x 0 ++ flat_map (round_lines b p x) (range_with_len 0 (length p.steps))))
    ++ (codes "finish " ++ line (numbers_text (channels_of p x) ∷ []))
ends b p x ten some =
    let ring : List ℕ = row_line b (codes "ring") x in
    let start : List ℕ = register_lines b p x 0 in
    let rounds : List ℕ = flat_map (round_lines b p x) (range_with_len 0 (length p.steps)) in
    let last : List ℕ = row_line b (codes "finish") (channels_of p x) in
    ap (λ l. ring ++ l) (sym (append_assoc start rounds last)) ∙ sym (append_assoc ring (start ++ rounds) last)
    ∙ ap (λ l. (ring ++ (start ++ rounds)) ++ (codes "finish" ++ l))
    (row_is_line b (channels_of p x) ten (some_channels p x some))

pub trace_ends : OneReading → AcceptedProgramsHaveNoRefusal → RingsHaveNoFault → TraceEndsWithRun
trace_ends one_reading no_refusal no_fault m segments ring base input p f g text ten is_ring within trace run =
    let x = ring.items in
    let lines = trace_tells one_reading no_refusal no_fault m ring base input p f text is_ring trace in
    let channels = run_tells one_reading no_refusal no_fault m segments ring input p g text is_ring within run in
    let some : 0 < length x = omega (arith, is_ring.long) in
    let front = row_line base (codes "ring") x
    ++ (register_lines base p x 0 ++ flat_map (round_lines base p x) (range_with_len 0 (length p.steps))) in (
      front,
      ap bytes_of lines ∙ ends base p x ten some
          ∙ ap (λ l. front ++ (codes "finish " ++ l)) (sym (ap bytes_of channels)),
    )

pub print_tells : OneReading → PrintedIsRead → PrintsAreReadBack
print_tells one_reading read input p f reads is =
    let said = answered_by _ _ f (λ fault none. none.none p reads) is in
    let same : f ≡ value.program p = said.2 ∙ ap value.program (one_reading input said.0 p said.1 reads) in
    let again : Reads (bytes_of f) p = subst (λ (g : Finding). Reads (bytes_of g) p) (sym same) (read p reads.limits) in
    (ap status_of same, again, answered (p, again, same))

pub plan_tells : OneReading → AcceptedProgramsHaveNoRefusal → RingsHaveNoFault → PlanTellsRounds
plan_tells one_reading no_refusal no_fault m workers ring input p f text is_ring is =
    on_this_ring no_fault m (length p.steps) ring.items _ f is_ring
    (answer_on one_reading no_refusal m _ input p f text is)

pub table_tells : OneReading → AcceptedProgramsHaveNoRefusal → TableHasTheChannelsOfRounds → TableTellsRounds
table_tells one_reading no_refusal has m workers near far input p f text is =
    (answer_on one_reading no_refusal m _ input p f text is, has p m)

pub same_for_workers : SameForWorkers
same_for_workers m v w near far demand ring input f = (λ is. is, λ is. is, λ is. is)

pub same_for_segments : SameForSegments
same_for_segments m g h ring input f within within' (told fault refusal same) = told fault refusal same
same_for_segments m g h ring input f within within' (answered said) = answered (said.0, said.1, said.2, other said.3)
  where
    other : IsAnswerOnRing m (length said.0.steps) ring.items (IsRunAnswer said.0 ring.items g) f
        → IsAnswerOnRing m (length said.0.steps) ring.items (IsRunAnswer said.0 ring.items h) f
    other (told fault none same) = told fault none same
    other (answered on) = answered (on.0, answered (within', run_in_range said.0 ring.items g f within on.1))
