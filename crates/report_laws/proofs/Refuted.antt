-- What a refuted formula and the lower bound say of tables and programs.
use Rattle.std.proofs.Common.{◌≡◌, ◌⊎◌, ℕ, ◌+◌, ◌*◌, ◌≤◌, List, [], refl, inl, inr, arith}
use Rattle.std.proofs.lemmas.Option.{none-some}
use Rattle.node_program.specs.Term.{ProgramTree}
use Rattle.win_index.specs.Laws.{NumberOfWindow, WindowOfNumber, WindowsHaveNumbers, RingsHaveWindows, CountOfWindows}
use Rattle.win_index.specs.Laws.{LengthOfArcs, ItemsOfArcs}
use Rattle.win_index.specs.ShapeRange.{IsShape}
use Rattle.channel_tables.specs.Tables.{ChannelTable}
use Rattle.channel_tables.specs.declared.separation.Separation.{Separation}
use Rattle.lang_check.specs.Laws.{AcceptedProgramsHaveNoRefusal}
use Rattle.channel_tables.specs.Apart.{extra, IsApartEverywhere}
use Rattle.channel_tables.specs.Laws.{ApartTablesHaveNoWitness, LessIsApart}
use Rattle.node_lang.specs.Laws.{OneReading}
use Rattle.lower_bound.specs.Laws.{TablesNeedChannels, TablesNeedThree}
use Rattle.table_fill.specs.Laws.{ProgramTablesAreTables}
use Rattle.table_fill.specs.ProgramTables.{table_of}
use Rattle.headline.specs.Laws.{ProgramTablesAreApart, ProgramTablesSolve}
use Rattle.table_formula.specs.Problems.{Problem, IsImpossible}
use Rattle.table_formula.specs.RefutationLaws.{RefutationsAreSound}
use Rattle.reports.specs.FormulaReports.{IsRefuteReport}
use Rattle.reports.specs.Findings.{Finding, status_of}
use Rattle.reports.specs.declared.status.Status.TheVariants.{Done}
use Rattle.ring_problems.specs.declared.problem.Demand.TheVariants.{Apart, Solve}
use Rattle.ring_problems.specs.Demands.{patterns_of}
use Rattle.ring_problems.specs.Laws.{SolvedTablesHaveNoWitness}
use Rattle.ring_problems.specs.Problems.{IsSolvedEverywhere}
use Rattle.headline.specs.Headline.{ChannelsSolve}
use Rattle.reports.specs.ProblemFaults.{problem as numbered}
use Rattle.report_laws.specs.Laws.{IsAcceptedText, NoTableIfRefuted, NoTableSolvesIfRefuted, NoProgramIfRefuted}
use Rattle.report_laws.specs.Laws.{NoProgramSolvesIfRefuted, ProgramsNeedChannels, ProgramsNeedThree}
use Rattle.report_laws.specs.Laws.{Fails, FailsOnARing}
use Rattle.report_laws.proofs.JudgeAnswers.{JudgeAnswer, apart, not_apart}
use Rattle.report_laws.proofs.SeenTables.{seen_table, seen_is_table, seen_is_apart, seen_is_free, seen_solves}
use Rattle.report_laws.proofs.ReadBack.{done_answer}
use Rattle.report_laws.proofs.ToldRounds.{judge_solves, judge_tells}

-- a report with the status of a refuted formula is on a refutation of it, and the formula's numbers are a shape
impossible : RefutationsAreSound → (p : Problem) (input : List ℕ) (f : Finding) → IsRefuteReport p input f →
    status_of f ≡ Done → IsImpossible p × IsShape p.ids p.rounds
impossible sound p input f is done =
    let has = done_answer _ _ f done is in
    (sound p input (done_answer _ _ f done has.1).0, has.0.shape)

-- a table has no pattern of none
none_forbidden : (t : ChannelTable) → IsSolvedEverywhere t []
none_forbidden t ring place is within bad = none-some bad.1 bad.2

-- a table fails on a ring if its channels are not apart everywhere
fails : (table : ChannelTable) (s : Separation) → ¬ IsApartEverywhere table s → JudgeAnswer table s →
    FailsOnARing table s
fails table s not (apart is) = absurd (not is)
fails table s not (not_apart ring places channels is) = (ring, places, channels, is)

-- identifiers that are enough for more rounds are enough for fewer
enough_for_fewer : (few t ids a b : ℕ) → few ≤ t → (a ≡ b) ⊎ (2 * t + 3 ≤ ids) → (a ≡ b) ⊎ (2 * few + 3 ≤ ids)
enough_for_fewer few t ids a b fewer (inl same) = inl same
enough_for_fewer few t ids a b fewer (inr enough) = inr (omega (arith, enough))

pub no_table : RefutationsAreSound → LessIsApart → NumberOfWindow → WindowOfNumber → WindowsHaveNumbers
    → RingsHaveWindows → CountOfWindows → LengthOfArcs → ItemsOfArcs → NoTableIfRefuted
no_table sound less number item have rings count arcs items m t channels s own table is keeps more rounds few asks are =
    let known = impossible sound (numbered m t channels (Apart s)) is.input is.report is.is_report is.done in
    let enough = enough_for_fewer table.rounds t table.ids (extra s) (extra own) rounds asks.rings in
    known.0 (seen_table table m t) (record {
      table = seen_is_table count table m t keeps known.1;
      ids = refl;
      rounds = refl;
      channels = few;
      apart =
          seen_is_apart arcs items number item have rings table m t s more rounds
          (less table own s asks.near_more asks.far_more enough are);
      solved = none_forbidden (seen_table table m t);
    })

pub no_table_solves : RefutationsAreSound → NumberOfWindow → WindowOfNumber → WindowsHaveNumbers
    → RingsHaveWindows → CountOfWindows → LengthOfArcs → ItemsOfArcs → NoTableSolvesIfRefuted
no_table_solves sound number item have rings count arcs items m t channels problem table is keeps more rounds few solved =
    let known = impossible sound (numbered m t channels (Solve problem)) is.input is.report is.is_report is.done in
    known.0 (seen_table table m t) (record {
      table = seen_is_table count table m t keeps known.1;
      ids = refl;
      rounds = refl;
      channels = few;
      apart = seen_is_free arcs items number item have rings table m t more rounds;
      solved = seen_solves arcs items number item have rings table m t (patterns_of problem) more rounds solved;
    })

-- a program fails if the channels of its table are not apart everywhere
pub program_fails : OneReading → AcceptedProgramsHaveNoRefusal → ApartTablesHaveNoWitness → ProgramTablesAreApart
    → ((t : ChannelTable) (s : Separation) → JudgeAnswer t s)
    → (ids : ℕ) (s : Separation) (text : List ℕ) (p : ProgramTree)
    → IsAcceptedText text ids p → ¬ IsApartEverywhere (table_of p ids) s → Fails ids s text p
program_fails one_reading no_refusal no_witness apart_tables judged ids s text p accepted none =
    record {
      rounds = λ are. none ((apart_tables p ids s).1 are);
      ring = fails (table_of p ids) s none (judged (table_of p ids) s);
      judged =
          λ workers r report. (judge_tells one_reading no_refusal no_witness apart_tables ids workers s.near s.far
          text p r accepted report).1.1
          (λ are. none ((apart_tables p ids s).1 are));
    }

pub no_program : NoTableIfRefuted → OneReading → AcceptedProgramsHaveNoRefusal → ApartTablesHaveNoWitness
    → ProgramTablesAreTables → ProgramTablesAreApart
    → ((t : ChannelTable) (s : Separation) → JudgeAnswer t s) → NoProgramIfRefuted
unfolding table_of
no_program refuted_has_none one_reading no_refusal no_witness tables apart_tables judged m t channels ids s own text p is accepted
    more rounds few asks =
    program_fails one_reading no_refusal no_witness apart_tables judged ids own text p accepted
    (refuted_has_none m t channels s own (table_of p ids) is (tables p ids accepted.0.limits accepted.1) more
    rounds few asks)

pub no_program_solves : NoTableSolvesIfRefuted → OneReading → AcceptedProgramsHaveNoRefusal → SolvedTablesHaveNoWitness
    → ProgramTablesAreTables → ProgramTablesSolve → NoProgramSolvesIfRefuted
unfolding table_of
no_program_solves refuted_has_none one_reading no_refusal no_witness tables solving m t channels ids workers problem text p is accepted more
    rounds few =
    let not : ¬ ChannelsSolve p ids (patterns_of problem) =
    λ are. refuted_has_none m t channels problem (table_of p ids) is (tables p ids accepted.0.limits accepted.1) more rounds few
    ((solving p ids (patterns_of problem)).1 are) in
    (not, λ r report. (judge_solves one_reading no_refusal no_witness solving ids workers problem text p r accepted report).1.1 not)

pub programs_need : TablesNeedChannels → OneReading → AcceptedProgramsHaveNoRefusal → ApartTablesHaveNoWitness
    → ProgramTablesAreTables → ProgramTablesAreApart
    → ((t : ChannelTable) (s : Separation) → JudgeAnswer t s) → ProgramsNeedChannels
unfolding table_of
programs_need need one_reading no_refusal no_witness tables apart_tables judged ids s text p accepted near far more =
    program_fails one_reading no_refusal no_witness apart_tables judged ids s text p accepted
    (λ are.
    let table = tables p ids accepted.0.limits accepted.1 in
    let most = need (table_of p ids) s (record { size = table.size; below = table.begun.below }) near far are in
    omega (arith, most, more))

pub programs_need_three : TablesNeedThree → OneReading → AcceptedProgramsHaveNoRefusal → ApartTablesHaveNoWitness
    → ProgramTablesAreTables → ProgramTablesAreApart
    → ((t : ChannelTable) (s : Separation) → JudgeAnswer t s) → ProgramsNeedThree
unfolding table_of
programs_need_three need one_reading no_refusal no_witness tables apart_tables judged ids s text p accepted near long few =
    program_fails one_reading no_refusal no_witness apart_tables judged ids s text p accepted
    (λ are.
    let table = tables p ids accepted.0.limits accepted.1 in
    let most = need (table_of p ids) s (record { size = table.size; below = table.begun.below }) near long are in
    omega (arith, most, few))
