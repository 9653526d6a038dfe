-- The laws: a task has one report on an input, reports agree with global rounds, and prints and table texts are read
-- back. A report is what the task finds, whose bytes are those of `bytes_of`.
use Rattle.std.specs.Prelude.{◌≡◌, ◌≢◌, ◌↔◌, ◌⊎◌, ℕ, ◌+◌, ◌*◌, ◌%◌, ◌<◌, ◌≤◌, List, ◌++◌, Vec, Some, None, ⊤, length}
use Rattle.std.specs.Prelude.{map, codes}
use Rattle.std.specs.Int.{abs_diff}
use Rattle.std.specs.List.{range_with_len}
use Rattle.std.specs.declared.alloc.Global.{Global}
use Rattle.node_program.specs.Term.{ProgramTree}
use Rattle.node_lang.specs.Grammar.{Reads}
use Rattle.node_program.specs.GlobalRounds.{right_of, channel_at, channels_of}
use Rattle.win_index.specs.Ring.{IsRing}
use Rattle.win_index.specs.Arcs.{window_around}
use Rattle.lang_check.specs.Acceptance.{IsAccepted}
use Rattle.table_text.specs.LineForms.{IsSeparation}
use Rattle.task_words.specs.Counts.{IsNear, IsFar}
use Rattle.channel_tables.specs.Tables.{IsTable, ChannelTable, channel_of}
use Rattle.channel_tables.specs.declared.separation.Separation.{Separation}
use Rattle.channel_tables.specs.Apart.{extra, IsApartEverywhere}
use Rattle.channel_tables.specs.Witnesses.{IsWitness}
use Rattle.lower_bound.specs.Towers.{tower, spread}
use Rattle.table_fill.specs.ProgramTables.{table_of}
use Rattle.numerals.specs.declared.base.Base.{Base}
use Rattle.numerals.specs.Numerals.{radix}
use Rattle.value_trees.specs.Laws.{ShowsTrace}
use Rattle.border_exchange.specs.SegmentCounts.{IsSegmentCount}
use Rattle.ring_problems.specs.declared.problem.Demand.{Demand}
use Rattle.ring_problems.specs.declared.problem.Demand.TheVariants.{Apart, Solve}
use Rattle.ring_problems.specs.declared.problem.Problem.{Problem}
use Rattle.ring_problems.specs.Demands.{patterns_of}
use Rattle.ring_problems.specs.Known.{independent_set, matching}
use Rattle.ring_problems.specs.Problems.{IsSolvedEverywhere}
use Rattle.headline.specs.Headline.{ChannelsAreApart, ChannelsSolve}
use Rattle.table_text.specs.TableText.{table_text}
use Rattle.table_text.specs.Texts.{IsTextOf}
use Rattle.task_words.specs.declared.task.Task.{Task}
use Rattle.task_words.specs.declared.task.Task.TheVariants.{Print, Table, Judge, Run, Trace, Explain, Plan, Audit}
use Rattle.task_words.specs.declared.task.Task.TheVariants.{Apply, Migrate, Refute}
use Rattle.reports.specs.declared.status.Status.TheVariants.{Done, No}
use Rattle.table_formula.specs.declared.refutation.fault.RefuteError.TheVariants as refute
use Rattle.table_formula.specs.RefutationNotes.{MayHaveAdvice}
use Rattle.reports.specs.Bytes.{bytes_of}
use Rattle.reports.specs.Findings.{Fault, of_ring, of_place, of_segments, of_refutation, Finding, refused, status_of}
use Rattle.reports.specs.Findings as value
use Rattle.plan_print.specs.Notes.{IsNote, Told, on_fault, told_on}
use Rattle.plan_print.specs.TaskReport.{IsReport}

-- two reports of a task on an input are equal
abbrev pub OneReport : Type 0
OneReport = (task : Task) (input : List ℕ) (r s : Finding) → IsReport task input r → IsReport task input s → r ≡ s

-- the task has a report on the input
abbrev pub HasReport : Task → List ℕ → Type 0
HasReport task input = (r : Finding) × IsReport task input r

-- each task has a report on each input
abbrev pub EachTaskHasAReport : Type 0
EachTaskHasAReport = (task : Task) (input : List ℕ) → HasReport task input

-- the text reads as the program, which is accepted for m identifiers
abbrev pub IsAcceptedText : List ℕ → ℕ → ProgramTree → Type 0
IsAcceptedText input m p = Reads input p × IsAccepted m p

-- the report of a judge on an accepted program has the status of a yes exactly if on every ring the channels of global
-- rounds are as far apart as requested, and that of a no exactly if they are not
abbrev pub JudgeTellsRounds : Type 0
JudgeTellsRounds =
    (m workers near far : ℕ) (input : List ℕ) (p : ProgramTree) (r : Finding) → IsAcceptedText input m p →
    IsReport (Judge m workers (Apart (record { near = near; far = far }))) input r
    → ((status_of r ≡ Done) ↔ ChannelsAreApart p m (record { near = near; far = far }))
    × ((status_of r ≡ No) ↔ (¬ ChannelsAreApart p m (record { near = near; far = far })))

-- on a problem it has the status of a yes exactly if no ring has channels of global rounds that a pattern matches,
-- and that of a no exactly if one has
abbrev pub JudgeTellsSolutions : Type 0
JudgeTellsSolutions =
    (m workers : ℕ) (problem : Problem) (input : List ℕ) (p : ProgramTree) (r : Finding) → IsAcceptedText input m p →
    IsReport (Judge m workers (Solve problem)) input r
    → ((status_of r ≡ Done) ↔ ChannelsSolve p m (patterns_of problem))
    × ((status_of r ≡ No) ↔ (¬ ChannelsSolve p m (patterns_of problem)))

-- the report of a run on a ring, in a number of segments in its range, is the channels of global rounds
abbrev pub RunTellsRounds : Type 0
RunTellsRounds =
    (m segments : ℕ) (ring : Vec ℕ Global) (input : List ℕ) (p : ProgramTree) (r : Finding) → IsAcceptedText input m p
    → IsRing m (length p.steps) ring.items → IsSegmentCount segments (length ring.items) →
    IsReport (Run m ring segments) input r
    → r ≡ value.channels (channels_of p ring.items)

-- the report of a trace on a ring is the trace of the identifiers, the registers and the messages of its places in
-- global rounds
abbrev pub TraceTellsRounds : Type 0
TraceTellsRounds =
    (m : ℕ) (ring : Vec ℕ Global) (base : Base) (input : List ℕ) (p : ProgramTree) (r : Finding) →
    IsAcceptedText input m p
    → IsRing m (length p.steps) ring.items → IsReport (Trace m ring base) input r →
    r ≡ value.trace base p ring.items

-- the report of an explanation on a ring is how the place computes in global rounds
abbrev pub ExplainTellsRounds : Type 0
ExplainTellsRounds =
    (m place : ℕ) (ring : Vec ℕ Global) (base : Base) (input : List ℕ) (p : ProgramTree) (r : Finding) →
    IsAcceptedText input m p
    → IsRing m (length p.steps) ring.items → place < length ring.items → IsReport (Explain m ring place base) input r
    → r ≡ value.tree base p ring.items place

-- so its bytes have below each heading a tree whose first line has the number that the line of a trace has at the
-- place, and below `finish` the one that a run has there
abbrev pub ExplainShowsTrace : Type 0
ExplainShowsTrace =
    (m place : ℕ) (ring : Vec ℕ Global) (base : Base) (input : List ℕ) (p : ProgramTree) (r : Finding) →
    IsAcceptedText input m p
    → IsRing m (length p.steps) ring.items → place < length ring.items → IsReport (Explain m ring place base) input r
    → ShowsTrace base p ring.items place (bytes_of r)

-- in base ten the last line of a trace is a word, followed by the bytes of the report of a run on the ring, in any
-- number of segments in its range
abbrev pub TraceEndsWithRun : Type 0
TraceEndsWithRun =
    (m segments : ℕ) (ring : Vec ℕ Global) (base : Base) (input : List ℕ) (p : ProgramTree) (r s : Finding) →
    IsAcceptedText input m p → radix base ≡ 10
    → IsRing m (length p.steps) ring.items → IsSegmentCount segments (length ring.items)
    → IsReport (Trace m ring base) input r → IsReport (Run m ring segments) input s
    → (lines : List ℕ) × (bytes_of r ≡ lines ++ (codes "finish " ++ bytes_of s))

-- the bytes of the report of a print on the text of a program are a text of the same program, with the same report
abbrev pub PrintsAreReadBack : Type 0
PrintsAreReadBack =
    (input : List ℕ) (p : ProgramTree) (r : Finding) → Reads input p → IsReport Print input r
    → (status_of r ≡ Done) × Reads (bytes_of r) p × IsReport Print (bytes_of r) r

-- the report of a plan on a ring has its places with the channels of global rounds
abbrev pub PlanTellsRounds : Type 0
PlanTellsRounds =
    (m workers : ℕ) (ring : Vec ℕ Global) (input : List ℕ) (p : ProgramTree) (r : Finding) → IsAcceptedText input m p
    → IsRing m (length p.steps) ring.items → IsReport (Plan m ring workers) input r →
    r ≡ value.places ring.items (channels_of p ring.items)

-- the report of a table is a table that has the channel of global rounds at the window of each place of every ring
abbrev pub TableTellsRounds : Type 0
TableTellsRounds =
    (m workers near far : ℕ) (input : List ℕ) (p : ProgramTree) (r : Finding) → IsAcceptedText input m p →
    IsReport (Table m workers near far) input r
    → (r ≡ value.table (table_of p m) (record { near = near; far = far }))
    × ((ring : List ℕ) (place : ℕ) → IsRing m (length p.steps) ring → place < length ring
    → channel_of (table_of p m) (window_around ring (length p.steps) place) ≡ Some (channel_at p ring place))

-- The reports on an accepted program agree with global rounds: the status of a judge of channels that are apart or
-- solve a problem, the channels of a run, a trace, which ends with those of a run, an explanation, which shows what
-- a trace and a run have, the channels of a plan, and a table.
pub record ReportsTellRounds : Type 0 where
  pub judge : JudgeTellsRounds
  pub solve : JudgeTellsSolutions
  pub run : RunTellsRounds
  pub trace : TraceTellsRounds
  pub finish : TraceEndsWithRun
  pub explain : ExplainTellsRounds
  pub shows : ExplainShowsTrace
  pub plan : PlanTellsRounds
  pub table : TableTellsRounds

-- a report is the same for every number of workers
abbrev pub SameForWorkers : Type 0
SameForWorkers =
    (m v w near far : ℕ) (demand : Demand) (ring : Vec ℕ Global) (input : List ℕ) (r : Finding)
    → (IsReport (Table m v near far) input r → IsReport (Table m w near far) input r)
    × (IsReport (Judge m v demand) input r → IsReport (Judge m w demand) input r)
    × (IsReport (Plan m ring v) input r → IsReport (Plan m ring w) input r)

-- the report of a run is the same for every number of segments in its range
abbrev pub SameForSegments : Type 0
SameForSegments =
    (m g h : ℕ) (ring : Vec ℕ Global) (input : List ℕ) (r : Finding) → IsSegmentCount g (length ring.items) →
    IsSegmentCount h (length ring.items)
    → IsReport (Run m ring g) input r → IsReport (Run m ring h) input r

-- the report of migrate on a text of version 2 is its table and its separation
abbrev pub MigrateKeepsNewTexts : Type 0
MigrateKeepsNewTexts =
    (t : ChannelTable) (s : Separation) (r : Finding) → IsTable t → IsSeparation s →
    IsReport Migrate (table_text t s) r → r ≡ value.table t s

-- a second migrate changes nothing
abbrev pub MigrateTwiceIsOnce : Type 0
MigrateTwiceIsOnce =
    (input : List ℕ) (r s : Finding) → IsReport Migrate input r → status_of r ≡ Done
    → IsReport Migrate (bytes_of r) s → s ≡ r

-- the report of audit on the text of the report of table is that of judge, with the same near and far
abbrev pub AuditOfTableIsJudge : Type 0
AuditOfTableIsJudge =
    (m v w near far : ℕ) (input : List ℕ) (r s : Finding) → IsNear near → IsFar far →
    IsReport (Table m v near far) input r → status_of r ≡ Done
    → IsReport (Audit None) (bytes_of r) s → IsReport (Judge m w (Apart (record { near = near; far = far }))) input s

-- and on a problem it is that of judge on this problem
abbrev pub AuditOfTableSolves : Type 0
AuditOfTableSolves =
    (m v w near far : ℕ) (problem : Problem) (input : List ℕ) (r s : Finding) → IsNear near → IsFar far →
    IsReport (Table m v near far) input r → status_of r ≡ Done
    → IsReport (Audit (Some problem)) (bytes_of r) s → IsReport (Judge m w (Solve problem)) input s

-- the report of apply on the text of the report of table is that of plan
abbrev pub ApplyOfTableIsPlan : Type 0
ApplyOfTableIsPlan =
    (m v w near far : ℕ) (ring : Vec ℕ Global) (input : List ℕ) (r s : Finding) → IsNear near → IsFar far →
    IsReport (Table m v near far) input r → status_of r ≡ Done
    → IsReport (Apply ring) (bytes_of r) s → IsReport (Plan m ring w) input s

-- If the report of audit on a table text is a yes, that of apply on each ring with at least as many nodes as a
-- tuple has channels that are as far apart as the text asks.
abbrev pub AuditedChannelsAreApart : Type 0
AuditedChannelsAreApart =
    (input : List ℕ) (t : ChannelTable) (s : Separation) (ring : Vec ℕ Global) (judged r : Finding)
    → IsTextOf input t s → IsReport (Audit None) input judged → status_of judged ≡ Done
    → IsRing t.ids t.rounds ring.items → 2 * t.rounds + 1 + extra s ≤ length ring.items → IsReport (Apply ring) input r
    → (channel : ℕ → ℕ) × (r ≡ value.places ring.items (map channel (range_with_len 0 (length ring.items))))
    × ((place : ℕ) → place < length ring.items
    → (s.near ≤ abs_diff (channel place) (channel (right_of ring.items place)))
    × (s.far ≤ abs_diff (channel place) (channel (right_of ring.items (right_of ring.items place)))))

-- the note on such a refusal has no advice: a list that is no ring, a place that a ring has not, a number of
-- segments, or a fault of a refutation other than a line that has not its form or an end too early
abbrev pub IsPlain : Fault → Type 0
IsPlain (of_ring m t places f) = ⊤
IsPlain (of_place place places) = ⊤
IsPlain (of_segments segments places) = ⊤
IsPlain (of_refutation refute.TooLong) = ⊤
IsPlain (of_refutation (refute.At line f)) = ¬ MayHaveAdvice f
IsPlain (of_refutation refute.OutOfMemory) = ⊤
IsPlain _ = ⊥

-- what is told has no advice, except on another refusal
abbrev pub IsToldPlainly : Told → Type 0
IsToldPlainly (on_fault fault) = IsPlain fault
IsToldPlainly _ = ⊤

-- the note on a finding has no advice
abbrev pub HasNoAdvice : Finding → Type 0
HasNoAdvice f = IsToldPlainly (told_on f)

-- a finding without advice has at most one note
abbrev pub OneNote : Type 0
OneNote =
    (input : List ℕ) (f : Finding) (note other : List ℕ) → HasNoAdvice f → IsNote input f note
    → IsNote input f other → note ≡ other

-- the report of refute on a text is that the formula is refuted
pub record IsRefuted (m t channels : ℕ) (demand : Demand) : Type 0 where
  pub input : List ℕ
  pub report : Finding
  pub is_report : IsReport (Refute m t channels demand) input report
  pub done : status_of report ≡ Done

-- a separation asks for at least as much as another one of so many identifiers and rounds. If far is 0 in the other one
-- alone, only that one counts rings of 2t+2 nodes, so there must be identifiers for one node more
pub record AsksForAsMuch (ids t : ℕ) (own s : Separation) : Type 0 where
  pub near_more : s.near ≤ own.near
  pub far_more : s.far ≤ own.far
  pub rings : (extra s ≡ extra own) ⊎ (2 * t + 3 ≤ ids)

-- then no table with at least as many identifiers, at most as many rounds and at most as many channels keeps a
-- separation that asks for at least as much
abbrev pub NoTableIfRefuted : Type 0
NoTableIfRefuted =
    (m t channels : ℕ) (s own : Separation) (table : ChannelTable) → IsRefuted m t channels (Apart s) → IsTable table →
    m ≤ table.ids → table.rounds ≤ t
    → table.channels ≤ channels → AsksForAsMuch table.ids t own s → ¬ IsApartEverywhere table own

-- and if the formula of a problem is refuted, no such table solves it
abbrev pub NoTableSolvesIfRefuted : Type 0
NoTableSolvesIfRefuted =
    (m t channels : ℕ) (problem : Problem) (table : ChannelTable) → IsRefuted m t channels (Solve problem)
    → IsTable table →
    m ≤ table.ids → table.rounds ≤ t → table.channels ≤ channels → ¬ IsSolvedEverywhere table (patterns_of problem)

-- two channels of the table are too close on some ring
abbrev pub FailsOnARing : ChannelTable → Separation → Type 0
FailsOnARing table s = (ring : List ℕ) × (places : ℕ × ℕ) × (channels : ℕ × ℕ) × IsWitness table s ring places channels

-- the program fails: the channels of its global rounds are not apart on every ring, its table fails on some ring, and
-- the report of a judge on its text is a no
pub record Fails (m : ℕ) (s : Separation) (text : List ℕ) (p : ProgramTree) : Type 0 where
  pub rounds : ¬ ChannelsAreApart p m s
  pub ring : FailsOnARing (table_of p m) s
  pub judged : (workers : ℕ) (r : Finding) → IsReport (Judge m workers (Apart s)) text r → status_of r ≡ No

-- and every accepted program with these numbers fails
abbrev pub NoProgramIfRefuted : Type 0
NoProgramIfRefuted =
    (m t channels ids : ℕ) (s own : Separation) (text : List ℕ) (p : ProgramTree) → IsRefuted m t channels (Apart s) →
    IsAcceptedText text ids p → m ≤ ids
    → length p.steps ≤ t → p.channels ≤ channels → AsksForAsMuch ids t own s → Fails ids own text p

-- and no accepted program with these numbers solves the problem: on some ring a pattern matches channels of its
-- global rounds, and the report of a judge on its text is a no
abbrev pub NoProgramSolvesIfRefuted : Type 0
NoProgramSolvesIfRefuted =
    (m t channels ids workers : ℕ) (problem : Problem) (text : List ℕ) (p : ProgramTree)
    → IsRefuted m t channels (Solve problem) →
    IsAcceptedText text ids p → m ≤ ids → length p.steps ≤ t → p.channels ≤ channels
    → (¬ ChannelsSolve p ids (patterns_of problem))
    × ((r : Finding) → IsReport (Judge ids workers (Solve problem)) text r → status_of r ≡ No)

-- an accepted program fails if it has more identifiers than the tower over those of its channels that are apart by near
abbrev pub ProgramsNeedChannels : Type 0
ProgramsNeedChannels =
    (ids : ℕ) (s : Separation) (text : List ℕ) (p : ProgramTree) → IsAcceptedText text ids p → 1 ≤ s.near
    → (s.far ≡ 0) ⊎ (2 * length p.steps + 3 ≤ ids) → tower (2 * length p.steps) (spread p.channels s.near) < ids
    → Fails ids s text p

-- on every ring the channels of global rounds are below c
abbrev pub ChannelsAreBelow : ProgramTree → ℕ → ℕ → Type 0
ChannelsAreBelow p m c =
    (ring : List ℕ) (place : ℕ) → IsRing m (length p.steps) ring → place < length ring → channel_at p ring place < c

-- Linial's lower bound for programs, which need not be accepted and so have no limits: if on every ring of identifiers
-- below m the channels of global rounds are below c and apart, m is at most the tower over those of the c channels that
-- are apart by near
abbrev pub RoundsNeedChannels : Type 0
RoundsNeedChannels =
    (p : ProgramTree) (m c : ℕ) (s : Separation) → 2 * length p.steps + 2 ≤ m → ChannelsAreBelow p m c → 1 ≤ s.near
    → (s.far ≡ 0) ⊎ (2 * length p.steps + 3 ≤ m) → ChannelsAreApart p m s
    → m ≤ tower (2 * length p.steps) (spread c s.near)

-- and if they are a maximal independent set on every ring, m is at most the tower of height 2t+2 over 3
abbrev pub IndependentSetsNeedRounds : Type 0
IndependentSetsNeedRounds =
    (p : ProgramTree) (m : ℕ) → 2 * length p.steps + 2 ≤ m → ChannelsAreBelow p m 2 → ChannelsSolve p m independent_set
    → m ≤ tower (2 * (length p.steps + 1)) 3

-- if they are a maximal matching, m is at most the tower of height 2t over 3
abbrev pub MatchingsNeedRounds : Type 0
MatchingsNeedRounds =
    (p : ProgramTree) (m : ℕ) → 2 * length p.steps + 2 ≤ m → ChannelsAreBelow p m 3 → ChannelsSolve p m matching
    → m ≤ tower (2 * length p.steps) 3

-- with identifiers for a ring of 2t+3 nodes a program has more channels than twice near, or fails
abbrev pub RoundsNeedThree : Type 0
RoundsNeedThree =
    (p : ProgramTree) (m c : ℕ) (s : Separation) → 2 * length p.steps + 3 ≤ m → ChannelsAreBelow p m c → 1 ≤ s.near
    → ChannelsAreApart p m s → 2 * s.near < c

abbrev pub ProgramsNeedThree : Type 0
ProgramsNeedThree =
    (ids : ℕ) (s : Separation) (text : List ℕ) (p : ProgramTree) → IsAcceptedText text ids p → 1 ≤ s.near
    → 2 * length p.steps + 3 ≤ ids
    → p.channels ≤ 2 * s.near → Fails ids s text p

-- with far above 0 they are four or more if a ring can have a number of nodes that is no multiple of three
abbrev pub RoundsNeedFour : Type 0
RoundsNeedFour =
    (p : ProgramTree) (m c n : ℕ) (s : Separation) → 2 * length p.steps + 3 ≤ n → n ≤ m → n % 3 ≢ 0
    → ChannelsAreBelow p m c → 1 ≤ s.near → 1 ≤ s.far
    → ChannelsAreApart p m s → 4 ≤ c

-- and five or more if a ring can have five nodes
abbrev pub RoundsNeedFive : Type 0
RoundsNeedFive =
    (p : ProgramTree) (m c : ℕ) (s : Separation) → length p.steps ≤ 1 → 5 ≤ m → ChannelsAreBelow p m c → 1 ≤ s.near
    → 1 ≤ s.far → ChannelsAreApart p m s
    → 5 ≤ c
