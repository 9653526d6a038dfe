-- What a task finds on a text, on a program, on a table or on a ring. Each relation holds of one finding.
use Rattle.std.specs.Prelude.{◌≡◌, ◌≢◌, ℕ, ◌+◌, ◌*◌, ◌<◌, ◌≤◌, List, Option, Some, None, length, map}
use Rattle.std.specs.List.{range_with_len}
use Rattle.node_lang.specs.declared.fault.FaultKind.{FaultKind}
use Rattle.node_program.specs.Term.{ProgramTree}
use Rattle.node_program.specs.Bounds.{finish_bound}
use Rattle.node_program.specs.GlobalRounds.{channels_of}
use Rattle.win_index.specs.Ring.{IsRing}
use Rattle.win_index.specs.Arcs.{window_around}
use Rattle.node_lang.specs.Grammar.{Reads}
use Rattle.node_lang.specs.Faults.{FaultsAt}
use Rattle.lang_check.specs.declared.acceptance.CheckFault.{CheckFault}
use Rattle.win_index.specs.declared.ring.RingFault.{RingFault}
use Rattle.lang_check.specs.Acceptance.{IsAccepted}
use Rattle.lang_check.specs.Refusals.{IsFirstRefusal}
use Rattle.win_index.specs.RingFaults.{IsFirstFault}
use Rattle.win_index.specs.Windows.{windows}
use Rattle.channel_tables.specs.Tables.{ChannelTable, channel_of}
use Rattle.channel_tables.specs.declared.separation.Separation.{Separation}
use Rattle.channel_tables.specs.Apart.{extra, tuples, IsApartEverywhere}
use Rattle.channel_tables.specs.Witnesses.{IsWitness}
use Rattle.ring_problems.specs.declared.pattern.Pattern.{Pattern}
use Rattle.ring_problems.specs.declared.problem.Demand.{Demand}
use Rattle.ring_problems.specs.declared.problem.Demand.TheVariants.{Apart, Solve}
use Rattle.ring_problems.specs.declared.problem.Problem.{Problem}
use Rattle.ring_problems.specs.Demands.{known_in, patterns_of}
use Rattle.ring_problems.specs.Idle.{idle_in}
use Rattle.ring_problems.specs.Problems as problems
use Rattle.ring_problems.specs.Problems.{IsSolvedEverywhere}
use Rattle.ring_problems.specs.Witnesses as problem_witnesses
use Rattle.border_exchange.specs.SegmentCounts.{IsSegmentCount}
use Rattle.numerals.specs.declared.base.Base.{Base}
use Rattle.reports.specs.Findings.{Fault, of_text, of_program, of_ring, of_place, of_segments, of_table_text}
use Rattle.reports.specs.Findings.{Finding, refused}
use Rattle.reports.specs.Findings as value
use Rattle.table_text.specs.declared.fault.TableFault.{TableFault}
use Rattle.table_text.specs.declared.fault.TableFault.TheVariants as table
use Rattle.table_text.specs.Texts.{IsTextOf}
use Rattle.table_text.specs.Faults.{IsFault}

-- the finding is this one
abbrev pub Finds : Finding → Finding → Type 0
Finds value f = f ≡ value

-- What is found is a refusal, with such a fault, or such an answer.
pub data IsRefusedOr (refusal : Fault → Type 0) (answer : Finding → Type 0) (f : Finding) : Type 0 where
  told : (fault : Fault) → refusal fault → f ≡ refused fault → IsRefusedOr refusal answer f
  answered : answer f → IsRefusedOr refusal answer f

-- the numbers of a program that is accepted for `ids` identifiers; its windows are those of `2t+1` identifiers for
-- `t` rounds
abbrev pub numbers_of : ℕ → ProgramTree → Finding
numbers_of ids p =
    value.accepted ids (length p.steps) p.channels (finish_bound p ids) (length (windows (2 * length p.steps + 1) ids))

-- the table has these channels on the ring: each is that of the window around its place
abbrev pub HasChannels : ChannelTable → List ℕ → (ℕ → ℕ) → Type 0
HasChannels t places channel =
    (place : ℕ) → place < length places → channel_of t (window_around places t.rounds place) ≡ Some (channel place)

-- the channels that a table has at a ring's places, from place 0 on
pub record AreTableChannels (t : ChannelTable) (places channels : List ℕ) : Type 0 where
  pub channel : ℕ → ℕ
  pub has : HasChannels t places channel
  pub are : channels ≡ map channel (range_with_len 0 (length places))

-- a yes over this number of tuples
abbrev pub yes_of : ChannelTable → Separation → Finding
yes_of t s = value.yes (length (tuples t s)) (2 * t.rounds + 1 + extra s) t.ids

-- What the judge finds: the channels are apart everywhere as the separation requires, or not on this ring.
pub data IsJudgement (t : ChannelTable) (s : Separation) (f : Finding) : Type 0 where
  good : IsApartEverywhere t s → f ≡ yes_of t s → IsJudgement t s f
  bad : (ring : List ℕ) (places channels : ℕ × ℕ) → IsWitness t s ring places channels
      → f ≡ value.no s ring places channels → IsJudgement t s f

-- a no to a problem of a table with so many channels, on a ring from a place on
abbrev pub broken_of : Problem → ℕ → List ℕ → ℕ → ℕ × ℕ × ℕ → Pattern → Finding
broken_of problem count ring place channels pattern =
    value.broken ring place channels pattern (known_in problem) (idle_in (patterns_of problem) count)

-- What the judge finds on a problem: the table solves it, or a pattern matches on this ring; and a pattern that
-- never matches, as the table lacks a channel, if there is one.
pub data IsProblemJudgement (t : ChannelTable) (problem : Problem) (f : Finding) : Type 0 where
  solved : IsSolvedEverywhere t (patterns_of problem)
      → f ≡ value.solved (length (problems.tuples t (patterns_of problem))) (idle_in (patterns_of problem) t.channels)
      → IsProblemJudgement t problem f
  broken : (ring : List ℕ) (place : ℕ) (channels : ℕ × ℕ × ℕ) (pattern : Pattern)
      → problem_witnesses.IsWitness t (patterns_of problem) ring place channels pattern
      → f ≡ broken_of problem t.channels ring place channels pattern
      → IsProblemJudgement t problem f

-- what the judge finds on what is asked of the channels
abbrev pub IsDemandJudgement : ChannelTable → Demand → Finding → Type 0
IsDemandJudgement t (Apart separation) = IsJudgement t separation
IsDemandJudgement t (Solve problem) = IsProblemJudgement t problem

-- what the judge finds on a table text: on the problem, or if there is none, on the text's separation
abbrev pub IsAudit : Option Problem → ChannelTable → Separation → Finding → Type 0
IsAudit None t s = IsJudgement t s
IsAudit (Some problem) t s = IsProblemJudgement t problem

-- the first fault of a list of identifiers that is no ring, for m identifiers and t rounds
pub record IsNoRing (m t : ℕ) (places : List ℕ) (fault : Fault) : Type 0 where
  pub what : RingFault
  pub first : IsFirstFault m t places what
  pub is : fault ≡ of_ring m t places what

-- What is found on a list of identifiers: its fault, or what is found on the ring.
abbrev pub IsAnswerOnRing : ℕ → ℕ → List ℕ → (Finding → Type 0) → Finding → Type 0
IsAnswerOnRing m t places found = IsRefusedOr (IsNoRing m t places) (λ f. IsRing m t places × found f)

-- What a run finds on a ring: the ring can't be run in this number of segments, or its channels in global rounds.
abbrev pub IsRunAnswer : ProgramTree → List ℕ → ℕ → Finding → Type 0
IsRunAnswer p places segments = IsRefusedOr
    (λ fault. (¬ IsSegmentCount segments (length places)) × (fault ≡ of_segments segments (length places)))
    (λ f. IsSegmentCount segments (length places) × (f ≡ value.channels (channels_of p places)))

-- What an explanation finds on a ring: the ring has no such place, or how the place computes in global rounds.
abbrev pub IsExplainAnswer : Base → ProgramTree → List ℕ → ℕ → Finding → Type 0
IsExplainAnswer b p places place = IsRefusedOr
    (λ fault. (length places ≤ place) × (fault ≡ of_place place (length places)))
    (λ f. (place < length places) × (f ≡ value.tree b p places place))

-- the places of a ring with the channels of a table
pub record IsOnRingByTable (t : ChannelTable) (places : List ℕ) (f : Finding) : Type 0 where
  pub channels : List ℕ
  pub are : AreTableChannels t places channels
  pub is : f ≡ value.places places channels

-- what is found on a list of identifiers by a table, whose shape the ring has to have
abbrev pub IsApplyAnswer : List ℕ → ChannelTable → Separation → Finding → Type 0
IsApplyAnswer places t s = IsAnswerOnRing t.ids t.rounds places (IsOnRingByTable t places)

-- a table and a separation
abbrev pub IsTableText : ChannelTable → Separation → Finding → Type 0
IsTableText t s = Finds (value.table t s)

-- the fault of a text that reads as no program
pub record IsTextRefusal (input : List ℕ) (fault : Fault) : Type 0 where
  pub kind : FaultKind
  pub offset : ℕ
  pub none : (p : ProgramTree) → ¬ Reads input p
  pub first : FaultsAt input kind offset
  pub is : fault ≡ of_text kind offset

-- What a print finds: the fault of the text, or its program.
abbrev pub IsPrintReport : List ℕ → Finding → Type 0
IsPrintReport input = IsRefusedOr (IsTextRefusal input) (λ f. (p : ProgramTree) × Reads input p × (f ≡ value.program p))

-- Why a program text is refused for m identifiers: the fault of a text that reads as no program, or the first
-- refusal of its program.
pub data IsProgramRefusal (m : ℕ) (input : List ℕ) (fault : Fault) : Type 0 where
  text_fault : IsTextRefusal input fault → IsProgramRefusal m input fault
  check_fault : (p : ProgramTree) (f : CheckFault) → Reads input p → IsFirstRefusal m p f → fault ≡ of_program p m f
      → IsProgramRefusal m input fault

-- What a task finds on a program text for m identifiers: its refusal, or what it finds on the accepted program.
abbrev pub IsProgramReport : ℕ → (ProgramTree → Finding → Type 0) → List ℕ → Finding → Type 0
IsProgramReport m answer input = IsRefusedOr (IsProgramRefusal m input)
    (λ f. (p : ProgramTree) × Reads input p × IsAccepted m p × answer p f)

-- the first fault of a text that is not a table text
pub record IsTableRefusal (input : List ℕ) (fault : Fault) : Type 0 where
  pub what : TableFault
  pub known : what ≢ table.OutOfMemory
  pub first : IsFault input what
  pub is : fault ≡ of_table_text what

-- What a task finds on a table text: its refusal, or what it finds on its table and its separation.
abbrev pub IsTableReport : (ChannelTable → Separation → Finding → Type 0) → List ℕ → Finding → Type 0
IsTableReport answer input = IsRefusedOr (IsTableRefusal input)
    (λ f. (t : ChannelTable) × (s : Separation) × IsTextOf input t s × answer t s f)
