-- What a task finds, as a value.
use Rattle.std.specs.Prelude.{ℕ, List, Option}
use Rattle.node_program.specs.Term.{ProgramTree}
use Rattle.node_lang.specs.declared.fault.FaultKind.{FaultKind}
use Rattle.lang_check.specs.declared.acceptance.CheckFault.{CheckFault}
use Rattle.win_index.specs.declared.ring.RingFault.{RingFault}
use Rattle.channel_tables.specs.Tables.{ChannelTable}
use Rattle.channel_tables.specs.declared.separation.Separation.{Separation}
use Rattle.ring_problems.specs.declared.idle.IdlePattern.{IdlePattern}
use Rattle.ring_problems.specs.declared.known.KnownProblem.{KnownProblem}
use Rattle.ring_problems.specs.declared.pattern.Pattern.{Pattern}
use Rattle.numerals.specs.declared.base.Base.{Base}
use Rattle.table_formula.specs.Problems.{Problem}
use Rattle.table_text.specs.declared.fault.TableFault.{TableFault}
use Rattle.table_formula.specs.declared.refutation.fault.RefuteError.{RefuteError}
use Rattle.reports.specs.ProblemFaults.{problem_of}
use Rattle.reports.specs.declared.problem.ProblemFault.{ProblemFault}
use Rattle.reports.specs.declared.fault.Fault as declared_fault
use Rattle.reports.specs.declared.fault.Fault.TheVariants as fault
use Rattle.reports.specs.declared.finding.Answer as declared_answer
use Rattle.reports.specs.declared.finding.Answer.TheVariants as answer
use Rattle.reports.specs.declared.finding.Finding as declared
use Rattle.reports.specs.declared.finding.Finding.TheVariants as finding
use Rattle.reports.specs.declared.status.Status.{Status}
use Rattle.reports.specs.declared.status.Status.TheVariants.{Done, No, Words, Refused, RingRefused, FormulaRefused}

-- Why an input is refused: the fault of a program text and its place; the refusal of a program for a number of
-- identifiers; the fault of a list of identifiers, for m identifiers and t rounds; a place, or a number of
-- segments, for a number of places; the fault of a table text; why there is no formula of m identifiers and t
-- rounds; the fault of a refutation.
pub data Fault : Type 0 where
  of_text : (kind : FaultKind) (offset : ℕ) → Fault
  of_program : (p : ProgramTree) (ids : ℕ) (f : CheckFault) → Fault
  of_ring : (m t : ℕ) (places : List ℕ) (f : RingFault) → Fault
  of_place : (place places : ℕ) → Fault
  of_segments : (segments places : ℕ) → Fault
  of_table_text : (f : TableFault) → Fault
  of_formula : (m t : ℕ) (f : ProblemFault) → Fault
  of_refutation : (f : RefuteError) → Fault

-- What a task finds: the numbers of an accepted program; a program; that channels are apart on so many tuples of so
-- many nodes and identifiers, or that a separation is broken on a ring at two places by two channels; that a
-- problem is solved on so many tuples, with a pattern that never matches if there is one, or that a pattern matches
-- on a ring from a place on, with the channels of this place and of the two after it, the problem's name if it has
-- one, and a pattern that never matches; the channels of a ring; a trace of a program on a ring; how one of its
-- places computes; a ring with its channels; a table with a separation; a formula, or that it is refuted; or that
-- the input is refused.
pub data Finding : Type 0 where
  accepted : (ids rounds channels bound windows : ℕ) → Finding
  program : (p : ProgramTree) → Finding
  yes : (tuples nodes ids : ℕ) → Finding
  no : (s : Separation) (ring : List ℕ) (places channels : ℕ × ℕ) → Finding
  solved : (tuples : ℕ) (idle : Option IdlePattern) → Finding
  broken : (ring : List ℕ) (place : ℕ) (channels : ℕ × ℕ × ℕ) (pattern : Pattern) (known : Option KnownProblem)
      (idle : Option IdlePattern) → Finding
  channels : (of : List ℕ) → Finding
  trace : (b : Base) (p : ProgramTree) (ring : List ℕ) → Finding
  tree : (b : Base) (p : ProgramTree) (ring : List ℕ) (place : ℕ) → Finding
  places : (ring of : List ℕ) → Finding
  table : (t : ChannelTable) (s : Separation) → Finding
  formula : (p : Problem) → Finding
  refuted : (p : Problem) → Finding
  refused : (f : Fault) → Finding

-- those of the code, without where they lie in memory
abbrev pub fault_of : declared_fault.Fault → Fault
fault_of (fault.Text f) = of_text f.kind f.offset
fault_of (fault.Program p ids f) = of_program p ids f
fault_of (fault.Ring rounds ids list f) = of_ring ids rounds list.items f
fault_of (fault.Place place count) = of_place place count
fault_of (fault.Segments segments count) = of_segments segments count
fault_of (fault.TableText f) = of_table_text f
fault_of (fault.Formula ids rounds f) = of_formula ids rounds f
fault_of (fault.Refutation f) = of_refutation f

abbrev pub answer_of : declared_answer.Answer → Finding
answer_of (answer.Accepted ids rounds most bound windows) = accepted ids rounds most bound windows
answer_of (answer.Program p) = program p
answer_of (answer.Yes tuples nodes ids) = yes tuples nodes ids
answer_of (answer.No s w) = no s w.ring.items w.places w.channels
answer_of (answer.Solved tuples idle) = solved tuples idle
answer_of (answer.Broken w known idle) = broken w.ring.items w.place w.channels w.pattern known idle
answer_of (answer.Channels cs) = channels cs.items
answer_of (answer.Trace r) = trace r.base r.plan.program r.ring.places
answer_of (answer.Tree r) = tree r.base r.plan.program r.ring.places r.place
answer_of (answer.Places ring cs) = places ring.places cs.items
answer_of (answer.Refuted n) = refuted (problem_of n)

abbrev pub value_of : declared.Finding → Finding
value_of (finding.Answer a) = answer_of a
value_of (finding.Table t) = table t.table t.separation
value_of (finding.Formula p) = formula p
value_of (finding.Refused f) = refused (fault_of f)

-- the status of a refusal
abbrev pub fault_status : Fault → Status
fault_status (of_ring m t list f) = RingRefused
fault_status (of_place place count) = RingRefused
fault_status (of_segments segments count) = Words
fault_status (of_formula m t f) = FormulaRefused
fault_status _ = Refused

-- the status of a finding
abbrev pub status_of : Finding → Status
status_of (no s ring at of) = No
status_of (broken ring place of pattern known idle) = No
status_of (refused f) = fault_status f
status_of _ = Done
