-- Reports are shallow objects, so a JSON reader takes them.
use Rattle.std.proofs.Common.{◌≡◌, ℕ, suc, ◌≤◌, List, [], ◌∷◌, ◌++◌, map, take, Option, Some, None, arith, refl}
use Rattle.channel_tables.specs.Tables.{ChannelTable}
use Rattle.channel_tables.specs.declared.separation.Separation.{Separation}
use Rattle.fault_notes.specs.FaultTokens.{offset_of_cause}
use Rattle.json.specs.Json.{Json, max_depth}
use Rattle.json.specs.Tree.{depth, items_depth, members_depth}
use Rattle.lang_check.specs.declared.acceptance.CheckFault.{CheckFault}
use Rattle.lang_check.specs.declared.acceptance.CheckFault.TheVariants as check
use Rattle.reports.specs.Bytes.{places_from, shown}
use Rattle.reports.specs.Findings.{Fault, answer_of, of_text, of_program, of_ring, of_place, of_segments, of_table_text}
use Rattle.reports.specs.Findings.{of_formula, of_refutation}
use Rattle.reports.specs.ProblemFaults.{problem_of}
use Rattle.reports.specs.declared.finding.Answer.{Answer}
use Rattle.reports.specs.declared.finding.Answer.TheVariants as answer
use Rattle.ring_problems.specs.declared.pattern.Entry.{Entry}
use Rattle.ring_problems.specs.declared.pattern.Entry.TheVariants as entry
use Rattle.ring_problems.specs.declared.pattern.Pattern.{Pattern}
use Rattle.table_formula.specs.declared.refutation.fault.RefuteError.TheVariants as refute
use Rattle.table_text.specs.declared.fault.TableFault.TheVariants as table
use Rattle.value_trees.specs.Rows.{RoundRows, trace_rows}
use Rattle.value_trees.specs.ValueTrees.{ValuedPart, ValueTree, value_trees}
use Rattle.win_index.specs.declared.ring.RingFault.TheVariants as ring
use Rattle.json_reports.specs.Json.{answer_fields, check_fields, json_bytes, demand_fields, entry_value, fault_fields}
use Rattle.json_reports.specs.Json.{note_fields, part_value, pattern_value, location_fields, round_value}
use Rattle.json_reports.specs.Json.{table_fields, tree_value}
use Rattle.json_reports.specs.Reports.{IsRead, IsReadBack}
use Rattle.json_reports.specs.Values.{Field, array_of, items_of, json_text, members_of, numbers, numeral}
use Rattle.json_reports.specs.Values.{object_of, rows}

-- values that are so deep make an array that is one deeper
mapped_depth : {A : Type 0} (f : A → Json) (most : ℕ) → ((x : A) → depth (f x) ≤ most) → (xs : List A)
    → items_depth (items_of (map f xs)) ≤ most
mapped_depth f most each [] = omega arith
mapped_depth f most each (x ∷ xs) = let rest = mapped_depth f most each xs in omega (arith, each x, rest)

array_depth : {A : Type 0} (f : A → Json) (most : ℕ) → ((x : A) → depth (f x) ≤ most) → (xs : List A)
    → depth (array_of (map f xs)) ≤ suc most
array_depth f most each xs = let items = mapped_depth f most each xs in omega (arith, items)

numbers_depth : (ns : List ℕ) → depth (numbers ns) ≤ 1
numbers_depth = array_depth numeral 0 (λ n. omega arith)

rows_depth : (nss : List (List ℕ)) → depth (rows nss) ≤ 2
rows_depth = array_depth numbers 1 numbers_depth

-- members of two lists
joined_depth : (most : ℕ) (fs gs : List Field) → members_depth (members_of fs) ≤ most
    → members_depth (members_of gs) ≤ most
    → members_depth (members_of (fs ++ gs)) ≤ most
joined_depth most [] gs first second = second
joined_depth most (f ∷ fs) gs first second =
    let rest = joined_depth most fs gs (omega (arith, first)) second in omega (arith, first, rest)

entry_depth : (e : Entry) → depth (entry_value e) ≤ 0
entry_depth entry.Wildcard = omega arith
entry_depth (entry.Channel channel) = omega arith

pattern_depth : (p : Pattern) → depth (pattern_value p) ≤ 1
pattern_depth p =
    let first = entry_depth p.first in
    let second = entry_depth p.second in
    let third = entry_depth p.third in
    omega (arith, first, second, third)

round_depth : (r : RoundRows) → depth (round_value r) ≤ 3
round_depth r =
    let left = numbers_depth r.left in
    let right = numbers_depth r.right in
    let registers = rows_depth r.registers in
    omega (arith, left, right, registers)

part_depth : (p : ValuedPart) → depth (part_value p) ≤ 1
part_depth p = omega arith

tree_depth : (t : ValueTree) → depth (tree_value t) ≤ 3
tree_depth t = let parts = array_depth part_value 1 part_depth t.parts in omega (arith, parts)

-- members whose values are at most four deep
abbrev Shallow : List Field → Type 0
Shallow fs = members_depth (members_of fs) ≤ 4

demand_shallow : (s : Separation) (ps : List Pattern) → Shallow (demand_fields s ps)
demand_shallow s [] = omega arith
demand_shallow s (p ∷ ps) = let patterns = array_depth pattern_value 1 pattern_depth (p ∷ ps) in omega (arith, patterns)

-- The report of an answer is the text of one object and a line feed; it is read back if the object is, which is
-- shallow.
record IsObjectOf (a : Answer) : Type 0 where
  bytes : (text : List ℕ) (note : Option (List ℕ))
      → json_bytes text (answer_of a) note
      ≡ json_text (object_of (answer_fields (answer_of a) ++ note_fields note)) ++ 10 ∷ []
  read : (text : List ℕ) (note : Option (List ℕ))
      → IsRead (object_of (answer_fields (answer_of a) ++ note_fields note)) → IsReadBack text (answer_of a) note
  shallow : Shallow (answer_fields (answer_of a))

answer_object : (a : Answer) → IsObjectOf a
answer_object (answer.Accepted ids rounds most bound windows) =
    record { bytes = λ text note. refl; read = λ text note is. is; shallow = omega arith }
answer_object (answer.Program p) =
    record { bytes = λ text note. refl; read = λ text note is. is; shallow = omega arith }
answer_object (answer.Yes tuples nodes ids) =
    record { bytes = λ text note. refl; read = λ text note is. is; shallow = omega arith }
answer_object (answer.No s w) =
    let r = numbers_depth w.ring.items in record { bytes = λ text note. refl; read = λ text note is. is; shallow = omega (arith, r) }
answer_object (answer.Solved tuples idle) =
    record { bytes = λ text note. refl; read = λ text note is. is; shallow = omega arith }
answer_object (answer.Broken w known idle) =
    let p = pattern_depth w.pattern in
    let r = numbers_depth w.ring.items in
    let at = numbers_depth (places_from w.ring.items w.place (shown w.pattern)) in
    let of = numbers_depth (take (shown w.pattern) (w.channels.0 ∷ w.channels.1 ∷ w.channels.2 ∷ [])) in
    record { bytes = λ text note. refl; read = λ text note is. is; shallow = omega (arith, p, r, at, of) }
answer_object (answer.Channels cs) =
    let c = numbers_depth cs.items in record { bytes = λ text note. refl; read = λ text note is. is; shallow = omega (arith, c) }
answer_object (answer.Trace t) =
    let t' = trace_rows t.plan.program t.ring.places in
    let r = numbers_depth t.ring.places in
    let start = rows_depth t'.start in
    let rounds = array_depth round_value 3 round_depth t'.rounds in
    let finish = numbers_depth t'.finish in
    record { bytes = λ text note. refl; read = λ text note is. is; shallow = omega (arith, r, start, rounds, finish) }
answer_object (answer.Tree t) =
    let trees = array_depth tree_value 3 tree_depth (value_trees t.plan.program t.ring.places t.place) in
    record { bytes = λ text note. refl; read = λ text note is. is; shallow = omega (arith, trees) }
answer_object (answer.Places ring cs) =
    let r = numbers_depth ring.places in
    let c = numbers_depth cs.items in
    record { bytes = λ text note. refl; read = λ text note is. is; shallow = omega (arith, r, c) }
answer_object (answer.Refuted n) =
    let p = problem_of n in
    let demand = demand_shallow p.separation p.forbidden in
    record { bytes = λ text note. refl; read = λ text note is. is; shallow = omega (arith, demand) }

location_shallow : (text : List ℕ) (offset : Option ℕ) → Shallow (location_fields text offset)
location_shallow text None = omega arith
location_shallow text (Some offset) = omega arith

check_shallow : (f : CheckFault) → Shallow (check_fields f)
check_shallow check.IdsOutOfRange = omega arith
check_shallow check.TooManyWindows = omega arith
check_shallow (check.RegisterOutOfRange j) = omega arith
check_shallow check.IdOutsideStart = omega arith
check_shallow check.MessageOutsideStep = omega arith
check_shallow (check.ChannelBound bound) = omega arith

fault_shallow : (text : List ℕ) (f : Fault) → Shallow (fault_fields text f)
fault_shallow text (of_text k offset) = omega arith
fault_shallow text (of_program p ids f) =
    let both = joined_depth 4 (check_fields f) (location_fields text (offset_of_cause text f)) (check_shallow f)
    (location_shallow text (offset_of_cause text f)) in
    omega (arith, both)
fault_shallow text (of_ring m t places ring.TooShort) = omega arith
fault_shallow text (of_ring m t places ring.TooLong) = omega arith
fault_shallow text (of_ring m t places (ring.IdTooLarge place)) = omega arith
fault_shallow text (of_ring m t places (ring.Repeated first second)) = omega arith
fault_shallow text (of_place place places) = omega arith
fault_shallow text (of_segments segments places) = omega arith
fault_shallow text (of_table_text (table.Syntax offset)) = omega arith
fault_shallow text (of_table_text (table.WrongWindow number)) = omega arith
fault_shallow text (of_table_text (table.ChannelTooLarge number)) = omega arith
fault_shallow text (of_table_text table.OutOfMemory) = omega arith
fault_shallow text (of_formula m t f) = omega arith
fault_shallow text (of_refutation refute.TooLong) = omega arith
fault_shallow text (of_refutation (refute.At number f)) = omega arith
fault_shallow text (of_refutation refute.OutOfMemory) = omega arith

note_shallow : (note : Option (List ℕ)) → Shallow (note_fields note)
note_shallow None = omega arith
note_shallow (Some note) = omega arith

with_note : (fs : List Field) (note : Option (List ℕ)) → Shallow fs
    → depth (object_of (fs ++ note_fields note)) ≤ max_depth
with_note fs note shallow =
    let both = joined_depth 4 fs (note_fields note) shallow (note_shallow note) in omega (arith, both)

-- objects of findings, with a note, can be read
pub answer_depth : (a : Answer) (note : Option (List ℕ))
    → depth (object_of (answer_fields (answer_of a) ++ note_fields note)) ≤ max_depth
answer_depth a note = let object = answer_object a in with_note (answer_fields (answer_of a)) note object.shallow

pub answer_bytes : (text : List ℕ) (a : Answer) (note : Option (List ℕ))
    → json_bytes text (answer_of a) note
    ≡ json_text (object_of (answer_fields (answer_of a) ++ note_fields note)) ++ 10 ∷ []
answer_bytes text a = let object = answer_object a in object.bytes text

pub answer_read : (text : List ℕ) (a : Answer) (note : Option (List ℕ))
    → IsRead (object_of (answer_fields (answer_of a) ++ note_fields note)) → IsReadBack text (answer_of a) note
answer_read text a = let object = answer_object a in object.read text

pub fault_depth : (text : List ℕ) (f : Fault) (note : Option (List ℕ))
    → depth (object_of (fault_fields text f ++ note_fields note)) ≤ max_depth
fault_depth text f note = with_note (fault_fields text f) note (fault_shallow text f)

pub table_depth : (t : ChannelTable) (s : Separation) → depth (object_of (table_fields t s)) ≤ max_depth
table_depth t s = let entries = numbers_depth t.entries in omega (arith, entries)
