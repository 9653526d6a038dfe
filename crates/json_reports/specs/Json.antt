-- Findings as JSON values.
use Rattle.std.specs.Prelude.{ℕ, List, [], ◌∷◌, ◌++◌, map, take, Option, Some, None, codes}
use Rattle.std.specs.Fmt.{decimal}
use Rattle.channel_tables.specs.Tables.{ChannelTable}
use Rattle.channel_tables.specs.declared.separation.Separation.{Separation}
use Rattle.fault_notes.specs.FaultTokens.{offset_of_cause}
use Rattle.json.specs.Json.{Json, null, boolean, string}
use Rattle.lang_check.specs.declared.acceptance.CheckFault.{CheckFault}
use Rattle.lang_check.specs.declared.acceptance.CheckFault.TheVariants as check
use Rattle.node_lang.specs.Printed.{own_word, printed}
use Rattle.reports.specs.Bytes.{places_from, shown}
use Rattle.reports.specs.Codes.{code_of, subject_of}
use Rattle.reports.specs.Findings.{Fault, of_text, of_program, of_ring, of_place, of_segments, of_table_text}
use Rattle.reports.specs.Findings.{of_formula, of_refutation, Finding}
use Rattle.reports.specs.Findings as value
use Rattle.ring_problems.specs.declared.pattern.Entry.{Entry}
use Rattle.ring_problems.specs.declared.pattern.Entry.TheVariants as entry
use Rattle.ring_problems.specs.declared.pattern.Pattern.{Pattern}
use Rattle.source_text.specs.Lines.{column, line_number}
use Rattle.table_formula.specs.Texts.{formula_text}
use Rattle.table_formula.specs.declared.refutation.fault.RefuteError.TheVariants as refute
use Rattle.table_text.specs.declared.fault.TableFault.{TableFault}
use Rattle.table_text.specs.declared.fault.TableFault.TheVariants as table
use Rattle.value_trees.specs.Rows.{RoundRows, TraceRows, trace_rows}
use Rattle.value_trees.specs.ValueTrees.{ValuedPart, ValueTree, value_trees}
use Rattle.value_trees.specs.declared.trees.Given.{Given}
use Rattle.value_trees.specs.declared.trees.Given.TheVariants as given
use Rattle.win_index.specs.declared.ring.RingFault.{RingFault}
use Rattle.win_index.specs.declared.ring.RingFault.TheVariants as ring
use Rattle.json_reports.specs.Values.{Field, array_of, json_text, numbers, numeral, object_of, rows}

-- what is found, by which a reader tells objects apart
abbrev pub kind : List ℕ → Field
kind name = (codes "kind", string name)

abbrev pub numbered : List ℕ → ℕ → Field
numbered name n = (name, numeral n)

-- the channel that a pattern asks for, or null if it asks for none
abbrev pub entry_value : Entry → Json
entry_value entry.Wildcard = null
entry_value (entry.Channel channel) = numeral channel

-- the three entries of a pattern
abbrev pub entries_of : Pattern → List Json
entries_of p = entry_value p.first ∷ entry_value p.second ∷ entry_value p.third ∷ []

abbrev pub pattern_value : Pattern → Json
pattern_value p = array_of (entries_of p)

-- the messages of a round and the registers after it
abbrev pub round_fields : RoundRows → List Field
round_fields r = (codes "left", numbers r.left) ∷ (codes "right", numbers r.right)
    ∷ (codes "registers", rows r.registers) ∷ []

abbrev pub round_value : RoundRows → Json
round_value r = object_of (round_fields r)

abbrev pub trace_fields : List ℕ → TraceRows → List Field
trace_fields places t =
    kind (codes "trace") ∷ (codes "ring", numbers places) ∷ (codes "start", rows t.start)
    ∷ (codes "rounds", array_of (map round_value t.rounds)) ∷ (codes "finish", numbers t.finish) ∷ []

-- what an expression gives
abbrev pub given_name : Given → List ℕ
given_name (given.Register j) = codes "r" ++ decimal j
given_name given.Left = codes "left"
given_name given.Right = codes "right"
given_name given.Channel = codes "finish"

-- a part of an expression: its depth, its word, its value, and whether it counts
abbrev pub part_fields : ValuedPart → List Field
part_fields p =
    numbered (codes "depth") p.depth ∷ (codes "word", string (own_word p.term)) ∷ numbered (codes "value") p.value
    ∷ (codes "taken", boolean p.counts) ∷ []

abbrev pub part_value : ValuedPart → Json
part_value p = object_of (part_fields p)

abbrev pub tree_fields : ValueTree → List Field
tree_fields t =
    numbered (codes "round") t.round ∷ (codes "gives", string (given_name t.given))
    ∷ (codes "parts", array_of (map part_value t.parts)) ∷ []

abbrev pub tree_value : ValueTree → Json
tree_value t = object_of (tree_fields t)

abbrev pub explanation_fields : ℕ → List ValueTree → List Field
explanation_fields place trees =
    kind (codes "explanation") ∷ numbered (codes "place") place ∷ (codes "trees", array_of (map tree_value trees)) ∷ []

-- a ring, and places of it with their channels
abbrev pub witness_fields : (ring places channels : List ℕ) → List Field
witness_fields ring places channels =
    (codes "ring", numbers ring) ∷ (codes "places", numbers places) ∷ (codes "channels", numbers channels) ∷ []

-- a no: what is demanded, and a ring with places at which it is broken
abbrev pub no_fields : List Field → (ring places channels : List ℕ) → List Field
no_fields demanded ring places channels = kind (codes "no") ∷ (demanded ++ witness_fields ring places channels)

abbrev pub separation_fields : Separation → List Field
separation_fields s = numbered (codes "near") s.near ∷ numbered (codes "far") s.far ∷ []

-- what a problem asks of the channels: near and far if no pattern is forbidden, else the patterns
abbrev pub demand_fields : Separation → List Pattern → List Field
demand_fields s [] = separation_fields s
demand_fields s (p ∷ ps) = (codes "forbid", array_of (map pattern_value (p ∷ ps))) ∷ []

-- numbers of identifiers, rounds and channels
abbrev pub size_fields : (ids rounds channels : ℕ) → List Field
size_fields ids rounds channels =
    numbered (codes "ids") ids ∷ numbered (codes "rounds") rounds ∷ numbered (codes "channels") channels ∷ []

-- the numbers of a table and a separation, without the channels of its windows
abbrev pub table_head : ChannelTable → Separation → List Field
table_head t s = kind (codes "table") ∷ (size_fields t.ids t.rounds t.channels ++ separation_fields s)

abbrev pub table_fields : ChannelTable → Separation → List Field
table_fields t s = table_head t s ++ (codes "entries", numbers t.entries) ∷ []

-- the fields of an answer; a formula has none
abbrev pub answer_fields : Finding → List Field
answer_fields (value.accepted ids rounds channels bound windows) =
    kind (codes "accepted") ∷ (size_fields ids rounds channels
    ++ numbered (codes "bound") bound ∷ numbered (codes "windows") windows ∷ [])
answer_fields (value.program p) = kind (codes "program") ∷ (codes "text", string (printed p)) ∷ []
answer_fields (value.yes tuples nodes ids) = kind (codes "yes") ∷ numbered (codes "tuples") tuples ∷ []
answer_fields (value.no s ring places channels) =
    no_fields (separation_fields s) ring (places.0 ∷ places.1 ∷ []) (channels.0 ∷ channels.1 ∷ [])
answer_fields (value.solved tuples idle) = kind (codes "yes") ∷ numbered (codes "tuples") tuples ∷ []
answer_fields (value.broken ring place channels pattern known idle) =
    no_fields ((codes "pattern", pattern_value pattern) ∷ []) ring (places_from ring place (shown pattern))
    (take (shown pattern) (channels.0 ∷ channels.1 ∷ channels.2 ∷ []))
answer_fields (value.channels of) = kind (codes "channels") ∷ (codes "channels", numbers of) ∷ []
answer_fields (value.trace b p ring) = trace_fields ring (trace_rows p ring)
answer_fields (value.tree b p ring place) = explanation_fields place (value_trees p ring place)
answer_fields (value.places ring of) =
    kind (codes "places") ∷ (codes "ring", numbers ring) ∷ (codes "channels", numbers of) ∷ []
answer_fields (value.table t s) = table_fields t s
answer_fields (value.formula p) = []
answer_fields (value.refuted p) =
    kind (codes "refuted") ∷ (size_fields p.ids p.rounds p.channels ++ demand_fields p.separation p.forbidden)
answer_fields (value.refused f) = []

-- the line and the column of the byte at an offset of a text, if there is one
abbrev pub location_fields : List ℕ → Option ℕ → List Field
location_fields text None = []
location_fields text (Some offset) = numbered (codes "line") (line_number text offset)
    ∷ numbered (codes "column") (column text offset) ∷ []

-- the byte at an offset of a text
abbrev pub byte_fields : List ℕ → ℕ → List Field
byte_fields text offset = numbered (codes "at") offset ∷ location_fields text (Some offset)

-- the register or the bound that a refusal of a program is about
abbrev pub check_fields : CheckFault → List Field
check_fields (check.RegisterOutOfRange j) = numbered (codes "register") j ∷ []
check_fields (check.ChannelBound bound) = numbered (codes "bound") bound ∷ []
check_fields _ = []

-- the places of a list of identifiers that is no ring
abbrev pub ring_fields : RingFault → List Field
ring_fields (ring.IdTooLarge place) = numbered (codes "place") place ∷ []
ring_fields (ring.Repeated first second) = (codes "places", numbers (first ∷ second ∷ [])) ∷ []
ring_fields _ = []

-- the byte or the line of a table text
abbrev pub table_fault_fields : List ℕ → TableFault → List Field
table_fault_fields text (table.Syntax offset) = byte_fields text offset
table_fault_fields text (table.WrongWindow number) = numbered (codes "line") number ∷ []
table_fault_fields text (table.ChannelTooLarge number) = numbered (codes "line") number ∷ []
table_fault_fields text table.OutOfMemory = []

-- the details of a fault, with the place in the text of the cause
abbrev pub detail_fields : List ℕ → Fault → List Field
detail_fields text (of_text k offset) = byte_fields text offset
detail_fields text (of_program p ids f) = check_fields f ++ location_fields text (offset_of_cause text f)
detail_fields text (of_ring m t places f) = ring_fields f
detail_fields text (of_place place places) = numbered (codes "place") place ∷ []
detail_fields text (of_table_text f) = table_fault_fields text f
detail_fields text (of_refutation (refute.At number f)) = numbered (codes "line") number ∷ []
detail_fields text _ = []

-- the fields of a refusal of this text
abbrev pub fault_fields : List ℕ → Fault → List Field
fault_fields text f =
    kind (codes "fault") ∷ (codes "of", string (subject_of f)) ∷ (codes "code", string (code_of f))
    ∷ detail_fields text f

-- the fields of what was found in this text
abbrev pub fields_of : List ℕ → Finding → List Field
fields_of text (value.refused f) = fault_fields text f
fields_of text f = answer_fields f

-- a note, if there is one
abbrev pub note_fields : Option (List ℕ) → List Field
note_fields None = []
note_fields (Some note) = (codes "note", string note) ∷ []

-- what was found in this text, with a note; a table has none
abbrev pub json_of : List ℕ → Finding → Option (List ℕ) → Json
json_of text (value.table t s) noted = object_of (table_fields t s)
json_of text f noted = object_of (fields_of text f ++ note_fields noted)

-- the bytes of its report: the text of the value and a line feed; a formula is in DIMACS
abbrev pub json_bytes : List ℕ → Finding → Option (List ℕ) → List ℕ
json_bytes text (value.formula p) noted = formula_text p
json_bytes text f noted = json_text (json_of text f noted) ++ 10 ∷ []
