-- The trace of a ring in a base: its identifiers, and the registers and the messages of its places in global
-- rounds, round by round.
use Rattle.std.specs.Prelude.{ℕ, ◌+◌, List, [], ◌∷◌, ◌++◌, length, slice_index, codes}
use Rattle.std.specs.List.{flat_map, range_with_len}
use Rattle.std.specs.Fmt.{decimal}
use Rattle.node_program.specs.Term.{ProgramTree}
use Rattle.node_program.specs.Node.{to_left, to_right}
use Rattle.node_program.specs.GlobalRounds.{state, channels_of}
use Rattle.numerals.specs.Numerals.{row}
use Rattle.value_trees.specs.Explanation.{phase}
use Rattle.value_trees.specs.Rows.{RoundRows, TraceRows, of_places}
use Rattle.numerals.specs.declared.base.Base.{Base}

-- a line with a heading and these numbers
abbrev pub row_line : Base → List ℕ → List ℕ → List ℕ
row_line b heading numbers = heading ++ row b numbers

-- a line for each register, with its value at each place after r rounds
abbrev pub register_lines : Base → ProgramTree → List ℕ → ℕ → List ℕ
register_lines b p x r =
    flat_map (λ j. row_line b (phase r ++ (codes " r" ++ decimal j)) (of_places x (λ i. slice_index (state p x r i) j)))
    (range_with_len 0 (length p.start))

-- two lines: the messages of each place to its left and to its right after r rounds, which are those of round r + 1
abbrev pub message_lines : Base → ProgramTree → List ℕ → ℕ → List ℕ
message_lines b p x r =
    row_line b (phase (r + 1) ++ codes " left") (of_places x (λ i. to_left p r (state p x r i)))
    ++ row_line b (phase (r + 1) ++ codes " right") (of_places x (λ i. to_right p r (state p x r i)))

-- the lines of the round after r others: its messages, and the registers after it
abbrev pub round_lines : Base → ProgramTree → List ℕ → ℕ → List ℕ
round_lines b p x r = message_lines b p x r ++ register_lines b p x (r + 1)

-- the lines of the rounds, and of the channels
abbrev pub later_lines : Base → ProgramTree → List ℕ → List ℕ
later_lines b p x =
    flat_map (round_lines b p x) (range_with_len 0 (length p.steps)) ++ row_line b (codes "finish") (channels_of p x)

-- the trace: the identifiers, the registers before the first round, the lines of each round, and the channels
abbrev pub trace_lines : Base → ProgramTree → List ℕ → List ℕ
trace_lines b p x = row_line b (codes "ring") x ++ (register_lines b p x 0 ++ later_lines b p x)

-- the same from rows: those of the registers after r rounds, from register j on
abbrev pub told_registers : Base → ℕ → ℕ → List (List ℕ) → List ℕ
told_registers b r j [] = []
told_registers b r j (ns ∷ rows) = row_line b (phase r ++ (codes " r" ++ decimal j)) ns
    ++ told_registers b r (j + 1) rows

-- those of round r
abbrev pub told_round : Base → ℕ → RoundRows → List ℕ
told_round b r rows =
    (row_line b (phase r ++ codes " left") rows.left ++ row_line b (phase r ++ codes " right") rows.right)
    ++ told_registers b r 0 rows.registers

-- those of rounds after r others
abbrev pub told_rounds : Base → ℕ → List RoundRows → List ℕ
told_rounds b r [] = []
told_rounds b r (rows ∷ more) = told_round b (r + 1) rows ++ told_rounds b (r + 1) more

-- those of a trace, below its identifiers
abbrev pub told_trace : Base → TraceRows → List ℕ
told_trace b t = told_registers b 0 0 t.start ++ (told_rounds b 0 t.rounds ++ row_line b (codes "finish") t.finish)
