-- The values of a ring's places in global rounds, round by round: rows with a number for each place.
use Rattle.std.specs.Prelude.{ℕ, ◌+◌, List, Vec, map, length, slice_index}
use Rattle.std.specs.List.{range_with_len}
use Rattle.std.specs.declared.alloc.Global.{Global}
use Rattle.node_program.specs.Term.{ProgramTree}
use Rattle.node_program.specs.Node.{to_left, to_right}
use Rattle.node_program.specs.GlobalRounds.{state, channels_of}
use Rattle.value_trees.specs.declared.trace.Trace.{Trace}
use Rattle.value_trees.specs.declared.trace.RoundTrace.{RoundTrace}

-- the messages of each place to its left and to its right in a round, and a row for each register after it
pub record RoundRows : Type 0 where
  pub left : List ℕ
  pub right : List ℕ
  pub registers : List (List ℕ)

-- a row for each register before the first round, the rows of each round, and the channels
pub record TraceRows : Type 0 where
  pub start : List (List ℕ)
  pub rounds : List RoundRows
  pub finish : List ℕ

-- a number for each place of the ring x, from place 0 on
abbrev pub of_places : List ℕ → (ℕ → ℕ) → List ℕ
of_places x number = map number (range_with_len 0 (length x))

-- a row for each register, with its value at each place after r rounds
abbrev pub register_rows : ProgramTree → List ℕ → ℕ → List (List ℕ)
register_rows p x r = map (λ j. of_places x (λ i. slice_index (state p x r i) j)) (range_with_len 0 (length p.start))

-- the round after r others: the messages of each place to its left and to its right, and the registers after it
abbrev pub round_rows : ProgramTree → List ℕ → ℕ → RoundRows
round_rows p x r = record {
  left = of_places x (λ i. to_left p r (state p x r i));
  right = of_places x (λ i. to_right p r (state p x r i));
  registers = register_rows p x (r + 1);
}

-- all rounds, in order
abbrev pub rounds_rows : ProgramTree → List ℕ → List RoundRows
rounds_rows p x = map (round_rows p x) (range_with_len 0 (length p.steps))

-- the trace of the ring x: the registers before the first round, all rounds, and the channels
abbrev pub trace_rows : ProgramTree → List ℕ → TraceRows
trace_rows p x = record { start = register_rows p x 0; rounds = rounds_rows p x; finish = channels_of p x }

-- the rows that the code holds
abbrev pub items_of : List (Vec ℕ Global) → List (List ℕ)
items_of rows = map (λ row. row.items) rows

abbrev pub rows_of_round : RoundTrace → RoundRows
rows_of_round t = record { left = t.left.items; right = t.right.items; registers = items_of t.registers.items }

abbrev pub rows_of : Trace → TraceRows
rows_of t = record {
  start = items_of t.start.items;
  rounds = map rows_of_round t.rounds.items;
  finish = t.finish.items;
}
