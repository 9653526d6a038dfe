-- The lines of rows are those of a trace.
use Rattle.std.proofs.Common.{◌≡◌, ℕ, zero, suc, ◌+◌, List, ◌++◌, map, length, slice_index, codes, refl, ap}
use Rattle.std.specs.List.{flat_map, range_with_len}
use Rattle.std.specs.Fmt.{decimal}
use Rattle.node_program.specs.Term.{ProgramTree}
use Rattle.node_program.specs.GlobalRounds.{state, channels_of}
use Rattle.numerals.specs.declared.base.Base.{Base}
use Rattle.value_trees.specs.Explanation.{phase}
use Rattle.value_trees.specs.Rows.{of_places, round_rows, trace_rows}
use Rattle.value_trees.specs.Trace.{row_line, register_lines, message_lines, round_lines, later_lines, told_registers}
use Rattle.value_trees.specs.Trace.{told_rounds, told_trace}

registers_told : (b : Base) (r first n : ℕ) (f : ℕ → List ℕ) → told_registers b r first (map f (range_with_len first n))
    ≡ flat_map (λ j. row_line b (phase r ++ (codes " r" ++ decimal j)) (f j)) (range_with_len first n)
registers_told b r first zero f = refl
registers_told b r first (suc n) f =
    ap (λ l. row_line b (phase r ++ (codes " r" ++ decimal first)) (f first) ++ l) (registers_told b r (first + 1) n f)

-- those of the registers after r rounds
held_told : (b : Base) (p : ProgramTree) (x : List ℕ) (r : ℕ)
    → told_registers b r 0 (map (λ j. of_places x (λ i. slice_index (state p x r i) j)) (range_with_len 0 (length p.start)))
    ≡ register_lines b p x r
held_told b p x r = registers_told b r 0 (length p.start) (λ j. of_places x (λ i. slice_index (state p x r i) j))

rounds_told : (b : Base) (p : ProgramTree) (x : List ℕ) (first n : ℕ)
    → told_rounds b first (map (round_rows p x) (range_with_len first n))
    ≡ flat_map (round_lines b p x) (range_with_len first n)
rounds_told b p x first zero = refl
rounds_told b p x first (suc n) =
    λ k. (message_lines b p x first ++ held_told b p x (first + 1) k) ++ rounds_told b p x (first + 1) n k

pub trace_told : (b : Base) (p : ProgramTree) (x : List ℕ)
    → told_trace b (trace_rows p x) ≡ register_lines b p x 0 ++ later_lines b p x
trace_told b p x =
    λ k. held_told b p x 0 k
    ++ (rounds_told b p x 0 (length p.steps) k ++ row_line b (codes "finish") (channels_of p x))
