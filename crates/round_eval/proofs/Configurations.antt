-- The rows of a configuration: before the first round, at one place, and one round later.
use Rattle.std.proofs.Common.{◌≡◌, ℕ, ◌+◌, ◌-◌, ◌%◌, ◌<◌, List, [], length, get_or, map, arith, sym, ◌∙◌, ap}
use Rattle.std.proofs.Math.Nat.{add-mod_left, mod-eq_of_lt}
use Rattle.std.proofs.lemmas.List.{length-map, get_or-map}
use Rattle.std.proofs.lemmas.List.FromFn.{fill_by_all, get_or-map-range_with_len}
use Rattle.node_program.specs.Term.{ProgramTree}
use Rattle.node_program.specs.Node.{start, to_left, to_right}
use Rattle.node_program.specs.GlobalRounds.{left_of, right_of, state}
use Rattle.round_eval.specs.Rows.{row_after, rows, stretch}
use Rattle.round_eval.specs.Laws.{StretchesAreRows}
use Rattle.round_eval.specs.Configuration.{RingConfiguration, KeepsConfiguration}

-- the starts of all places are their registers before the first round
pub started : (p : ProgramTree) (x : List ℕ) → map (start p) x ≡ stretch p x 0 0 (length x)
started p x = fill_by_all (state p x 0) (map (start p) x) (length x) [] (length-map x (start p))
    (λ i lt. get_or-map (start p) x i 0 [] lt)

-- the row of a place is its registers
pub row_of_place : (c : RingConfiguration) (cells : List ℕ) (spare i : ℕ) (own : List ℕ)
    → KeepsConfiguration c cells spare → i < length c.places
    → get_or (rows (length c.program.start) (length c.places) cells) i [] ≡ own
    → own ≡ state c.program c.places c.round i
row_of_place c cells spare i own kept lt row =
    sym row ∙ ap (λ u. get_or u i []) kept.rows_are
    ∙ get_or-map-range_with_len (state c.program c.places c.round) 0 (length c.places) i i [] lt (omega arith)

-- a round keeps the invariant, by the message of the last place to the right and of the first place to the left
pub advance_keeps :
    StretchesAreRows → (c : RingConfiguration) (cells after : List ℕ) (spare used left right : ℕ)
    → KeepsConfiguration c cells spare
    → c.round < length c.program.steps → 0 < length c.places → used ≡ length cells → length after ≡ length cells
    → left ≡ to_right c.program c.round (state c.program c.places c.round (length c.places - 1))
    → right ≡ to_left c.program c.round (state c.program c.places c.round 0)
    → rows (length c.program.start) (length c.places) after
    ≡ row_after c.program c.round left (rows (length c.program.start) (length c.places) cells) right
    → KeepsConfiguration (record c { round = c.round + 1 }) after used
advance_keeps law c cells after spare used left right kept more some used_is size from_last from_first made =
    let p = c.program in
    let x = c.places in
    let n = length x in
    let small : 0 + n - 1 < n = omega arith in
    let last : n - 1 ≡ left_of x 0 = sym (mod-eq_of_lt small ∙ (omega arith)) in
    let around : 0 + n - 1 + 1 ≡ n + 0 = omega arith in
    let first : 0 ≡ right_of x (0 + n - 1) = sym (ap (λ k. k % n) around ∙ add-mod_left n 0 ∙ mod-eq_of_lt some) in
    let from_left = from_last ∙ ap (λ i. to_right p c.round (state p x c.round i)) last in
    let from_right = from_first ∙ ap (λ i. to_left p c.round (state p x c.round i)) first in
    record {
      round = omega arith;
      size = size ∙ kept.size;
      spare_size = used_is ∙ sym size;
      rows_are = made ∙ (λ i. row_after p c.round (from_left i) (kept.rows_are i) (from_right i))
          ∙ sym (law p x c.round 0 n (omega arith));
    }
