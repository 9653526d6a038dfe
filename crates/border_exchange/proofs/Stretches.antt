-- Stretches of places: before the first round, at one place, and one round later.
use Rattle.std.proofs.Common.{◌≡◌, ℕ, ◌+◌, ◌-◌, ◌<◌, ◌≤◌, List, [], length, get_or, map, drop, arith, refl, sym}
use Rattle.std.proofs.Common.{◌∙◌, ap}
use Rattle.std.specs.List.{slice_range}
use Rattle.std.proofs.lemmas.List.{ext_get_or, get_or-map, get_or-take, get_or-drop, length-map}
use Rattle.std.proofs.lemmas.List.{length-take, length-drop}
use Rattle.std.proofs.lemmas.List.FromFn.{length-map-range_with_len, get_or-map-range_with_len}
use Rattle.node_program.specs.Term.{ProgramTree}
use Rattle.node_program.specs.Node.{start, to_left, to_right}
use Rattle.node_program.specs.GlobalRounds.{left_of, right_of, state}
use Rattle.round_eval.specs.Rows.{rows, row_after, stretch}
use Rattle.round_eval.specs.Laws.{StretchesAreRows}
use Rattle.border_exchange.specs.Segments.{RingSegment, KeepsSegment}

-- the start registers of a range of places are their registers before the first round
pub start_stretch :
    (p : ProgramTree) (x : List ℕ) (first end : ℕ) → first ≤ end → end ≤ length x
    → map (start p) (slice_range x first end) ≡ stretch p x 0 first (end - first)
start_stretch p x first end le inside =
    let long : length (slice_range x first end) ≡ end - first = simp (length-take, length-drop) (omega arith) in
    let size = length-map (slice_range x first end) (start p) ∙ long in
    ext_get_or [] _ _ (size ∙ sym (length-map-range_with_len (state p x 0) first (end - first)))
    (λ i lt.
    let small : i < end - first = rw (← size) lt in
    get_or-map (start p) (slice_range x first end) i 0 [] (rw long small)
    ∙ ap (start p) (get_or-take (end - first) (drop first x) i 0 small ∙ get_or-drop first x i 0)
    ∙ sym (get_or-map-range_with_len (state p x 0) first (end - first) i (first + i) [] small refl))

-- a row of a stretch holds the registers of its place
pub row_of_stretch :
    (p : ProgramTree) (x : List ℕ) (r first count j i : ℕ) (held : List (List ℕ)) (own : List ℕ)
    → held ≡ stretch p x r first count
    → j < count → first + j ≡ i → get_or held j [] ≡ own → own ≡ state p x r i
row_of_stretch p x r first count j i held own is lt place row =
    sym row ∙ ap (λ u. get_or u j []) is ∙ get_or-map-range_with_len (state p x r) first count j i [] lt place

-- a segment stays right through a round with the messages that it needs
pub advance_keeps :
    StretchesAreRows → (s : RingSegment) (first end spare used left right : ℕ) (cells after : List ℕ)
    → KeepsSegment s first end spare cells
    → s.round < length s.plan.program.steps → used ≡ length cells → length after ≡ length cells
    → left ≡ to_right s.plan.program s.round (state s.plan.program s.ring.places s.round (left_of s.ring.places first))
    → right ≡ to_left s.plan.program s.round
    (state s.plan.program s.ring.places s.round (right_of s.ring.places (end - 1)))
    → rows (length s.plan.program.start) (end - first) after
    ≡ row_after s.plan.program s.round left (rows (length s.plan.program.start) (end - first) cells) right
    → KeepsSegment (record s { round = s.round + 1 }) first end used after
advance_keeps law s first end spare used left right cells after kept more used_is size from_left from_right made =
    let p = s.plan.program in
    let x = s.ring.places in
    let some = kept.some in
    let inside = kept.inside in
    let last : end - 1 ≡ first + (end - first) - 1 = omega arith in
    let to_last = from_right ∙ ap (λ i. to_left p s.round (state p x s.round (right_of x i))) last in
    let next = law p x s.round first (end - first) (omega arith) in
    record {
      shape = kept.shape;
      few_segments = kept.few_segments;
      index = kept.index;
      round = omega arith;
      first_is = kept.first_is;
      end_is = kept.end_is;
      some = some;
      inside = inside;
      size = size ∙ kept.size;
      spare_size = used_is ∙ sym size;
      rows_are =
          made
          ∙ (λ i. row_after p s.round (from_left i) (kept.rows_are i) (to_last i))
          ∙ sym next;
    }
