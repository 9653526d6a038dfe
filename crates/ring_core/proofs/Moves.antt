-- The effect of an enabled event on the parts is its effect on their machine.
use Rattle.std.proofs.Common.{◌≡◌, ◌≢◌, ℕ, ◌+◌, ◌<◌, List, [], ◌∷◌, ◌++◌, map, length, get_or, arith, sym, ◌∙◌, ap}
use Rattle.std.specs.List.{range_with_len}
use Rattle.std.proofs.Math.ListN.{set}
use Rattle.std.proofs.Math.Seq.{map-set_same}
use Rattle.std.proofs.lemmas.List.{get_or-set_same, get_or-set_other, map-set, length-set}
use Rattle.std.proofs.lemmas.List.FromFn.{map-range_with_len_more}
use Rattle.border_exchange.specs.declared.Side.{Side}
use Rattle.border_exchange.specs.declared.Side.TheVariants.{Rightward, Leftward}
use Rattle.round_eval.specs.Rows.{row_after}
use Rattle.round_eval.specs.Laws.{StretchesAreRows}
use Rattle.border_exchange.specs.Messages.{Heading, sent_under}
use Rattle.border_exchange.specs.Segments.{RingSegment, first_of, places_of, states_of}
use Rattle.border_exchange.specs.Needs.{from_left, from_right}
use Rattle.ring_core.specs.Machine.{SegmentState, BorderState, no_messages, segment_at, left_border, right_border}
use Rattle.ring_core.specs.Machine.{border_before, segment_after, sent_right, sent_left, advanced}
use Rattle.ring_core.specs.Progress.{Progress, Parts, FitTogether, no_part, part_at, round_at, at_round}
use Rattle.ring_core.specs.Progress.{rightward_headings, leftward_headings, headings_of, sent_by, after_sending}
use Rattle.ring_core.specs.Progress.{segment_state, values_under, rightward_values, leftward_values, machine_of}
use Rattle.ring_core.proofs.Fits.{MayAdvance}
use Rattle.ring_core.proofs.Neighbours.{before_inside, after_before, before_after}
use Rattle.ring_core.proofs.Updates.{set_unseen, set_made}
use Rattle.ring_core.proofs.Views.{value_at, message_of, message_is, plain, some_places, inside_ring, part_needed}
use Rattle.ring_core.proofs.Views.{count_is, plain_is, own_leftward, own_rightward, came_rightward, came_leftward}

-- one value more
more_values :
    (heading : ℕ → Heading) (count : ℕ) →
    values_under heading (count + 1) ≡ values_under heading count ++ sent_under (heading count) ∷ []
more_values heading count = map-range_with_len_more (λ k. sent_under (heading k)) 0 count count (omega arith)

-- the values of a part's messages to a side, and those after one more
abbrev values_to : Side → Progress → List ℕ
values_to side p = values_under (headings_of p.segment side) (sent_by p side)

values_after : (side : Side) (p : Progress) → values_to side (after_sending p side)
    ≡ values_to side p ++ sent_under (headings_of p.segment side (sent_by p side)) ∷ []
values_after Rightward p = more_values (rightward_headings p.segment) p.rightward
values_after Leftward p = more_values (leftward_headings p.segment) p.leftward

-- border b between g parts
abbrev border_of : List Progress → ℕ → ℕ → BorderState
border_of items g b =
    record {
      rightward = rightward_values (get_or items b no_part);
      leftward = leftward_values (get_or items (segment_after g b) no_part);
    }

abbrev borders_of : List Progress → ℕ → List BorderState
borders_of items g = map (border_of items g) (range_with_len 0 g)

module _ (v : Parts) (kept : FitTogether v) (s : ℕ) (lt : s < length v.items) (new : Progress) where
  abbrev replaced : Parts
  replaced = record v { items = set v.items s new }

  borders_are : (machine_of replaced).borders ≡ borders_of (set v.items s new) (length v.items)
  borders_are = ap (borders_of (set v.items s new)) (length-set v.items s new)

  -- the values of a list of messages are unchanged at each part, if new has the same list
  same_right : rightward_values new ≡ rightward_values (part_at v s) → (k : ℕ)
      → rightward_values (part_at v k) ≡ rightward_values (part_at replaced k)
  same_right same = set_unseen rightward_values v.items s new no_part lt same

  same_left : leftward_values new ≡ leftward_values (part_at v s) → (k : ℕ)
      → leftward_values (part_at v k) ≡ leftward_values (part_at replaced k)
  same_left same = set_unseen leftward_values v.items s new no_part lt same

  -- the message of segment s to a side in its round
  abbrev message : Side → ℕ
  message side = message_of v.plan.program side (segment_at (machine_of v) s)

  sends : (side : Side) → sent_by (part_at v s) side ≡ round_at v s
      → message side ≡ sent_under (headings_of (part_at v s).segment side (sent_by (part_at v s) side))
  sends side now =
      ap (message_of v.plan.program side) (plain_is v kept s lt)
      ∙ message_is side (plain v kept s (round_at v s)) (some_places v kept s (round_at v s))
      ∙ ap (λ (b : RingSegment). sent_under (headings_of b side (round_at v s))) (sym (kept.segments_are s lt))
      ∙ ap (λ k. sent_under (headings_of (part_at v s).segment side k)) (sym now)

  one_more : (side : Side) (here : List ℕ) → sent_by (part_at v s) side ≡ round_at v s
      → new ≡ after_sending (part_at v s) side → here ≡ values_to side (part_at v s)
      → here ++ message side ∷ [] ≡ values_to side (part_at replaced s)
  one_more side here now is own =
      ap (λ values. values ++ message side ∷ []) own
      ∙ ap (λ k. values_to side (part_at v s) ++ k ∷ []) (sends side now)
      ∙ sym (values_after side (part_at v s))
      ∙ ap (values_to side) (sym is ∙ sym (get_or-set_same v.items s new no_part lt))

  pub right_moves : (part_at v s).rightward ≡ round_at v s
      → new ≡ record (part_at v s) { rightward = (part_at v s).rightward + 1 }
      → machine_of replaced ≡ sent_right (machine_of v) s
  right_moves now is =
      let g = length v.items in
      let here : BorderState = right_border (machine_of v) s in
      let rightward : here.rightward ++ message Rightward ∷ [] ≡ rightward_values (part_at replaced s) =
      one_more Rightward here.rightward now is (own_rightward v kept s lt) in
      let leftward : here.leftward ≡ leftward_values (part_at replaced (segment_after g s)) =
      came_leftward v kept s lt ∙ same_left (ap leftward_values is) (segment_after g s) in
      let borders = set_made (border_of v.items g) (border_of (set v.items s new) g) g s
      (record { rightward = here.rightward ++ message Rightward ∷ []; leftward = here.leftward }) no_messages lt
      (λ i. record { rightward = rightward i; leftward = leftward i })
      (λ k ne below. let other = ap rightward_values (sym (get_or-set_other v.items s k new no_part ne)) in
      let left = same_left (ap leftward_values is) (segment_after g k) in
      λ i. record { rightward = other i; leftward = left i }) in
      let segments = map-set_same (λ (q : Progress). segment_state q.segment) v.items s new no_part
      (ap (λ (q : Progress). segment_state q.segment) is) in
      let all = borders_are ∙ sym borders in
      λ i. record { plan = v.plan; ring = v.ring; segments = segments i; borders = all i }

  pub left_moves : (part_at v s).leftward ≡ round_at v s
      → new ≡ record (part_at v s) { leftward = (part_at v s).leftward + 1 }
      → machine_of replaced ≡ sent_left (machine_of v) s
  left_moves now is =
      let g = length v.items in
      let b = border_before g s in
      let m = machine_of v in
      let here : BorderState = left_border m s in
      let leftward : here.leftward ++ message Leftward ∷ [] ≡ leftward_values (part_at replaced (segment_after g b)) =
      one_more Leftward here.leftward now is (own_leftward v kept s lt)
      ∙ ap (λ k. leftward_values (part_at replaced k)) (sym (after_before g s lt)) in
      let rightward : here.rightward ≡ rightward_values (part_at replaced b) =
      came_rightward v kept s lt ∙ same_right (ap rightward_values is) b in
      let sent : BorderState =
      record { rightward = here.rightward; leftward = here.leftward ++ message Leftward ∷ [] } in
      let borders = set_made (border_of v.items g) (border_of (set v.items s new) g) g b sent no_messages
      (before_inside g s kept.some)
      (λ i. record { rightward = rightward i; leftward = leftward i })
      (λ k ne below.
      let not_there : segment_after g k ≢ s = λ same. ne (sym (before_after g k below) ∙ ap (border_before g) same) in
      let other = ap leftward_values (sym (get_or-set_other v.items s (segment_after g k) new no_part not_there)) in
      let right = same_right (ap rightward_values is) k in
      λ i. record { rightward = right i; leftward = other i }) in
      let segments = map-set_same (λ (q : Progress). segment_state q.segment) v.items s new no_part
      (ap (λ (q : Progress). segment_state q.segment) is) in
      let all = borders_are ∙ sym borders ∙ ap (λ n. set m.borders (border_before n s) sent) (sym (count_is v kept)) in
      λ i. record { plan = v.plan; ring = v.ring; segments = segments i; borders = all i }

  pub advance_moves : StretchesAreRows → MayAdvance v s
      → new ≡ record (part_at v s) { segment = at_round (part_at v s).segment (round_at v s + 1) }
      → machine_of replaced ≡ advanced (machine_of v) s
  advance_moves law may is =
      let g = length v.items in
      let m = machine_of v in
      let r = round_at v s in
      let x = v.ring.places in
      let a = plain v kept s r in
      let here : SegmentState = segment_at m s in
      let before = part_at v (border_before g s) in
      let after = part_at v (segment_after g s) in
      let at : here ≡ segment_state a = plain_is v kept s lt in
      let left : get_or (left_border m s).rightward here.round 0 ≡ sent_under (from_left a) =
      ap (λ (b : SegmentState). get_or (left_border m s).rightward b.round 0) at
      ∙ ap (λ values. get_or values r 0) (came_rightward v kept s lt)
      ∙ value_at (rightward_headings before.segment) before.rightward r may.left_came
      ∙ ap sent_under (part_needed v kept Rightward s r lt) in
      let right : get_or (right_border m s).leftward here.round 0 ≡ sent_under (from_right a) =
      ap (λ (b : SegmentState). get_or (right_border m s).leftward b.round 0) at
      ∙ ap (λ values. get_or values r 0) (came_leftward v kept s lt)
      ∙ value_at (leftward_headings after.segment) after.leftward r may.right_came
      ∙ ap sent_under (part_needed v kept Leftward s r lt) in
      let next = law v.plan.program x r (first_of a) (places_of a) (inside_ring v kept s r lt) in
      let row : row_after v.plan.program here.round (get_or (left_border m s).rightward here.round 0) here.states
      (get_or (right_border m s).leftward here.round 0)
      ≡ states_of (plain v kept s (r + 1)) =
      (λ i. row_after v.plan.program (at i).round (left i) (at i).states (right i)) ∙ sym next in
      let segment : new.segment ≡ plain v kept s (r + 1) =
      ap (λ (q : Progress). q.segment) is ∙ ap (λ (b : RingSegment). at_round b (r + 1)) (kept.segments_are s lt) in
      let stepped : segment_state new.segment
      ≡ record {
        round = here.round + 1;
        states = row_after v.plan.program here.round (get_or (left_border m s).rightward here.round 0)
            here.states (get_or (right_border m s).leftward here.round 0);
      } =
      ap segment_state segment ∙ sym (λ i. record { round = (at i).round + 1; states = row i }) in
      let state_of = λ (q : Progress). segment_state q.segment in
      let segments = map-set state_of v.items s new ∙ ap (set (map state_of v.items) s) stepped in
      let rights = same_right (ap rightward_values is) in
      let lefts = same_left (ap leftward_values is) in
      let borders : borders_of v.items g ≡ borders_of (set v.items s new) g =
      λ i. map (λ b. record { rightward = rights b i; leftward = lefts (segment_after g b) i }) (range_with_len 0 g) in
      let all = borders_are ∙ sym borders in
      λ i. record { plan = v.plan; ring = v.ring; segments = segments i; borders = all i }
