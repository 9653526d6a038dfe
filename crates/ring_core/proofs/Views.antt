-- The machine of parts: each segment, and each border.
use Rattle.std.proofs.Common.{◌≡◌, ℕ, ◌+◌, ◌-◌, ◌<◌, ◌≤◌, [], length, get_or, arith, ◌∙◌, ap}
use Rattle.std.proofs.lemmas.List.{get_or-map, length-map}
use Rattle.std.proofs.lemmas.List.FromFn.{length-map-range_with_len, get_or-map-range_with_len}
use Rattle.border_exchange.specs.declared.Side.{Side}
use Rattle.border_exchange.specs.declared.Side.TheVariants.{Rightward, Leftward}
use Rattle.node_program.specs.Node.{to_left, to_right}
use Rattle.node_program.specs.Term.{ProgramTree}
use Rattle.node_program.specs.GlobalRounds.{right_of, state}
use Rattle.border_exchange.specs.Messages.{Heading, sent_under}
use Rattle.border_exchange.specs.SegmentPlaces.{first_place}
use Rattle.border_exchange.specs.Segments.{RingSegment, first_of, places_of, states_of}
use Rattle.border_exchange.specs.Needs.{in_its_round}
use Rattle.ring_core.specs.Machine.{SegmentState, BorderState, no_places, no_messages, segment_at, border_at}
use Rattle.ring_core.specs.Machine.{left_border, right_border, border_before, segment_after, first_state, last_state}
use Rattle.ring_core.specs.Progress.{Progress, Parts, FitTogether, no_part, part_at, round_at, sent_to, needed_to}
use Rattle.ring_core.specs.Progress.{sender_of, rightward_headings, leftward_headings, headings_of, segment_state}
use Rattle.ring_core.specs.Progress.{values_under, rightward_values, leftward_values, border_state, machine_of}
use Rattle.border_exchange.proofs.Places.{first_place-grows, first_place-inside}
use Rattle.ring_core.proofs.Neighbours.{before_inside, sender_inside, after_before, left_end, right_end}

-- the values of these headings
pub values_size : (heading : ℕ → Heading) (count : ℕ) → length (values_under heading count) ≡ count
values_size heading count = length-map-range_with_len (λ k. sent_under (heading k)) 0 count

pub value_at :
    (heading : ℕ → Heading) (count k : ℕ) → k < count → get_or (values_under heading count) k 0 ≡ sent_under (heading k)
value_at heading count k lt = get_or-map-range_with_len (λ j. sent_under (heading j)) 0 count k k 0 lt (omega arith)

-- the message of a segment's end to a side
abbrev pub message_of : ProgramTree → Side → SegmentState → ℕ
message_of p Rightward a = to_right p a.round (last_state a)
message_of p Leftward a = to_left p a.round (first_state a)

pub message_is :
    (side : Side) (a : RingSegment) → 0 < places_of a
    → message_of a.plan.program side (segment_state a) ≡ sent_under (headings_of a side a.round)
message_is Rightward a some =
    let n = places_of a in
    let f = state a.plan.program a.ring.places a.round in
    ap (to_right a.plan.program a.round)
    (ap (λ k. get_or (states_of a) (k - 1) []) (length-map-range_with_len f (first_of a) n)
    ∙ get_or-map-range_with_len f (first_of a) n (n - 1) (first_of a + n - 1) [] (omega arith) (omega arith))
message_is Leftward a some =
    ap (to_left a.plan.program a.round)
    (get_or-map-range_with_len (state a.plan.program a.ring.places a.round) (first_of a) (places_of a) 0 (first_of a) []
    some (omega arith))

module _ (v : Parts) (kept : FitTogether v) where
  -- segment s of the ring, after r rounds
  abbrev pub plain : ℕ → ℕ → RingSegment
  plain s r = record { plan = v.plan; ring = v.ring; segments = length v.items; index = s; round = r }

  pub some_places : (s r : ℕ) → 0 < places_of (plain s r)
  some_places s r =
      let up = first_place-grows (length v.ring.places) (length v.items) s kept.some kept.few in
      omega arith

  pub inside_ring : (s r : ℕ) → s < length v.items → first_of (plain s r) + places_of (plain s r) ≤ length v.ring.places
  inside_ring s r lt =
      let up = first_place-grows (length v.ring.places) (length v.items) s kept.some kept.few in
      let end = first_place-inside (length v.ring.places) (length v.items) (s + 1) (omega arith) in
      omega arith

  -- what a segment's neighbours send in a round is what it needs
  pub is_needed : (side : Side) (s r : ℕ) → s < length v.items
      → sent_to side (plain (sender_of (length v.items) s side) r) ≡ needed_to side (plain s r)
  is_needed Rightward s r lt =
      let g = length v.items in
      let b = border_before g s in
      let up = first_place-grows (length v.ring.places) g b kept.some kept.few in
      let end : first_of (plain b r) + places_of (plain b r) - 1 ≡ first_place (length v.ring.places) g (b + 1) - 1 =
      omega arith in
      ap (λ i. in_its_round (plain s r) i Rightward) (end ∙ left_end v.ring.places g s lt kept.few)
  is_needed Leftward s r lt =
      let g = length v.items in
      let up = first_place-grows (length v.ring.places) g s kept.some kept.few in
      let end : first_place (length v.ring.places) g (s + 1) - 1 ≡ first_of (plain s r) + places_of (plain s r) - 1 =
      omega arith in
      ap (λ i. in_its_round (plain s r) i Leftward)
      (right_end v.ring.places g s lt kept.few ∙ ap (right_of v.ring.places) end)

  -- so are the messages of its neighbours' parts
  pub part_needed : (side : Side) (s r : ℕ) → s < length v.items
      → headings_of (part_at v (sender_of (length v.items) s side)).segment side r ≡ needed_to side (plain s r)
  part_needed side s r lt =
      let b = sender_of (length v.items) s side in
      ap (λ (a : RingSegment). headings_of a side r)
      (kept.segments_are b (sender_inside (length v.items) s side kept.some))
      ∙ is_needed side s r lt

  -- segments and borders of the machine
  pub count_is : length (machine_of v).segments ≡ length v.items
  count_is = length-map v.items (λ p. segment_state p.segment)

  pub segment_is : (s : ℕ) → s < length v.items → segment_at (machine_of v) s ≡ segment_state (part_at v s).segment
  segment_is s lt = get_or-map (λ (p : Progress). segment_state p.segment) v.items s no_part no_places lt

  pub plain_is : (s : ℕ) → s < length v.items → segment_at (machine_of v) s ≡ segment_state (plain s (round_at v s))
  plain_is s lt = segment_is s lt ∙ ap segment_state (kept.segments_are s lt)

  pub round_is : (s : ℕ) → s < length v.items → (segment_at (machine_of v) s).round ≡ round_at v s
  round_is s lt = ap (λ (a : SegmentState). a.round) (segment_is s lt)

  pub border_is : (b : ℕ) → b < length v.items → border_at (machine_of v) b ≡ border_state v b
  border_is b lt = get_or-map-range_with_len (border_state v) 0 (length v.items) b b no_messages lt (omega arith)

  pub left_border_is : (s : ℕ) → s < length v.items →
      left_border (machine_of v) s ≡ border_state v (border_before (length v.items) s)
  left_border_is s lt =
      ap (λ g. border_at (machine_of v) (border_before g s)) count_is
      ∙ border_is (border_before (length v.items) s) (before_inside (length v.items) s kept.some)

  -- the leftward list of the border before a part is what the part has sent
  pub own_leftward : (s : ℕ) → s < length v.items →
      (left_border (machine_of v) s).leftward ≡ leftward_values (part_at v s)
  own_leftward s lt =
      ap (λ (b : BorderState). b.leftward) (left_border_is s lt)
      ∙ ap (λ k. leftward_values (part_at v k)) (after_before (length v.items) s lt)

  pub own_rightward : (s : ℕ) → s < length v.items →
      (right_border (machine_of v) s).rightward ≡ rightward_values (part_at v s)
  own_rightward s lt = ap (λ (b : BorderState). b.rightward) (border_is s lt)

  -- the messages that came to a part
  pub came_rightward : (s : ℕ) → s < length v.items
      → (left_border (machine_of v) s).rightward ≡ rightward_values (part_at v (border_before (length v.items) s))
  came_rightward s lt = ap (λ (b : BorderState). b.rightward) (left_border_is s lt)

  pub came_leftward : (s : ℕ) → s < length v.items
      → (right_border (machine_of v) s).leftward ≡ leftward_values (part_at v (segment_after (length v.items) s))
  came_leftward s lt = ap (λ (b : BorderState). b.leftward) (border_is s lt)

  -- their number
  pub own_right_size : (s : ℕ) → s < length v.items →
      length (right_border (machine_of v) s).rightward ≡ (part_at v s).rightward
  own_right_size s lt =
      ap length (own_rightward s lt) ∙ values_size (rightward_headings (part_at v s).segment) (part_at v s).rightward

  pub own_left_size : (s : ℕ) → s < length v.items →
      length (left_border (machine_of v) s).leftward ≡ (part_at v s).leftward
  own_left_size s lt =
      ap length (own_leftward s lt) ∙ values_size (leftward_headings (part_at v s).segment) (part_at v s).leftward

  pub came_right_size : (s : ℕ) → s < length v.items
      → length (left_border (machine_of v) s).rightward ≡ (part_at v (border_before (length v.items) s)).rightward
  came_right_size s lt =
      let p = part_at v (border_before (length v.items) s) in
      ap length (came_rightward s lt) ∙ values_size (rightward_headings p.segment) p.rightward

  pub came_left_size : (s : ℕ) → s < length v.items
      → length (right_border (machine_of v) s).leftward ≡ (part_at v (segment_after (length v.items) s)).leftward
  came_left_size s lt =
      let p = part_at v (segment_after (length v.items) s) in
      ap length (came_leftward s lt) ∙ values_size (leftward_headings p.segment) p.leftward
