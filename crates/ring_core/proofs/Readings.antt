-- The accessors of a machine, and its invariant.
use Rattle.std.proofs.Common.{◌≡◌, ℕ, ◌+◌, ◌<◌, suc, List, [], ◌∷◌, map, length, Option, None, Some, IfNone, slice_get}
use Rattle.std.proofs.Common.{slice_index, arith, refl, subst, sym, ◌∙◌, ap}
use Rattle.std.specs.List.{range_with_len}
use Rattle.std.proofs.lemmas.List.FromFn.{length-map-range_with_len, fill_by_all}
use Rattle.border_exchange.specs.declared.Side.{Side}
use Rattle.border_exchange.specs.declared.Side.TheVariants.{Rightward, Leftward}
use Rattle.node_program.specs.GlobalRounds.{state}
use Rattle.round_eval.specs.Rows.{rows}
use Rattle.border_exchange.specs.declared.message.Msg.{Msg}
use Rattle.border_exchange.specs.Messages.{Heading, sent_under}
use Rattle.border_exchange.specs.Headings.{heading_of}
use Rattle.border_exchange.specs.Segments.{RingSegment, first_of, places_of, states_of}
use Rattle.border_exchange.specs.Needs.{to_the_left, to_the_right}
use Rattle.ring_core.specs.Machine.{SegmentState, BorderState, Machine, segment_at, border_at, left_border}
use Rattle.ring_core.specs.Machine.{right_border, segment_after}
use Rattle.ring_core.specs.MachinePromises.{HasGlobalStates, HasGlobalMessages, AreNear, segment_after_rounds}
use Rattle.ring_core.specs.MachinePromises.{sent_at, heading_at}
use Rattle.ring_core.specs.Progress.{Parts, Progress, FitTogether, AreInOrder, part_at, round_at, sent_by, sent_to}
use Rattle.ring_core.specs.Progress.{needed_to, sender_of, came_to, rightward_headings, leftward_headings}
use Rattle.ring_core.specs.Progress.{values_under, machine_of}
use Rattle.ring_core.proofs.Neighbours.{after_inside, before_after}
use Rattle.ring_core.proofs.Views.{value_at, plain, count_is, plain_is, round_is, is_needed, own_rightward}
use Rattle.ring_core.proofs.Views.{own_right_size, came_leftward, came_left_size}

-- the case without a message
pub if_none : {T : Type 0} (o : Option T) (P Q : Type 0) → (P → Q) → IfNone o P → IfNone o Q
if_none None P Q then p = then p
if_none (Some x) P Q then p = tt

-- messages in order have the values of their headings
values_from :
    (heading : ℕ → Heading) (first : ℕ) (messages : List Msg)
    → ((k : ℕ) (m : Msg) → slice_get messages k ≡ Some m → heading_of m ≡ heading (first + k))
    → map (λ m. sent_under (heading_of m)) messages
    ≡ map (λ k. sent_under (heading k)) (range_with_len first (length messages))
values_from heading first [] each = refl
values_from heading first (m ∷ messages) each =
    let here : heading_of m ≡ heading first = each 0 m refl ∙ ap heading (omega arith) in
    let there = values_from heading (first + 1) messages (λ k n is. each (suc k) n is ∙ ap heading (omega arith)) in
    λ i. sent_under (here i) ∷ there i

pub in_order_values :
    (heading : ℕ → Heading) (messages : List Msg) → AreInOrder heading messages
    → map (λ m. sent_under (heading_of m)) messages ≡ values_under heading (length messages)
in_order_values heading messages each =
    values_from heading 0 messages (λ k m is. each k m is ∙ ap heading (omega arith))

-- a segment of a machine has as many places as registers for them
pub places_are : (m : Machine) (s : ℕ) → HasGlobalStates m → s < length m.segments
    → length (segment_at m s).states ≡ places_of (segment_after_rounds m s (segment_at m s).round)
places_are m s global lt =
    let a = segment_after_rounds m s (segment_at m s).round in
    ap length (global s lt) ∙ length-map-range_with_len (state a.plan.program a.ring.places a.round)
    (first_of a) (places_of a)

module _ (v : Parts) (kept : FitTogether v) where
  -- segment s of the machine is segment s of the ring
  pub named_is : (s a b : ℕ) → a ≡ b → segment_after_rounds (machine_of v) s a ≡ plain v kept s b
  named_is s a b e =
      let g = count_is v kept in
      λ i. record { plan = v.plan; ring = v.ring; segments = g i; index = s; round = e i }

  -- as it is now
  pub now_is : (s : ℕ) → s < length v.items
      → segment_after_rounds (machine_of v) s (segment_at (machine_of v) s).round ≡ plain v kept s (round_at v s)
  now_is s lt = named_is s (segment_at (machine_of v) s).round (round_at v s) (round_is v kept s lt)

  states_are : (s : ℕ) → s < length v.items →
      (segment_at (machine_of v) s).states ≡ states_of (plain v kept s (round_at v s))
  states_are s lt = ap (λ (a : SegmentState). a.states) (plain_is v kept s lt)

  pub is_part : (s : ℕ) → s < length (machine_of v).segments → s < length v.items
  is_part s lt = subst (λ g. s < g) (count_is v kept) lt

  pub global_states : HasGlobalStates (machine_of v)
  global_states s below =
      let lt = is_part s below in
      states_are s lt ∙ ap states_of (sym (now_is s lt))

  -- the headings of the messages at a border
  pub right_heading : (b k : ℕ) → b < length v.items
      → rightward_headings (part_at v b).segment k ≡ heading_at (machine_of v) b Rightward k
  right_heading b k lt =
      ap (λ (a : RingSegment). rightward_headings a k) (kept.segments_are b lt)
      ∙ ap to_the_right (sym (named_is b k k refl))

  pub left_heading : (b k : ℕ) → b < length v.items
      → leftward_headings (part_at v (segment_after (length v.items) b)).segment k
      ≡ heading_at (machine_of v) b Leftward k
  left_heading b k lt =
      let s = segment_after (length v.items) b in
      ap (λ (a : RingSegment). leftward_headings a k) (kept.segments_are s (after_inside (length v.items) b kept.some))
      ∙ ap to_the_left (sym (named_is s k k refl))
      ∙ ap (λ g. to_the_left (segment_after_rounds (machine_of v) (segment_after g b) k)) (sym (count_is v kept))

  pub global_messages : HasGlobalMessages (machine_of v)
  global_messages b k Rightward below inside =
      let lt = is_part b below in
      let p = part_at v b in
      let low : k < p.rightward = omega (arith, inside, own_right_size v kept b lt) in
      ap (λ values. slice_index values k) (own_rightward v kept b lt)
      ∙ value_at (rightward_headings p.segment) p.rightward k low ∙ ap sent_under (right_heading b k lt)
  global_messages b k Leftward below inside =
      let lt = is_part b below in
      let p = part_at v (segment_after (length v.items) b) in
      let low : k < p.leftward = omega (arith, inside, came_left_size v kept b lt) in
      ap (λ values. slice_index values k) (came_leftward v kept b lt)
      ∙ value_at (leftward_headings p.segment) p.leftward k low ∙ ap sent_under (left_heading b k lt)

  -- the round of the segment after segment s
  after_round : (s : ℕ)
      → (segment_at (machine_of v) (segment_after (length (machine_of v).segments) s)).round
      ≡ round_at v (segment_after (length v.items) s)
  after_round s =
      ap (λ g. (segment_at (machine_of v) (segment_after g s)).round) (count_is v kept)
      ∙ round_is v kept (segment_after (length v.items) s) (after_inside (length v.items) s kept.some)

  pub near : AreNear (machine_of v)
  near =
      let g = length v.items in
      let step = λ (s : ℕ). kept.left_in_step (segment_after g s) (after_inside g s kept.some) in
      record {
        not_ahead = λ s below.
            let lt = is_part s below in
            let ahead = step s in
            omega (arith, round_is v kept s lt, after_round s, kept.from_right s lt, ahead.high);
        not_behind = λ s below.
            let lt = is_part s below in
            let here = kept.right_in_step s lt in
            let came = kept.from_left (segment_after g s) (after_inside g s kept.some) in
            omega (
              arith,
              round_is v kept s lt,
              after_round s,
              came,
              ap (λ k. (part_at v k).rightward) (before_after g s lt),
              here.high,
            );
      }

  -- what the neighbours of a segment send in a round is what it needs
  pub neighbours_send : (side : Side) (s r : ℕ) → s < length v.items
      → sent_to side (segment_after_rounds (machine_of v) (sender_of (length (machine_of v).segments) s side) r)
      ≡ needed_to side (segment_after_rounds (machine_of v) s r)
  neighbours_send side s r lt =
      ap (λ g. sent_to side (segment_after_rounds (machine_of v) (sender_of g s side) r)) (count_is v kept)
      ∙ ap (sent_to side) (named_is (sender_of (length v.items) s side) r r refl)
      ∙ is_needed v kept side s r lt
      ∙ ap (needed_to side) (sym (named_is s r r refl))

-- the left border of the next segment is the right border of a segment
pub same_border : (m : Machine) (s : ℕ) → s < length m.segments →
    left_border m (segment_after (length m.segments) s) ≡ right_border m s
same_border m s lt = ap (border_at m) (before_after (length m.segments) s lt)

-- what came to segment s is what its neighbour, part b, has sent
pub came_is :
    (side : Side) (m : Machine) (s b : ℕ) (p : Progress) → s < length m.segments
    → b ≡ sender_of (length m.segments) s side
    → p.rightward ≡ length (right_border m b).rightward → p.leftward ≡ length (left_border m b).leftward
    → sent_by p side ≡ came_to m s side
came_is Rightward m s b p lt is rightward leftward = rightward ∙ ap (λ k. length (right_border m k).rightward) is
came_is Leftward m s b p lt is rightward leftward =
    leftward ∙ ap (λ k. length (left_border m k).leftward) is
    ∙ ap (λ (border : BorderState). length border.leftward) (same_border m s lt)

-- the registers that a segment lends are those of the machine
pub rows_are :
    (m : Machine) (s : ℕ) (a : RingSegment) (cells : List ℕ) → HasGlobalStates m → s < length m.segments
    → a ≡ segment_after_rounds m s (segment_at m s).round
    → rows (length a.plan.program.start) (places_of a) cells ≡ states_of a
    → rows (length m.plan.program.start) (length (segment_at m s).states) cells ≡ (segment_at m s).states
rows_are m s a cells global lt is held =
    ap (λ n. rows (length m.plan.program.start) n cells) (places_are m s global lt)
    ∙ subst (λ (b : RingSegment). rows (length b.plan.program.start) (places_of b) cells ≡ states_of b) is held
    ∙ sym (global s lt)

-- messages in order have the values at their border
pub values_are :
    (m : Machine) (b : ℕ) (side : Side) (messages : List Msg) → HasGlobalMessages m → b < length m.segments
    → length messages ≡ length (sent_at m b side) → AreInOrder (heading_at m b side) messages
    → map (λ m. sent_under (heading_of m)) messages ≡ sent_at m b side
values_are m b side messages global lt size each =
    in_order_values (heading_at m b side) messages each
    ∙ sym (fill_by_all (λ k. sent_under (heading_at m b side k)) (sent_at m b side) (length messages) 0 (sym size)
    (λ k below. global b k side lt (rw (← size) below)))
