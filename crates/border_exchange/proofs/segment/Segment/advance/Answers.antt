use Rattle.std.proofs.Common.{◌≡◌, ◌<◌, ◌+◌, ◌-◌, ◌%◌, length, vec_len, refl, subst, ◌∙◌, ap, sym, arith, rules}
use Rattle.std.proofs.lemmas.List.{with_items_is}
use Rattle.border_exchange.specs.declared.Side.TheVariants.{Rightward, Leftward}
use Rattle.node_program.specs.GlobalRounds.{left_of, right_of}
use Rattle.border_exchange.specs.Messages.{sent_under}
use Rattle.border_exchange.specs.Segments.{RingSegment}
use Rattle.border_exchange.specs.Needs.{in_its_round}
use Rattle.border_exchange.proofs.Stretches.{advance_keeps}
use Rattle.border_exchange.proofs.segment.Segment.advance.Goals as goal

pub invariant_of-self : goal.invariant_of-self
invariant_of-self c =
    let was = c.self.inside in
    let x = was.ring.now.places in
    let places : c.len-places.result ≡ length x = c.len-places.ensures.value in
    let before : (was.first + c.len-places.result - 1) % c.len-places.result ≡ left_of x was.first = rw places refl in
    let some = c.self.invariant.some in
    let last : was.end ≡ was.end - 1 + 1 = omega arith in
    let behind : was.end % c.len-places.result ≡ right_of x (was.end - 1) = rw places (ap (λ i. i % length x) last) in
    let now : RingSegment = record {
      plan = was.plan.now;
      ring = was.ring.now;
      segments = was.segments;
      index = was.index;
      round = was.round;
    } in
    let from_left =
    c.value-from_left.ensures ∙ ap sent_under (c.is_from.ensures.0 c.if-not-is_from.false)
    ∙ ap (λ i. sent_under (in_its_round now i Rightward)) before in
    let from_right =
    c.value-from_right.ensures ∙ ap sent_under (c.is_from-else-not-is_from.ensures.0 c.if-not-is_from-2.false)
    ∙ ap (λ i. sent_under (in_its_round now i Leftward)) behind in
    let made = rw c.deref.ensures.value at c.round_of_row.ensures in
    let size = c.round_of_row.auto.out ∙ c.deref_mut.ensures.len in
    let written = with_items_is was.spare c.round_of_row.new.out size in
    let more = subst (λ (s : RingSegment). s.round < length s.plan.program.steps) (sym c.self.view_is) c.requires in
    rw (c.swap.ensures.x_after, c.swap.ensures.y_after, written)
    (advance_keeps c.stretches_are_rows.ensures now was.first was.end (vec_len was.spare) (vec_len was.states) c.value-from_left.result c.value-from_right.result
    was.states.items c.round_of_row.new.out
    c.self.invariant more (search rules) (size ∙ (search rules)) from_left from_right made)

pub returns-then-not-is_from-clause-exactly : goal.returns-then-not-is_from-clause-exactly
returns-then-not-is_from-clause-exactly c = search rules fits 100

pub returns-clause-exactly : goal.returns-clause-exactly
returns-clause-exactly c = search rules fits 100
