use Rattle.std.proofs.Common.{◌≡◌, ◌+◌, ◌-◌, ◌*◌, ◌/◌, ◌≤◌, ◌<◌, length, map, refl, ◌∙◌, arith, rules}
use Rattle.std.specs.List.{slice_range}
use Rattle.std.proofs.lemmas.List.{with_items_is, length-take, length-drop}
use Rattle.node_program.specs.Node.{start}
use Rattle.round_eval.specs.Rows.{rows}
use Rattle.border_exchange.specs.SegmentPlaces.{first_place}
use Rattle.border_exchange.proofs.Places.{first_place-grows, first_place-inside}
use Rattle.border_exchange.proofs.Stretches.{start_stretch}
use Rattle.border_exchange.proofs.segment.Segment.new.Goals as goal

pub invariant_of-result : goal.invariant_of-result
unfolding first_place
invariant_of-result c =
    let p = c.args.plan.now.program in
    let x = c.args.ring.now.places in
    let g = c.args.segments in
    let s = c.args.index in
    let places : c.len-places.result ≡ length x = c.len-places.ensures.value in
    let enough : g ≤ length x = c.requires.segments in
    let first = s * c.len-places.result / g in
    let end = (s + 1) * c.len-places.result / g in
    let first_is : first ≡ first_place (length x) g s = rw places refl in
    let end_is : end ≡ first_place (length x) g (s + 1) = rw places refl in
    let some : first < end =
    rw (first_is, end_is) (first_place-grows (length x) g s (omega (arith, c.requires.index)) enough) in
    let inside : end ≤ length x =
    rw end_is (first_place-inside (length x) g (s + 1) (omega (arith, c.requires.index))) in
    let long : length (slice_range x first end) ≡ end - first = simp (length-take, length-drop) (omega arith) in
    let written =
    with_items_is c.in_ok-states.states c.start_of_row.new.states
    (c.start_of_row.auto.states ∙ c.deref_mut.ensures.len) in
    let started : rows (length p.start) (end - first) c.start_of_row.new.states
    ≡ map (start p) (slice_range x first end) =
    rw (c.ids-ids.ensures.value, long) at c.start_of_row.ensures in
    record {
      shape = c.requires.shape;
      few_segments = enough;
      index = c.requires.index;
      round = omega arith;
      first_is = first_is;
      end_is = end_is;
      some = some;
      inside = inside;
      size = rw written (search rules);
      spare_size = rw written (search rules);
      rows_are = rw written (started ∙ start_stretch p x first end (omega arith) inside);
    }

pub returns : goal.returns
returns c = search rules
