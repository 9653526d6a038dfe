use Rattle.std.proofs.Common.{◌≡◌, ℕ, ◌+◌, ◌-◌, ◌*◌, ◌/◌, ◌^◌, ◌<◌, ◌≤◌, length, refl, sym, ◌∙◌, ap, arith}
use Rattle.std.proofs.Math.Nat.{div-le_of_le-mul, div-le_self}
use Rattle.std.proofs.lemmas.List.FromFn.{fill_by_all}
use Rattle.std.proofs.lemmas.Nat.{mul-le}
use Rattle.win_index.specs.declared.limits.TheConstants.{MAX_IDS}
use Rattle.node_program.specs.GlobalRounds.{channel_at}
use Rattle.border_exchange.specs.SegmentPlaces.{first_place}
use Rattle.border_exchange.specs.Segments.{RingSegment, first_of, places_of}
use Rattle.border_exchange.specs.declared.segment.limits.TheConstants.{MAX_SEGMENTS}
use Rattle.ring_exec.proofs.gathering.gather.Goals as goal

pub loop-index-init : goal.loop-index-init
loop-index-init c =
    let cover = c.segments_cover_the_ring.ensures (length c.args.ring.now.places) c.args.segments c.requires.range.some
    c.requires.range.enough in
    record {
      left = omega (arith, c.requires.all);
      first = sym cover.0;
      size = c.requires.room;
      each = λ i lt. absurd (omega arith);
    }

-- the product of which the end of segment k is a quotient
product_fits : (k n : ℕ) → k < MAX_SEGMENTS → n ≤ MAX_IDS → (k + 1) * n < 2 ^ 32
product_fits k n few small = omega (arith, mul-le (k + 1) n MAX_SEGMENTS MAX_IDS (omega (arith, few)) small)

pub overflow_add-end : goal.overflow_add-end
overflow_add-end c = record { fits = omega (arith, c.loop-index-test.true, c.ranges.segments.fits) }

pub overflow_mul-end : goal.overflow_mul-end
overflow_mul-end c =
    record {
      fits = product_fits c.loop-index.index c.len-places.result
          (omega (arith, c.loop-index-test.true, c.requires.range.few)) c.len-places.ensures.few;
    }

pub nonzero_div-end : goal.nonzero_div-end
nonzero_div-end c = c.requires.range.some

pub overflow_cast-first : goal.overflow_cast-first
overflow_cast-first c = record { fits = omega (arith, c.loop-index.auto.first-fits.fits) }

pub overflow_cast-end : goal.overflow_cast-end
overflow_cast-end c =
    let k = c.loop-index.index in
    let n = c.len-places.result in
    let product : (k + 1) * n < 2 ^ 32 =
    product_fits k n (omega (arith, c.loop-index-test.true, c.requires.range.few)) c.len-places.ensures.few in
    record { fits = omega (arith, product, div-le_self ((k + 1) * n) c.args.segments) }

pub write_part-requires-clause-done : goal.write_part-requires-clause-done
write_part-requires-clause-done c =
    let same = c.is_of.ensures.0 c.if-not-is_of.false in (
      ap (λ (s : RingSegment). s.plan) same,
      sym c.round.ensures.value ∙ c.if-round-rounds.false ∙ c.rounds.ensures.value
          ∙ ap (λ (s : RingSegment). length s.plan.program.steps) same,
    )

pub write_part-requires-clause-room : goal.write_part-requires-clause-room
write_part-requires-clause-room c =
    let k = c.loop-index.index in
    let n = c.len-places.result in
    let size : n ≡ length c.loop-index.channels = c.len-places.ensures.value ∙ sym c.loop-index.invariant.size in
    let above : (k + 1) * n ≤ c.args.segments * n =
    mul-le (k + 1) n c.args.segments n (omega (arith, c.loop-index-test.true)) (omega arith) in
    omega (arith, size, div-le_of_le-mul c.args.segments above)

pub write_part-requires-clause-before : goal.write_part-requires-clause-before
write_part-requires-clause-before c =
    let p = c.args.plan.now.program in
    let same = c.is_of.ensures.0 c.if-not-is_of.false in
    λ i lt. c.loop-index.invariant.each i lt ∙ sym (ap (λ (s : RingSegment). channel_at p s.ring.places i) same)

pub write_part-requires-clause-places : goal.write_part-requires-clause-places
unfolding first_place
write_part-requires-clause-places c =
    let n = length c.args.ring.now.places in
    let g = c.args.segments in
    let k = c.loop-index.index in
    let same = c.is_of.ensures.0 c.if-not-is_of.false in
    let end : (k + 1) * c.len-places.result / g ≡ first_place n g (k + 1) = rw c.len-places.ensures.value refl in
    let count : places_of c.in-Some.segment ≡ first_place n g (k + 1) - first_place n g k = ap places_of same in
    let grows = (c.segments_cover_the_ring.ensures n g c.requires.range.some c.requires.range.enough).2 k in (
      c.loop-index.invariant.first ∙ sym (ap first_of same),
      end ∙ (omega (arith, count, grows, c.loop-index.invariant.first)),
    )

pub loop-index-preserved : goal.loop-index-preserved
unfolding first_place
loop-index-preserved c =
    let p = c.args.plan.now.program in
    let same = c.is_of.ensures.0 c.if-not-is_of.false in
    record {
      left = omega (arith, c.in-Some.ensures.cases);
      first = ap (λ n. (c.loop-index.index + 1) * n / c.args.segments) c.len-places.ensures.value;
      size = c.write_part.auto.channels ∙ c.loop-index.invariant.size;
      each = λ i lt. c.write_part.ensures i lt ∙ ap (λ (s : RingSegment). channel_at p s.ring.places i) same;
    }

pub returns-clause-channels : goal.returns-clause-channels
returns-clause-channels c =
    let n = length c.args.ring.now.places in
    let held = c.loop-index.invariant in
    let all : c.loop-index.index ≡ c.args.segments = omega arith in
    let end : c.loop-index.first ≡ n =
    held.first ∙ ap (first_place n c.args.segments) all
    ∙ (c.segments_cover_the_ring.ensures n c.args.segments c.requires.range.some c.requires.range.enough).1 in
    fill_by_all (channel_at c.args.plan.now.program c.args.ring.now.places) c.loop-index.channels n 0 held.size
    (λ i lt. held.each i (omega arith))
