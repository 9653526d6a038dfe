use Rattle.std.proofs.Common.{◌≡◌, ◌+◌, ◌-◌, ◌<◌, [], length, get_or, sym, ◌∙◌, ap, arith}
use Rattle.std.proofs.lemmas.List.Edits.{fill_by_more}
use Rattle.std.proofs.lemmas.List.FromFn.{get_or-map-range_with_len}
use Rattle.lang_check.specs.Plans.{ProgramForIds}
use Rattle.node_program.specs.Node.{channel}
use Rattle.node_program.specs.GlobalRounds.{state, channel_at}
use Rattle.round_eval.specs.Rows.{rows}
use Rattle.border_exchange.specs.Segments.{first_of, places_of}
use Rattle.ring_exec.proofs.gathering.write_part.Goals as goal

pub loop-place-preserved : goal.loop-place-preserved
unfolding channel_at
loop-place-preserved c =
    let s = c.args.segment.now in
    let x = s.ring.places in
    let place = c.loop-place.place in
    let j = place - c.args.first in
    let inside : j < places_of s = omega (arith, c.requires.places.1) in
    let there : first_of s + j ≡ place = omega (arith, c.requires.places.0) in
    let width : c.width_of-width.result ≡ length s.plan.program.start =
    c.width_of-width.ensures.value ∙ sym (ap (λ (q : ProgramForIds). length q.program.start) c.requires.done.0) in
    let row : c.row_at.result.now ≡ state s.plan.program x s.round place =
    sym (c.row_at.ensures.value (places_of s) inside)
    ∙ ap (λ w. get_or (rows w (places_of s) c.states-states.result.now) j []) width
    ∙ ap (λ u. get_or u j []) c.states-states.ensures.value
    ∙ get_or-map-range_with_len (state s.plan.program x s.round) (first_of s) (places_of s) j place [] inside there in
    let made : c.channel.result ≡ channel_at c.args.plan.now.program x place =
    c.channel.ensures.value
    ∙ ap (channel c.args.plan.now.program) row
    ∙ (λ i. channel c.args.plan.now.program (state (c.requires.done.0 i).program x (c.requires.done.1 i) place)) in
    rw made
    (fill_by_more (channel_at c.args.plan.now.program x) c.loop-place.channels place 0 (omega (arith, c.requires.room))
    c.loop-place.invariant)
