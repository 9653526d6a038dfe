use Rattle.std.proofs.Common.{◌≡◌, ℕ, List, [], ◌∷◌, ◌+◌, ◌++◌, slice_index, map-id, sym, ap, ◌∙◌, arith}
use Rattle.std.specs.List.{flat_map, range_with_len}
use Rattle.std.proofs.lemmas.List.{flat_map_more}
use Rattle.std.proofs.lemmas.List.FromFn.{map-range_with_len_more}
use Rattle.std.proofs.lemmas.Option.{get_or_from_slice_get}
use Rattle.reports.specs.Bytes.{place_line}
use Rattle.reports.proofs.lines.places_text.Goals as goal

-- One more line was written.
pub loop-place-preserved : goal.loop-place-preserved
loop-place-preserved c =
    let ids = c.args.ring.now.places in
    let n = c.loop-place.place in
    let line : ℕ → List ℕ = λ place. place_line place (slice_index ids place) (slice_index c.args.channels.now place) in
    let id = get_or_from_slice_get ids n c.id.result 0 c.id.ensures in
    let range : range_with_len 0 (n + 1) ≡ range_with_len 0 n ++ n ∷ [] =
    simp map-id at (map-range_with_len_more (λ k. k) 0 n n (omega arith)) in
    c.in_ok-write_place.ensures
    ∙ (λ i. c.loop-place.invariant i ++ place_line n (sym id i) (c.number_at-channel.ensures i))
    ∙ flat_map_more line [] (range_with_len 0 n) n
    ∙ ap (flat_map line) (sym range)
