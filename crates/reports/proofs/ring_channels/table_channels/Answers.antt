use Rattle.std.proofs.Common.{◌≡◌, ℕ, List, [], ◌∷◌, ◌++◌, length, map, sym, ap, ◌∙◌, arith}
use Rattle.std.specs.List.{range_with_len}
use Rattle.std.proofs.lemmas.List.FromFn.{map-range_with_len_more}
use Rattle.reports.proofs.TableLines.{channel_there, has_there, or_zero, same_shape}
use Rattle.reports.proofs.ring_channels.table_channels.Goals as goal

pub returns-clause-channels : goal.returns-clause-channels
returns-clause-channels c =
    let t = c.args.table.now in
    let ring = c.args.ring.now.places in
    let is = same_shape _ _ t ring c.requires.ids c.requires.rounds c.len-place-end.ensures.valid in
    let whole : c.loop-place.place ≡ length ring =
    omega (arith, c.len-place-end.ensures.value, c.loop-place-test.false, c.loop-place.auto) in
    record {
      channel = channel_there t ring;
      has = has_there c.tables_have_channels.ensures t ring is;
      are = c.loop-place.invariant ∙ ap (λ n. map (channel_there t ring) (range_with_len 0 n)) whole;
    }

-- One more channel was looked up.
pub loop-place-preserved : goal.loop-place-preserved
loop-place-preserved c =
    let n = c.loop-place.place in
    let channel = channel_there c.args.table.now c.args.ring.now.places in
    ◌∙◌ {A = List ℕ} c.in_ok-push.ensures.items
    (◌∙◌ {A = List ℕ} (λ i. c.loop-place.invariant i ++ or_zero (sym c.channel_of_place.ensures i) ∷ [])
    (sym (map-range_with_len_more channel 0 n n (omega arith))))
