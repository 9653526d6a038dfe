use Rattle.std.proofs.Common.{◌≡◌, ℕ, [], ◌∷◌, ◌++◌, ◌∙◌, ap, ap₂, arith, sym}
use Rattle.std.proofs.lemmas.List.FromFn.{map-range_with_len_more}
use Rattle.node_program.specs.Node.{channel}
use Rattle.node_program.specs.GlobalRounds.{channel_at, state}
use Rattle.round_eval.proofs.rounds.channels_in.Goals as goal

-- One more place has its channel.
pub loop-place-preserved : goal.loop-place-preserved
unfolding channel_at
loop-place-preserved c =
    let p = c.args.places.now.program in
    let x = c.args.places.now.places in
    let i : ℕ = c.loop-place.place in
    let one : c.quantity.result ≡ channel_at p x i =
    c.quantity.ensures ∙ ap (λ r. channel p (state p x r i)) c.requires in
    c.in_ok-push.ensures.items ∙ ap₂ (λ l v. l ++ v ∷ []) c.loop-place.invariant one
    ∙ sym (map-range_with_len_more (channel_at p x) 0 i i (omega arith))
