use Rattle.std.proofs.Common.{◌++◌, [], ◌∷◌, sym, ◌∙◌, arith}
use Rattle.std.proofs.lemmas.List.FromFn.{map-range_with_len_more}
use Rattle.round_eval.specs.Configuration.{quantity}
use Rattle.value_trees.proofs.trace.numbers_of.Goals as goal

-- The number of one more place was added.
pub loop-place-preserved : goal.loop-place-preserved
loop-place-preserved c =
    let n = c.loop-place.place in
    c.in_ok-push.ensures.items ∙ (λ i. c.loop-place.invariant i ++ c.quantity.ensures i ∷ [])
    ∙ sym (map-range_with_len_more (quantity c.args.places.now c.args.what) 0 n n (omega arith))
