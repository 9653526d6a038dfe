use Rattle.std.proofs.Common.{List, ◌∷◌, [], ◌++◌, map, sym, ◌∙◌, ap, arith}
use Rattle.std.specs.List.{range_with_len}
use Rattle.std.proofs.lemmas.List.FromFn.{map-range_with_len_more}
use Rattle.ring_core.specs.Progress.{Progress, opening_part}
use Rattle.ring_core.proofs.world.opening_parts.Goals as goal

pub loop-index-preserved : goal.loop-index-preserved
loop-index-preserved c =
    let f = opening_part c.args.plan.now c.args.ring.now c.args.segments in
    let k = c.loop-index.index in
    c.in-Ok.ensures.items
    ∙ ap (λ (items : List Progress). items ++ c.in_ok-part.part ∷ []) c.loop-index.invariant
    ∙ ap (λ (p : Progress). map f (range_with_len 0 k) ++ p ∷ []) c.in_ok-part.ensures
    ∙ sym (map-range_with_len_more f 0 k k (omega arith))
