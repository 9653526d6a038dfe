use Rattle.std.proofs.Common.{ℕ, List, ◌∷◌, [], ◌++◌, map, sym, ◌∙◌, ap, arith}
use Rattle.std.specs.Prelude.{slice_index}
use Rattle.std.specs.List.{range_with_len}
use Rattle.std.proofs.lemmas.List.FromFn.{map-range_with_len_more}
use Rattle.node_program.specs.Bounds.{register_bounds}
use Rattle.fault_notes.proofs.bound_lines.bounds_in_time.Goals as goal

pub loop-rounds-preserved : goal.loop-rounds-preserved
loop-rounds-preserved c =
    let f : ℕ → ℕ = λ r. slice_index (register_bounds c.args.program.now c.args.ids r) c.args.register in
    let k = c.loop-rounds.rounds in
    c.in_ok-push.ensures.items
    ∙ ap (λ (items : List ℕ). items ++ c.bound_after-bound.result ∷ []) c.loop-rounds.invariant
    ∙ ap (λ (bound : ℕ). map f (range_with_len 0 k) ++ bound ∷ []) c.bound_after-bound.ensures
    ∙ sym (map-range_with_len_more f 0 k k (omega arith))
