use Rattle.std.proofs.Common.{◌*◌, ◌<◌, [], length, get_or, sym, ◌∙◌, ap, arith}
use Rattle.std.proofs.lemmas.List.FromFn.{get_or-map-range_with_len}
use Rattle.round_eval.specs.Rows.{rows}
use Rattle.round_eval.specs.BlockStates.{MadeBlock, block_len, block_state}
use Rattle.round_eval.proofs.block.Block.states.Goals as goal

pub returns-clause-size : goal.returns-clause-size
returns-clause-size c =
    let b = c.self.inside in
    let view = c.self.view_is in
    let len = c.self.invariant.size ∙ ap (λ (v : MadeBlock). block_len v.plan.ids v.level v.number) view in
    ap length c.deref.ensures.value ∙ c.self.invariant.cells_size ∙ (λ k. len k * length (view k).plan.program.start)

pub returns-clause-rows : goal.returns-clause-rows
returns-clause-rows c =
    let b = c.self.inside in
    let view = c.self.view_is in
    let len = c.self.invariant.size ∙ ap (λ (v : MadeBlock). block_len v.plan.ids v.level v.number) view in
    λ i lt.
    let inside : i < b.len = rw len lt in
    (λ k. get_or (rows (length (sym view k).plan.program.start) (sym len k) (c.deref.ensures.value k)) i [])
    ∙ ap (λ u. get_or u i []) c.self.invariant.states
    ∙ get_or-map-range_with_len (block_state b.plan.now b.level b.number) 0 b.len i i [] inside (omega arith)
    ∙ ap (λ (v : MadeBlock). block_state v.plan v.level v.number i) view
