use Rattle.std.proofs.Common.{◌<◌, [], get_or, sym, ◌∙◌, ap, arith}
use Rattle.std.proofs.lemmas.List.FromFn.{get_or-map-range_with_len}
use Rattle.round_eval.specs.BlockStates.{MadeBlock, block_len, block_state}
use Rattle.round_eval.proofs.block.Block.state.Goals as goal

pub returns-clause-value : goal.returns-clause-value
returns-clause-value c =
    let b = c.self.inside in
    let i = c.args.i in
    let view = c.self.view_is in
    let len = c.self.invariant.size ∙ ap (λ (v : MadeBlock). block_len v.plan.ids v.level v.number) view in
    let inside : i < b.len = rw len c.requires in
    let own = rw (c.width_of.ensures.value, c.deref.ensures.value) at (c.row_at.ensures.value b.len inside) in
    sym own
    ∙ ap (λ u. get_or u i []) c.self.invariant.states
    ∙ get_or-map-range_with_len (block_state b.plan.now b.level b.number) 0 b.len i i [] inside (omega arith)
    ∙ ap (λ (v : MadeBlock). block_state v.plan v.level v.number i) view
