use Rattle.std.proofs.Common.{rules, ◌≡◌, ℕ, ◌+◌, ◌*◌, [], length, get_or, take, drop, sym, ap, ◌∙◌, arith}
use Rattle.std.proofs.lemmas.List.FromFn.{get_or-map-range_with_len}
use Rattle.round_eval.specs.BlockStates.{block_len}
use Rattle.table_fill.proofs.block_channels.put_block.Goals as goal

pub returns : goal.returns
returns c =
    let b = c.args.block.now in
    let width : ℕ = length b.plan.program.start in
    let len = block_len b.plan.ids b.level b.number in
    let cells = c.states.result.now in
    let written = rw c.requires.1 at c.put_rows.ensures.states.written in
    record {
      wide = search rules;
      each = λ i lt.
          let from_first : i ≡ 0 + i = omega arith in
          ap (λ k. get_or c.put_rows.new.self.states k []) from_first
          ∙ written i (omega (arith, lt, c.len.ensures))
          ∙ sym (get_or-map-range_with_len (λ k. take width (drop (k * width) cells)) 0 len i (0 + i) [] lt (omega arith))
          ∙ ap (λ list. get_or list i []) (sym (c.rows_are_taken.ensures width len cells))
          ∙ c.states.ensures.rows i lt;
    }
