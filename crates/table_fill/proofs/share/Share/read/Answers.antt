use Rattle.std.proofs.Common.{rules, ◌≡◌, ◌+◌, ◌*◌, ◌<◌, length, Some, sym, ap, ◌∙◌, arith}
use Rattle.std.proofs.lemmas.Option.{slice_get-get_or}
use Rattle.win_index.specs.declared.limits.TheConstants.{BLOCK_WINDOWS}
use Rattle.round_eval.specs.BlockStates.{block_len}
use Rattle.table_fill.specs.Shares.{windows_before}
use Rattle.table_fill.proofs.share.Share.read.Goals as goal

pub loop-number-preserved : goal.loop-number-preserved
loop-number-preserved c =
    let plan = c.args.code.now in
    let n = c.loop-number.number in
    let inv = c.loop-number.invariant in
    let block = c.index-blocks-number.result in
    let inside : n < length c.args.blocks.now =
    omega (arith, c.loop-number-test.true, c.requires.ready.within, c.requires.blocks.count) in
    let is = c.requires.blocks.each n block (slice_get-get_or c.args.blocks.now n block inside
    ∙ ap Some (sym c.index-blocks-number.is)) in
    let number : block.now.number ≡ n = is.2 in
    let here : windows_before plan n ≡ BLOCK_WINDOWS * block.now.number =
    omega (arith, number, inside, c.requires.blocks.count) in
    let next : BLOCK_WINDOWS * block.now.number + block_len plan.ids (length plan.program.steps) block.now.number
    ≡ windows_before plan (n + 1) =
    omega (arith, number, inside, c.requires.blocks.count) in
    record {
      room = search rules;
      capacity = search rules;
      entries = rw next at (c.append_block.ensures.entries.1 _ (rw here at inv.entries));
    }
