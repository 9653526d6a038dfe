use Rattle.std.proofs.Common.{rules}
use Rattle.win_index.proofs.Windows.{each_snoc}
use Rattle.shared_memo.proofs.looks.last_blocks.Goals as goal

pub loop-number-preserved : goal.loop-number-preserved
loop-number-preserved c = record {
  learned = (c.look_at.ensures.learned.0, record { kept = λ level n block at'. c.look_at.ensures.learned.1.kept level n block (c.loop-number.invariant.learned.1.kept level n block at') });
  row = search rules;
  count = search rules;
  room = search rules;
  each = rw c.push_reserved.ensures.items
      (each_snoc _ c.loop-number.blocks.items _ c.loop-number.invariant.each (search rules));
}
