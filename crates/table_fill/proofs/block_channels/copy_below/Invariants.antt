use Rattle.std.proofs.Common.{◌≡◌, length, take}
use Rattle.table_fill.proofs.block_channels.copy_below.Given as goal

-- the numbers so far are copied
abbrev pub invariant-loop-index : goal.invariant-loop-index
invariant-loop-index l =
    record {
      size : length l.narrow ≡ length l.numbers;
      copied : take l.index l.narrow ≡ take l.index l.numbers;
    }
