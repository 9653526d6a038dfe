-- The blocks of the last level, from which a table is read.
use Rattle.std.specs.Prelude.{◌≡◌, ℕ, List, Some, length, slice_get}
use denote.Ref.{Bor}
use Rattle.lang_check.specs.Plans.{ProgramForIds}
use Rattle.round_eval.specs.BlockStates.{IsKeyedBlock, MadeBlock}
use Rattle.win_index.specs.Blocks.{block_count}

-- the number of blocks of the last level
abbrev pub blocks_of : ProgramForIds → ℕ
blocks_of plan = block_count plan.ids (length plan.program.steps)

-- the blocks of the last level, in order
pub record AreLastBlocks (plan : ProgramForIds) (blocks : List (Bor MadeBlock)) : Type 0 where
  pub count : length blocks ≡ blocks_of plan
  pub each : (n : ℕ) (b : Bor MadeBlock) → slice_get blocks n ≡ Some b
      → IsKeyedBlock plan (length plan.program.steps) n b.now
