use Rattle.std.proofs.Common.{◌≡◌, ℕ, ◌<◌, ◌≤◌, length, Some, slice_get, true, vec_capacity}
use Rattle.std.specs.Prelude.{is_some}
use denote.Ref.{Bor}
use Rattle.round_eval.specs.BlockStates.{MadeBlock}
use Rattle.shared_memo.specs.PlanJobs.{IsKeyedBlock}
use Rattle.shared_memo.specs.Passes.{known}
use Rattle.win_index.specs.Blocks.{block_count}
use Rattle.shared_memo.specs.Filled.{HasLearned}
use Rattle.shared_memo.proofs.looks.last_blocks.Given as goal

-- the blocks so far are those of the last level, and are known
abbrev pub invariant-loop-number : goal.invariant-loop-number
invariant-loop-number l =
    record {
      learned : HasLearned l.memo l.fn.pass l.pass;
      row : (number : ℕ) → number < l.number
          → is_some (known l.pass (length l.memo.plan.now.program.steps) number) ≡ true;
      count : length l.blocks.items ≡ l.number;
      room : block_count l.memo.plan.now.ids (length l.memo.plan.now.program.steps) ≤ vec_capacity l.blocks;
      each : (n : ℕ) (b : Bor MadeBlock) → slice_get l.blocks.items n ≡ Some b
          → IsKeyedBlock l.memo.plan.now (length l.memo.plan.now.program.steps) n b.now;
    }
