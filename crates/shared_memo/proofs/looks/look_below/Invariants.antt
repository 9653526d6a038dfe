use Rattle.std.proofs.Common.{◌≡◌, ℕ, ◌<◌, true}
use Rattle.std.specs.Prelude.{is_some}
use Rattle.shared_memo.specs.Passes.{known}
use Rattle.shared_memo.specs.Filled.{HasLearned, KnowsLevel}
use Rattle.shared_memo.proofs.looks.look_below.Given as goal

-- all levels so far are known
abbrev pub invariant-loop-level : goal.invariant-loop-level
invariant-loop-level l =
    record {
      learned : HasLearned l.memo l.fn.pass l.pass;
      below : (level : ℕ) → level < l.level → KnowsLevel l.memo.plan.now (known l.pass) level;
    }

-- and the blocks of this level so far
abbrev pub invariant-loop-number : goal.invariant-loop-number
invariant-loop-number l =
    record {
      learned : HasLearned l.memo l.fn.pass l.pass;
      below : (level : ℕ) → level < l.level → KnowsLevel l.memo.plan.now (known l.pass) level;
      row : (number : ℕ) → number < l.number → is_some (known l.pass l.level number) ≡ true;
    }
