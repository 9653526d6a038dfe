use Rattle.std.proofs.Common.{◌≡◌, ℕ, ◌<◌, true, length, get_or}
use Rattle.node_program.specs.declared.limits.TheConstants.{MAX_ROUNDS}
use Rattle.unroll.specs.RightReads.{round_reads_right}
use Rattle.unroll.proofs.right_reads.rounds_use_right.Given as goal

-- the rounds so far
abbrev pub invariant-loop-round : goal.invariant-loop-round
invariant-loop-round l =
    record {
      size : length l.uses ≡ MAX_ROUNDS;
      read : (k : ℕ) → k < l.round → get_or l.uses k true ≡ round_reads_right l.plan.program k;
    }
