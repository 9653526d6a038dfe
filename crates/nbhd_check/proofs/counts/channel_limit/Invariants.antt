use Rattle.std.proofs.Common.{ℕ, ◌<◌, ◌≤◌, get_or}
use Rattle.node_program.specs.declared.limits.TheConstants.{MAX_CHANNELS}
use Rattle.nbhd_check.proofs.counts.channel_limit.Given as goal

-- the channels so far are below the limit
abbrev pub invariant-loop-number : goal.invariant-loop-number
invariant-loop-number l =
    ((k : ℕ) → k < l.number → get_or l.table.entries k 0 < l.limit) × (l.limit ≤ MAX_CHANNELS)
