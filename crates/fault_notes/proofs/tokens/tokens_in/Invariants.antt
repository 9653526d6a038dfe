use Rattle.std.proofs.Common.{◌≤◌, ◌-◌, length}
use Rattle.fault_notes.proofs.tokens.tokens_in.Given as goal

abbrev pub invariant-tokens : goal.invariant-tokens
invariant-tokens l = l.at ≤ length l.text

abbrev pub decreases-tokens : goal.decreases-tokens
decreases-tokens l = length l.text - l.at
