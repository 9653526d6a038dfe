use Rattle.std.proofs.Common.{◌≢◌, ℕ, ◌<◌, Some, slice_index}
use Rattle.ring_problems.specs.Patterns.{IsForbidden}
use Rattle.nbhd_check.proofs.patterns.has_forbidden_third.Given as goal

-- none so far is forbidden
abbrev pub invariant-loop-place : goal.invariant-loop-place
invariant-loop-place l =
    (place : ℕ) → place < l.place → place ≢ l.gap
    → ¬ IsForbidden l.problem (Some l.channels.0) (Some l.channels.1) (Some (slice_index l.thirds place))
