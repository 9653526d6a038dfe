-- The number of segments that a ring may be run in.
use Rattle.std.specs.Prelude.{ℕ, ◌≤◌}
use Rattle.border_exchange.specs.declared.segment.limits.TheConstants.{MAX_SEGMENTS}

-- 1 to MAX_SEGMENTS, and at most the number of places
pub record IsSegmentCount (segments places : ℕ) : Type 0 where
  pub some : 1 ≤ segments
  pub few : segments ≤ MAX_SEGMENTS
  pub enough : segments ≤ places
