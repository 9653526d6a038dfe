-- What a run needs. No public contract cites this file.
use Rattle.std.specs.Prelude.{ℕ, length}
use Rattle.lang_check.specs.Plans.{ProgramForIds}
use Rattle.win_index.specs.Ring.{OrientedRing}
use Rattle.round_eval.specs.Shapes.{IsOfShape}
use Rattle.border_exchange.specs.SegmentCounts.{IsSegmentCount}

-- the ring has the plan's shape, and as many places as segments at least
pub record CanRun (plan : ProgramForIds) (ring : OrientedRing) (segments : ℕ) : Type 0 where
  pub shape : IsOfShape ring plan
  pub range : IsSegmentCount segments (length ring.places)
