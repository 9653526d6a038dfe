-- The shapes of rings.
use Rattle.std.specs.Prelude.{◌≡◌, length}
use Rattle.lang_check.specs.Plans.{ProgramForIds}
use Rattle.win_index.specs.Ring.{OrientedRing}

-- the ring has the plan's shape: it was made for the plan's number of identifiers and its program's number of rounds
pub record IsOfShape (ring : OrientedRing) (plan : ProgramForIds) : Type 0 where
  pub ids : ring.ids ≡ plan.ids
  pub rounds : ring.rounds ≡ length plan.program.steps
