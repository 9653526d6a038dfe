-- The statement of the law of this crate.
use Rattle.std.specs.Prelude.{◌≡◌, List}
use Rattle.fill_core.specs.declared.state.FillEvent.{FillEvent}
use Rattle.fill_core.specs.FillMachine.{Machine, Runs}

-- a list of events leads from a machine to at most one machine
abbrev pub OneRun : Type 0
OneRun = (s t u : Machine) (es : List FillEvent) → Runs s es t → Runs s es u → t ≡ u
