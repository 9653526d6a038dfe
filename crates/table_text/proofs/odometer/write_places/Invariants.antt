use Rattle.table_text.specs.Orders.{ArePlaces}
use Rattle.table_text.proofs.odometer.write_places.Given as goal

-- the places of the first identifiers are written
abbrev pub invariant-loop-index : goal.invariant-loop-index
invariant-loop-index l = ArePlaces l.index l.fn.window l.places
