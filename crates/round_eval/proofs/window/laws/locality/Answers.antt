use Rattle.round_eval.proofs.AroundPlaces.{around}
use Rattle.round_eval.proofs.window.laws.locality.Goals as goal

pub returns : goal.returns
returns c = around c.places_of_arcs.ensures.length c.places_of_arcs.ensures.item
