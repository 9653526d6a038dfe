use Rattle.border_exchange.proofs.Places.{first_place-all, first_place-grows, first_place-none}
use Rattle.border_exchange.proofs.segment.laws.segments_cover_the_ring.Goals as goal

pub returns : goal.returns
returns c n g some few = (first_place-none n g, first_place-all n g some, λ s. first_place-grows n g s some few)
