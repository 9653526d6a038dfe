use Rattle.headline.proofs.Agreement.{apart_on_rings}
use Rattle.headline.proofs.laws.tables_are_apart_on_rings.Goals as goal

pub returns : goal.returns
returns c = apart_on_rings
