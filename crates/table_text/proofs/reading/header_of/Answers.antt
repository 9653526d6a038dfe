use Rattle.table_text.specs.Faults.{no_sizes}
use Rattle.table_text.proofs.reading.header_of.Goals as goal

pub syntax-requires-in_default-sizes-clause-malformed : goal.syntax-requires-in_default-sizes-clause-malformed
syntax-requires-in_default-sizes-clause-malformed c =
    no_sizes c.in-Some.version c.in-Some.ensures c.in_default-sizes.ensures.none
