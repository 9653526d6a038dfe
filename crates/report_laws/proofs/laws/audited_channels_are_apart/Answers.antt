use Rattle.report_laws.proofs.Applied.{audited}
use Rattle.report_laws.proofs.laws.audited_channels_are_apart.Goals as goal

pub returns : goal.returns
returns c =
    audited c.table_texts_are_apart.ensures c.table_texts_are_read.ensures c.one_ring_fault.ensures.none
    c.tables_are_apart_on_rings.ensures
