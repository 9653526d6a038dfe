use Rattle.table_fill.proofs.Programs.{program_tables_are_tables}
use Rattle.table_fill.proofs.laws.program_tables_are_tables.Goals as goal

pub returns : goal.returns
returns c = program_tables_are_tables c.windows_are_within.ensures c.accepted_channels_are_below.ensures
