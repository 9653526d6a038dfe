use Rattle.std.proofs.Common.{refl}
use Rattle.table_fill.specs.ProgramTables.{table_of}
use Rattle.headline.proofs.Agreement.{solving_tables}
use Rattle.headline.proofs.laws.program_tables_solve.Goals as goal

pub returns : goal.returns
unfolding table_of
returns c = λ p m problem. solving_tables p m problem (table_of p m) refl refl
    (c.table_has_the_channels_of_rounds.ensures p m)
