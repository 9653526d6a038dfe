use Rattle.report_laws.proofs.ReadBack.{keeps, twice, audit, audit_solves, apply}
use Rattle.report_laws.proofs.laws.table_reports_are_read_back.Goals as goal

pub returns-clause-keeps : goal.returns-clause-keeps
returns-clause-keeps c = keeps c.table_texts_are_apart.ensures c.table_texts_are_read.ensures

pub returns-clause-twice : goal.returns-clause-twice
returns-clause-twice c = twice c.table_texts_are_apart.ensures c.table_texts_are_read.ensures

pub returns-clause-audit : goal.returns-clause-audit
returns-clause-audit c =
    audit c.table_texts_are_apart.ensures c.table_texts_are_read.ensures c.program_tables_are_tables.ensures

pub returns-clause-solves : goal.returns-clause-solves
returns-clause-solves c =
    audit_solves c.table_texts_are_apart.ensures c.table_texts_are_read.ensures c.program_tables_are_tables.ensures

pub returns-clause-apply : goal.returns-clause-apply
returns-clause-apply c =
    apply c.table_texts_are_apart.ensures c.table_texts_are_read.ensures c.program_tables_are_tables.ensures
    c.table_has_the_channels_of_rounds.ensures c.one_list_of_channels.ensures
