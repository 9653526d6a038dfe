use Rattle.reports.proofs.writing.write_finding.Goals as goal

pub returns-in-Table-clause-writes : goal.returns-in-Table-clause-writes
returns-in-Table-clause-writes g c = rw c.in-Table.is (c.result_of.ensures _ _ _ _ c.write_report.ensures)

pub returns-in-Formula-clause-writes : goal.returns-in-Formula-clause-writes
returns-in-Formula-clause-writes g c =
    rw c.in-Formula.is (c.result_of-in-Formula.ensures _ _ _ _ c.write_formula.ensures)
