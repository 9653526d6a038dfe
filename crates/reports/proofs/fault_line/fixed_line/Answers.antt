use Rattle.reports.proofs.fault_line.fixed_line.Goals as goal

pub returns-in-Formula-clause-line : goal.returns-in-Formula-clause-line
returns-in-Formula-clause-line c =
    rw c.in-Formula.is (c.formula_fault_line.ensures c.in-Formula.ids c.in-Formula.rounds)
