-- The state of a checker. No public contract cites this file.
use Rattle.table_formula.specs.Problems.{Problem}
use Rattle.table_formula.specs.declared.refutation.checker.Checker.{Checker}
use Rattle.table_formula.specs.Derivations.{Derivation}
use Rattle.table_formula.specs.Stored.{clause_of}

abbrev pub problem_of : Checker → Problem
problem_of checker = checker.clauses.formula.now

-- the clauses that a checker holds, with the number of the newest one
abbrev pub derivation_of : Checker → Derivation
derivation_of checker = record { clauses = clause_of checker.clauses; newest = checker.newest }
