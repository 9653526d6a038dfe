-- What the tasks on a formula find.
use Rattle.std.specs.Prelude.{◌≡◌, ◌≢◌, ℕ, List}
use Rattle.table_formula.specs.Problems.{Problem}
use Rattle.table_formula.specs.Refutations.{IsRefutation, IsFault}
use Rattle.table_formula.specs.declared.refutation.fault.RefuteError.{RefuteError}
use Rattle.table_formula.specs.declared.refutation.fault.RefuteError.TheVariants as refute
use Rattle.reports.specs.Findings.{Fault, of_formula, of_refutation, Finding}
use Rattle.reports.specs.Findings as value
use Rattle.reports.specs.Report.{IsRefusedOr}
use Rattle.reports.specs.ProblemFaults.{HasFormula, IsProblemFault}
use Rattle.reports.specs.declared.problem.ProblemFault.{ProblemFault}

-- why there is no formula of these numbers
pub record IsFormulaRefusal (p : Problem) (fault : Fault) : Type 0 where
  pub what : ProblemFault
  pub first : IsProblemFault p what
  pub is : fault ≡ of_formula p.ids p.rounds what

-- What is found on a formula: the refusal of its numbers, or the formula.
abbrev pub IsFormulaReport : Problem → Finding → Type 0
IsFormulaReport p = IsRefusedOr (IsFormulaRefusal p) (λ f. HasFormula p × (f ≡ value.formula p))

-- the first fault of a text that is no refutation
pub record IsNoRefutation (p : Problem) (input : List ℕ) (fault : Fault) : Type 0 where
  pub what : RefuteError
  pub known : what ≢ refute.OutOfMemory
  pub first : IsFault p input what
  pub is : fault ≡ of_refutation what

-- What is found on a refutation: the refusal of the numbers, the fault of a text that is no refutation, or that the
-- formula is refuted.
abbrev pub IsRefuteReport : Problem → List ℕ → Finding → Type 0
IsRefuteReport p input = IsRefusedOr (IsFormulaRefusal p)
    (λ f. HasFormula p × IsRefusedOr (IsNoRefutation p input) (λ f. IsRefutation p input × (f ≡ value.refuted p)) f)
