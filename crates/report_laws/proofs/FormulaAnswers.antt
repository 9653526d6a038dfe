-- Each problem has a formula, or a fault.
use Rattle.std.proofs.Common.{◌+◌, ◌*◌, ◌<◌, ◌≤◌, length, inl, inr, arith}
use Rattle.std.specs.Prelude.{◌⊎◌}
use Rattle.std.proofs.lemmas.Bool.{cases_lt}
use Rattle.win_index.specs.declared.limits.TheConstants.{MAX_IDS, MAX_WINDOWS}
use Rattle.win_index.specs.Windows.{windows}
use Rattle.table_formula.specs.Problems.{Problem}
use Rattle.table_formula.specs.Formula.{variable_count, formula}
use Rattle.table_formula.specs.declared.limits.TheConstants.{MAX_CLAUSES, MAX_VARIABLES}
use Rattle.reports.specs.ProblemFaults.{HasFormula, IsProblemFault}
use Rattle.reports.specs.declared.problem.ProblemFault.{ProblemFault}
use Rattle.reports.specs.declared.problem.ProblemFault.TheVariants.{IdsOutOfRange, TooManyWindows}
use Rattle.reports.specs.declared.problem.ProblemFault.TheVariants.{TooManyVariables, TooManyClauses}

abbrev pub FormulaAnswer : Problem → Type 0
FormulaAnswer p = HasFormula p ⊎ ((f : ProblemFault) × IsProblemFault p f)

pub formula_answer : (p : Problem) → FormulaAnswer p
formula_answer p =
    go (cases_lt p.ids (2 * p.rounds + 2)) (cases_lt MAX_IDS p.ids)
    (cases_lt MAX_WINDOWS (length (windows (2 * p.rounds + 1) p.ids)))
    (cases_lt MAX_VARIABLES (variable_count p)) (cases_lt MAX_CLAUSES (length (formula p)))
  where
    go : (p.ids < 2 * p.rounds + 2) ⊎ (2 * p.rounds + 2 ≤ p.ids) → (MAX_IDS < p.ids) ⊎ (p.ids ≤ MAX_IDS)
        → (MAX_WINDOWS < length (windows (2 * p.rounds + 1) p.ids)) ⊎
        (length (windows (2 * p.rounds + 1) p.ids) ≤ MAX_WINDOWS)
        → (MAX_VARIABLES < variable_count p) ⊎ (variable_count p ≤ MAX_VARIABLES)
        → (MAX_CLAUSES < length (formula p)) ⊎ (length (formula p) ≤ MAX_CLAUSES) → FormulaAnswer p
    go (inl bad) b d e f = inr (IdsOutOfRange, λ ids. omega (arith, bad, ids.enough))
    go (inr a) (inl bad) d e f = inr (IdsOutOfRange, λ ids. omega (arith, bad, ids.few))
    go (inr a) (inr b) (inl bad) e f =
        inr (TooManyWindows, (record { enough = a; few = b }, λ few. omega (arith, bad, few)))
    go (inr a) (inr b) (inr d) (inl bad) f =
        inr (
          TooManyVariables,
          (
            record { ids = record { enough = a; few = b }; few_windows = d },
            λ few. omega (arith, bad, few),
          ),
        )
    go (inr a) (inr b) (inr d) (inr e) (inl bad) =
        inr (
          TooManyClauses,
          (
            record { ids = record { enough = a; few = b }; few_windows = d },
            (e, λ few. omega (arith, bad, few)),
          ),
        )
    go (inr a) (inr b) (inr d) (inr e) (inr f) = inl (record {
      shape = record { ids = record { enough = a; few = b }; few_windows = d };
      limits = record { few_variables = e; few_clauses = f };
    })
