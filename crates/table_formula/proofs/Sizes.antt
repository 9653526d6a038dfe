-- The numbers of variables and clauses of a formula.
use Rattle.std.proofs.Common.{◌≡◌, ℕ, ◌+◌, ◌*◌, ◌<◌, ◌≤◌, length, sym, ap, ◌∙◌, subst, arith}
use Rattle.std.proofs.lemmas.Nat.{mul-le}
use Rattle.win_index.specs.Windows.{windows}
use Rattle.table_formula.specs.Problems.{Problem}
use Rattle.table_formula.specs.Formula.{windows_of, tuples_of, conflicts_of, apart_formula}
use Rattle.table_formula.specs.Limits.{HasFewVariables, HasFewClauses}
use Rattle.table_formula.specs.declared.limits.TheConstants.{MAX_VARIABLES, MAX_CLAUSES}
use Rattle.table_formula.proofs.ClauseLists.{apart_length, formula_length}

-- the numbers of windows, tuples and pairs of a problem
pub record AreSizes (p : Problem) (windows tuples pairs : ℕ) : Type 0 where
  pub windows_is : windows ≡ length (windows_of p)
  pub tuples_is : tuples ≡ length (tuples_of p)
  pub pairs_is : pairs ≡ length (conflicts_of p)

-- they are known from a number of rounds
pub sizes_are : (p : Problem) {level wins count tuples pairs : ℕ} → wins ≡ count →
    count ≡ length (windows (2 * level + 1) p.ids) → level ≡ p.rounds →
    tuples ≡ length (tuples_of p) → pairs ≡ length (conflicts_of p) → AreSizes p wins tuples pairs
sizes_are p same count_is level_is tuples_is pairs_is = record {
  windows_is = same ∙ count_is ∙ ap (λ r. length (windows (2 * r + 1) p.ids)) level_is;
  tuples_is = tuples_is;
  pairs_is = pairs_is;
}

pub apart_count : (p : Problem) (windows tuples pairs : ℕ) → AreSizes p windows tuples pairs →
    length (apart_formula p) ≡ windows + tuples * pairs
apart_count p windows tuples pairs are =
    apart_length p ∙ sym (λ i. are.windows_is i + are.tuples_is i * are.pairs_is i)

pub few_variables : (p : Problem) (windows tuples pairs channels : ℕ) → AreSizes p windows tuples pairs →
    channels ≡ p.channels
    → windows * channels ≤ MAX_VARIABLES → HasFewVariables p
few_variables p windows tuples pairs channels are same few =
    subst (λ n. n ≤ MAX_VARIABLES) (λ i. are.windows_is i * same i) few

pub many_clauses : (p : Problem) (windows tuples pairs : ℕ) → AreSizes p windows tuples pairs →
    MAX_CLAUSES < windows + tuples * pairs → ¬ HasFewClauses p
many_clauses p windows tuples pairs are many =
    λ few. omega (arith, formula_length p, apart_count p windows tuples pairs are, many, few)

-- where there are tuples, there are no more pairs of channels than clauses
pub few_pairs : (p : Problem) → 0 < length (tuples_of p) → length (apart_formula p) ≤ MAX_CLAUSES
    → length (conflicts_of p) ≤ MAX_CLAUSES
few_pairs p some few =
    let pairs : ℕ = length (conflicts_of p) in
    omega (arith, apart_length p, mul-le 1 pairs (length (tuples_of p)) pairs some (omega arith), few)
