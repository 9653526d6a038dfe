use Rattle.std.proofs.Common.{◌≡◌, ◌==◌, ℕ, None, drop, if◌then◌else◌}
use Rattle.std.specs.List.{list_any}
use Rattle.table_formula.specs.Stored.{clause_of}
use Rattle.table_formula.proofs.refutation.clauses.Clauses.delete.Given as goal

abbrev pub invariant-loop-number : goal.invariant-loop-number
invariant-loop-number l = record {
  formula : l.self.formula.now ≡ l.fn.self.formula.now;
  clauses : (n : ℕ) → (if list_any (λ deleted. deleted == n) (drop l.number-index l.numbers) then None else clause_of l.self n)
      ≡ (if list_any (λ deleted. deleted == n) l.numbers then None else clause_of l.fn.self n);
}
