-- Clauses that were added. No public contract cites this file.
use Rattle.std.specs.Prelude.{◌≡◌, ℕ, ◌<◌, List, Option, Some, All, Vec, option_map}
use Rattle.std.specs.BTreeMap.{BTreeMap, get}
use Rattle.std.specs.Ordering.{nat_cmp}
use Rattle.table_formula.specs.declared.literal.Literal.{Literal}

module _ {Y : Type 0} where
  -- an added clause
  abbrev pub added_clause : BTreeMap ℕ (Vec Literal Y) → ℕ → Option (List Literal)
  added_clause added number = option_map (λ clause. clause.items) (get nat_cmp added number)

  -- the literals of the added clauses are of variables below this number
  abbrev pub AreWithin : ℕ → BTreeMap ℕ (Vec Literal Y) → Type 0
  AreWithin variables added =
      (number : ℕ) (clause : List Literal) → added_clause added number ≡ Some clause
      → All (λ l. l.variable < variables) clause
