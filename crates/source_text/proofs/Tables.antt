-- The first row of a table whose beginning a line has.
use Rattle.std.proofs.Common.{◌≡◌, ℕ, Bool, true, false, cond, List, [], ◌∷◌, Option, Some, Bor, map, refl}
use Rattle.std.specs.Option.{option_map}
use Rattle.std.specs.List.{find}
use Rattle.source_text.specs.declared.kinds.TextKind.{TextKind}
use Rattle.source_text.specs.ByteSets.{begins}
use Rattle.source_text.specs.Kinds.{by_beginning}

abbrev Row : Type 0
Row = Bor (List ℕ) × TextKind

-- a row that borrows its beginning, as one that has it
abbrev of_row : Row → List ℕ × TextKind
of_row row = (row.0.now, row.1)

-- what stands beside the first row whose beginning the line has
abbrev beside : List ℕ → List Row → Option TextKind
beside line rows = option_map (λ row. row.1) (find (λ row. begins line row.0.now) rows)

-- the same, by the beginnings themselves
pub beside_found : (line : List ℕ) (rows : List Row) → beside line rows ≡ by_beginning (map of_row rows) line
beside_found line [] = refl
beside_found line (row ∷ rows) = go (begins line row.0.now) (beside_found line rows)
  where
    go : (b : Bool) → beside line rows ≡ by_beginning (map of_row rows) line →
        option_map {T = Row} (λ r. r.1) (cond b (Some row) (find (λ r. begins line r.0.now) rows))
        ≡ option_map {T = List ℕ × TextKind} (λ r. r.1)
        (cond b (Some (of_row row)) (find (λ r. begins line r.0) (map of_row rows)))
    go true rest = refl
    go false rest = rest
