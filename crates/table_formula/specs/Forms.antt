-- What a line says, as the program keeps it. No public contract cites this file.
use Rattle.std.specs.Prelude.{ℕ, Bool, true, false, List, Option, None, Some}
use Rattle.table_formula.specs.declared.literal.Literal.{Literal}
use Rattle.table_formula.specs.declared.refutation.forms.LineForm.{LineForm}
use Rattle.table_formula.specs.declared.refutation.forms.LineForm.TheVariants as form
use Rattle.table_formula.specs.Lines.{Line, Comment, Deletion, Addition}

-- what a line of this form says with this clause and these numbers, which are its hints or the deleted numbers
abbrev pub line_of : LineForm → List Literal → List ℕ → Option Line
line_of form.Malformed clause numbers = None
line_of form.Comment clause numbers = Some Comment
line_of form.Deletion clause numbers = Some (Deletion numbers)
line_of (form.Addition exchange number) clause numbers = Some (Addition exchange number clause numbers)

-- whether a line of this form adds a clause
abbrev pub is_addition : LineForm → Bool
is_addition (form.Addition exchange number) = true
is_addition _ = false
