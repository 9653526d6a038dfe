-- Marked literals.
use Rattle.std.specs.Prelude.{◌==◌, ℕ, ◌<◌, Bool, length, slice_index, if◌then◌else◌}
use Rattle.table_formula.specs.declared.literal.Literal.{Literal}
use Rattle.table_formula.specs.declared.refutation.marks.Marks.{Marks}
use Rattle.table_formula.specs.declared.refutation.marks.Remaining.{Remaining}
use Rattle.table_formula.specs.declared.refutation.marks.Remaining.TheVariants.{Nothing, One, Several}

-- the number of the variables of the literals that can be marked
abbrev pub variables_of : Marks → ℕ
variables_of marks = length marks.positive.items

-- whether a literal is marked: its stamp is the newest one
abbrev pub is_marked : Marks → Literal → Bool
is_marked marks l =
    (if l.is_positive then slice_index marks.positive.items l.variable else slice_index marks.negative.items l.variable)
    == marks.newest

-- a single literal has a variable below this number
abbrev pub IsOneBelow : ℕ → Remaining → Type 0
IsOneBelow variables Nothing = Unit {0}
IsOneBelow variables (One l) = l.variable < variables
IsOneBelow variables Several = Unit {0}
