-- The tree of an expression at a node: a line for each of its parts that counts, with the part's value, and one for
-- each branch of an `if` that is not taken.
use Rattle.std.specs.Prelude.{ℕ, ◌+◌, ◌==◌, if◌then◌else◌, false, true, List, [], ◌∷◌, ◌++◌, map}
use Rattle.std.specs.List.{flat_map}
use Rattle.node_program.specs.Term.{Term, One, Two, Choose}
use Rattle.node_program.specs.Value.{Env, value}
use Rattle.numerals.specs.Numerals.{form_of}
use Rattle.numerals.specs.declared.base.Base.{Base}
use Rattle.value_trees.specs.Parts.{Part, told_part}

-- an expression at a depth that counts, and a branch that is not taken
abbrev pub counted : ℕ → Term → Part
counted depth term = record { depth = depth; term = term; counts = true }

abbrev pub folded : ℕ → Term → Part
folded depth term = record { depth = depth; term = term; counts = false }

-- the parts of an expression at a depth that have a line, in the order of their lines: the expression, and then
-- those of its operands, one deeper; of a branch that is not taken the branch alone
abbrev pub parts_at : Env → ℕ → Term → List Part
parts_at env d (One o x) = counted d (One o x) ∷ parts_at env (d + 1) x
parts_at env d (Two o x y) = counted d (Two o x y) ∷ (parts_at env (d + 1) x ++ parts_at env (d + 1) y)
parts_at env d (Choose c x y) =
    counted d (Choose c x y)
    ∷ (parts_at env (d + 1) c
    ++ (if value c env == 0 then folded (d + 1) x ∷ parts_at env (d + 1) y
    else parts_at env (d + 1) x ++ folded (d + 1) y ∷ []))
parts_at env d e = counted d e ∷ []

-- the values of parts
abbrev pub values_of : Env → List Part → List ℕ
values_of env parts = map (λ p. value p.term env) parts

-- the lines of parts, all values in the form of values that are written together in this base
abbrev pub part_lines : Base → Env → List Part → List ℕ
part_lines b env parts = flat_map (told_part (form_of b (values_of env parts)) env) parts

-- the tree of an expression in a base, below a heading
unfoldable pub tree_lines : Base → Env → Term → List ℕ
tree_lines b env e = part_lines b env (parts_at env 0 e)
