-- What a tree has to show: each part of an expression that counts on a line of its own, as deep as the part is, with
-- its value, and one line in place of each branch that is not taken.
use Rattle.std.specs.Prelude.{◌≡◌, ◌↔◌, ℕ, zero, suc, ◌+◌, ◌==◌, if◌then◌else◌, Bool, false, true, List, [], ◌∷◌, ◌++◌}
use Rattle.std.specs.Prelude.{Contains, Some, codes, length, map, replicate, slice_get}
use Rattle.std.specs.List.{flat_map}
use Rattle.node_program.specs.Term.{Term, One, Two, Choose}
use Rattle.node_program.specs.Value.{Env, value}
use Rattle.node_lang.specs.Printed.{own_word}
use Rattle.numerals.specs.Numerals.{form_of, padded}
use Rattle.numerals.specs.declared.base.Base.{Base}
use Rattle.numerals.specs.declared.rows.Form.{Form}

-- the operands of an expression that give its value, in reading order: of an `if` the condition and the branch that is
-- taken
abbrev pub counting : Env → Term → List Term
counting env (One o x) = x ∷ []
counting env (Two o x y) = x ∷ y ∷ []
counting env (Choose c x y) = c ∷ (if value c env == 0 then y else x) ∷ []
counting env _ = []

-- the other branch of an `if`
abbrev pub untaken : Env → Term → List Term
untaken env (Choose c x y) = (if value c env == 0 then x else y) ∷ []
untaken env _ = []

-- an expression counts in another one at a depth: at depth 0 it is that one, and one deeper it counts in an operand
-- that gives its value
abbrev pub Counts : Env → ℕ → Term → Term → Type 0
Counts env zero part e = part ≡ e
Counts env (suc depth) part e = (operand : Term) × Contains (counting env e) operand × Counts env depth part operand

-- an expression is a branch that is not taken in another one, at a depth: the `if` counts, one less deep
abbrev pub IsUntaken : Env → ℕ → Term → Term → Type 0
IsUntaken env zero part e = ⊥
IsUntaken env (suc depth) part e = (choice : Term) × Counts env depth choice e × Contains (untaken env choice) part

-- an expression at a depth, and whether it counts
pub record Part : Type 0 where
  pub depth : ℕ
  pub term : Term
  pub counts : Bool

-- the number of lines of an expression: one for itself, those of its operands that count, and one for a branch that is
-- not taken
abbrev pub line_count : Env → Term → ℕ
line_count env (One o x) = 1 + line_count env x
line_count env (Two o x y) = 1 + (line_count env x + line_count env y)
line_count env (Choose c x y) =
    2 + (line_count env c + (if value c env == 0 then line_count env y else line_count env x))
line_count env _ = 1

-- what stands before the value of a part: a blank and one more for each step of its depth, its word, and a blank
abbrev pub beginning : Part → List ℕ
beginning p = codes " " ++ (replicate p.depth 32 ++ (own_word p.term ++ codes " "))

-- what ends the line of a part, by whether it counts
abbrev pub ending : Bool → List ℕ
ending counts = if counts then codes "\n" else codes " (not taken)\n"

-- the line of a part in an environment
abbrev pub told_part : Form → Env → Part → List ℕ
told_part form env p = beginning p ++ (padded form (value p.term env) ++ ending p.counts)

-- the text has the lines of all parts of an expression that count, that of the whole one first, and of all branches
-- that are not taken, and no others. The values are written together, so the widest of them gives the width of all
pub record IsTree (b : Base) (env : Env) (e : Term) (text : List ℕ) : Type 0 where
  pub parts : List Part
  pub are_counting : (depth : ℕ) (term : Term)
      → Contains parts (record { depth = depth; term = term; counts = true }) ↔ Counts env depth term e
  pub are_untaken : (depth : ℕ) (term : Term)
      → Contains parts (record { depth = depth; term = term; counts = false }) ↔ IsUntaken env depth term e
  pub as_many : length parts ≡ line_count env e
  pub first : slice_get parts 0 ≡ Some (record { depth = 0; term = e; counts = true })
  pub whole : text ≡ flat_map (told_part (form_of b (map (λ p. value p.term env) parts)) env) parts
