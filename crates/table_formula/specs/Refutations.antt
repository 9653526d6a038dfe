-- Which texts are refutations of the formula of a problem, and the first fault of another text.
use Rattle.std.specs.Prelude.{◌≡◌, ◌⊎◌, ℕ, ◌+◌, ◌<◌, ◌≤◌, false, true, List, [], ◌∷◌, ◌++◌, None, Some, length}
use Rattle.table_formula.specs.Problems.{Problem}
use Rattle.table_formula.specs.declared.refutation.fault.LineFault.{LineFault}
use Rattle.table_formula.specs.declared.refutation.fault.LineFault.TheVariants.{NoEmptyClause}
use Rattle.table_formula.specs.declared.refutation.fault.RefuteError.{RefuteError}
use Rattle.table_formula.specs.declared.refutation.fault.RefuteError.TheVariants.{TooLong, At, OutOfMemory}
use Rattle.table_formula.specs.declared.limits.TheConstants.{LONGEST_REFUTATION}
use Rattle.table_formula.specs.Words.{lines_of}
use Rattle.table_formula.specs.Lines.{line_in}
use Rattle.table_formula.specs.Derivations.{Derivation, opening, line_fault, after_line, adds_empty}

-- the lines are right, one after another, and lead from a derivation to a later one; none of them adds the empty clause
abbrev pub Leads : Problem → Derivation → List (List ℕ) → Derivation → Type 0
Leads p d [] later = d ≡ later
Leads p d (line ∷ lines) later =
    (line_fault p d (line_in line) ≡ None) × (adds_empty (line_in line) ≡ false)
    × Leads p (after_line d (line_in line)) lines later

-- the text is not too long, and it has the line `here` after lines that lead from the formula to a derivation
pub record Reaches (p : Problem) (text : List ℕ) (before : List (List ℕ)) (here : List ℕ)
    (d : Derivation) : Type 0 where
  pub short : length text ≤ LONGEST_REFUTATION
  pub after : List (List ℕ)
  pub lines : lines_of text ≡ before ++ here ∷ after
  pub right : Leads p (opening p) before d

-- a line adds the empty clause, and it and all lines before it are right
abbrev pub IsRefutation : Problem → List ℕ → Type 0
IsRefutation p text =
    (before : List (List ℕ)) × (here : List ℕ) × (d : Derivation) × Reaches p text before here d
    × (line_fault p d (line_in here) ≡ None) × (adds_empty (line_in here) ≡ true)

-- the line with this number, counted from 1, has this fault; all lines before it are right, and none adds the empty
-- clause
abbrev pub HasFaultAt : Problem → List ℕ → ℕ → LineFault → Type 0
HasFaultAt p text line fault =
    (before : List (List ℕ)) × (here : List ℕ) × (d : Derivation) × Reaches p text before here d
    × (line_fault p d (line_in here) ≡ Some fault) × (line ≡ length before + 1)

-- the text is not too long, and all its lines are right and none adds the empty clause
abbrev pub LacksEmptyClause : Problem → List ℕ → Type 0
LacksEmptyClause p text = (length text ≤ LONGEST_REFUTATION) × (d : Derivation) × Leads p (opening p) (lines_of text) d

-- why a text was not found to be a refutation. Memory can be refused for each text that is not too long
abbrev pub IsFault : Problem → List ℕ → RefuteError → Type 0
IsFault p text TooLong = LONGEST_REFUTATION < length text
IsFault p text (At line fault) =
    HasFaultAt p text line fault ⊎ (LacksEmptyClause p text × (fault ≡ NoEmptyClause) × (line ≡ length (lines_of text)))
IsFault p text OutOfMemory = length text ≤ LONGEST_REFUTATION
