-- The text of a formula in DIMACS. Variables are numbered from 1 on.
use Rattle.std.specs.Prelude.{ℕ, ◌+◌, List, [], ◌++◌, length, codes, if◌then◌else◌}
use Rattle.std.specs.Fmt.{decimal}
use Rattle.std.specs.List.{flat_map}
use Rattle.ring_problems.specs.declared.pattern.Pattern.{Pattern}
use Rattle.ring_problems.specs.PatternTexts.{patterns_text}
use Rattle.table_formula.specs.declared.literal.Literal.{Literal}
use Rattle.table_formula.specs.Problems.{Problem}
use Rattle.table_formula.specs.Formula.{variable_count, formula}

-- the number of a literal's variable, counted from 1, after a sign if the literal is negative, and a blank
abbrev pub literal_text : Literal → List ℕ
literal_text l = (if l.is_positive then [] else codes "-") ++ (decimal (l.variable + 1) ++ codes " ")

-- the line of a clause
abbrev pub clause_text : List Literal → List ℕ
clause_text clause = flat_map literal_text clause ++ codes "0\n"

-- a comment with the forbidden patterns, if there are any
abbrev pub patterns_line : List Pattern → List ℕ
patterns_line [] = []
patterns_line patterns = codes "c forbid" ++ (patterns_text patterns ++ codes "\n")

-- the line with the numbers of variables and of clauses
abbrev pub head_text : Problem → List ℕ
head_text p =
    codes "p cnf " ++ (decimal (variable_count p) ++ codes " " ++ (decimal (length (formula p)) ++ codes "\n"))

-- that line, and the lines of the clauses in order
abbrev pub clauses_text : Problem → List ℕ
clauses_text p = head_text p ++ flat_map clause_text (formula p)

-- the whole text
abbrev pub formula_text : Problem → List ℕ
formula_text p = patterns_line p.forbidden ++ clauses_text p
