-- The lines of trees of values, below their headings.
use Rattle.std.specs.Prelude.{ℕ, List, ◌++◌, map, codes}
use Rattle.std.specs.List.{flat_map}
use Rattle.numerals.specs.Numerals.{form_of, padded}
use Rattle.numerals.specs.declared.base.Base.{Base}
use Rattle.numerals.specs.declared.rows.Form.{Form}
use Rattle.value_trees.specs.Parts.{beginning, ending}
use Rattle.value_trees.specs.Explanation.{register_heading, side_heading, finish_heading}
use Rattle.value_trees.specs.ValueTrees.{ValuedPart, ValueTree, unvalued}
use Rattle.value_trees.specs.declared.trees.Given.{Given}
use Rattle.value_trees.specs.declared.trees.Given.TheVariants.{Register, Left, Right, Channel}

-- the line of a part
abbrev pub told_value : Form → ValuedPart → List ℕ
told_value form p = beginning (unvalued p) ++ (padded form p.value ++ ending p.counts)

-- the values of parts
abbrev pub part_values : List ValuedPart → List ℕ
part_values parts = map (λ p. p.value) parts

-- the lines of parts, all values in the form of values that are written together in this base
abbrev pub told_values : Base → List ValuedPart → List ℕ
told_values b parts = flat_map (told_value (form_of b (part_values parts))) parts

-- the heading of what an expression gives in a round
abbrev pub heading : ℕ → Given → List ℕ
heading r (Register j) = register_heading r j
heading r Left = side_heading (codes " left") r
heading r Right = side_heading (codes " right") r
heading r Channel = finish_heading r

-- a tree below its heading
abbrev pub told_tree : Base → ValueTree → List ℕ
told_tree b t = heading t.round t.given ++ (codes "\n" ++ told_values b t.parts)

abbrev pub told_trees : Base → List ValueTree → List ℕ
told_trees b trees = flat_map (told_tree b) trees
