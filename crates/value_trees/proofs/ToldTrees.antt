-- The lines of trees of values are those of an explanation.
use Rattle.std.proofs.Common.{◌≡◌, ℕ, ◌+◌, List, [], ◌∷◌, ◌++◌, map, length, slice_index, codes, refl, append-nil}
use Rattle.std.proofs.Common.{ap, ◌∙◌}
use Rattle.std.specs.List.{flat_map}
use Rattle.std.proofs.lemmas.Grind.{flat_map-append}
use Rattle.std.proofs.lemmas.List.Folds.{flat_map-map}
use Rattle.std.proofs.lemmas.Simd.{map-map}
use Rattle.node_program.specs.Term.{Term, Round, ProgramTree}
use Rattle.node_program.specs.Value.{Env}
use Rattle.node_program.specs.Node.{knowing_id}
use Rattle.numerals.specs.Numerals.{form_of}
use Rattle.numerals.specs.declared.base.Base.{Base}
use Rattle.value_trees.specs.declared.trees.Given.{Given}
use Rattle.value_trees.specs.declared.trees.Given.TheVariants.{Register, Left, Right, Channel}
use Rattle.value_trees.specs.Trees.{parts_at, values_of, tree_lines}
use Rattle.value_trees.specs.Explanation.{headed, assigned_lines, before_messages, with_messages, round_trees}
use Rattle.value_trees.specs.Explanation.{rounds_trees, explanation}
use Rattle.value_trees.specs.ValueTrees.{ValuedPart, valued, tree_at, assigned_trees, trees_of_round}
use Rattle.value_trees.specs.ValueTrees.{trees_of_rounds, value_trees}
use Rattle.value_trees.specs.ToldTrees.{told_value, part_values, heading, told_tree, told_trees}

tree_told : (b : Base) (r : ℕ) (given : Given) (env : Env) (e : Term)
    → told_tree b (tree_at r given env e) ≡ headed (heading r given) b env e
unfolding tree_at tree_lines
tree_told b r given env e =
    let parts = parts_at env 0 e in
    let values : part_values (map (valued env) parts) ≡ values_of env parts =
    map-map (λ (p : ValuedPart). p.value) (valued env) parts in
    let form = form_of b (values_of env parts) in
    ap (λ l. heading r given ++ (codes "\n" ++ l))
    (ap (λ ns. flat_map (told_value (form_of b ns)) (map (valued env) parts)) values
    ∙ flat_map-map (told_value form) (valued env) parts)

assigned_told : (b : Base) (r : ℕ) (env : Env) (j : ℕ) (es : List Term)
    → told_trees b (assigned_trees r env j es) ≡ assigned_lines r b env j es
assigned_told b r env j [] = refl
assigned_told b r env j (e ∷ es) = λ k. tree_told b r (Register j) env e k ++ assigned_told b r env (j + 1) es k

round_told : (b : Base) (p : ProgramTree) (x : List ℕ) (i r : ℕ) (s : Round)
    → told_trees b (trees_of_round p x i r s) ≡ round_trees b p x i r s
round_told b p x i r s =
    λ k. tree_told b (r + 1) Left (before_messages p x i r) s.left k
    ++ (tree_told b (r + 1) Right (before_messages p x i r) s.right k
    ++ assigned_told b (r + 1) (with_messages p x i r) 0 s.next k)

rounds_told : (b : Base) (p : ProgramTree) (x : List ℕ) (i r : ℕ) (ss : List Round)
    → told_trees b (trees_of_rounds p x i r ss) ≡ rounds_trees b p x i r ss
rounds_told b p x i r [] = refl
rounds_told b p x i r (s ∷ ss) =
    flat_map-append (told_tree b) (trees_of_round p x i r s) (trees_of_rounds p x i (r + 1) ss)
    ∙ (λ k. round_told b p x i r s k ++ rounds_told b p x i (r + 1) ss k)

pub explanation_told : (b : Base) (p : ProgramTree) (x : List ℕ) (i : ℕ)
    → told_trees b (value_trees p x i) ≡ explanation b p x i
explanation_told b p x i =
    let before = assigned_trees 0 (knowing_id (slice_index x i)) 0 p.start in
    let rounds = trees_of_rounds p x i 0 p.steps in
    let env = before_messages p x i (length p.steps) in
    let last = tree_at (length p.steps) Channel env p.finish in
    let finish = append-nil (told_tree b last) ∙ tree_told b (length p.steps) Channel env p.finish in
    let later = flat_map-append (told_tree b) rounds (last ∷ []) ∙ (λ k. rounds_told b p x i 0 p.steps k ++ finish k) in
    flat_map-append (told_tree b) before (rounds ++ last ∷ [])
    ∙ (λ k. assigned_told b 0 (knowing_id (slice_index x i)) 0 p.start k ++ later k)
