use Rattle.std.proofs.Common.{[], ◌∷◌, ◌++◌, map, length, get_or, append_assoc, sym, ap, ◌∙◌}
use Rattle.node_program.specs.Term.{ProgramTree}
use Rattle.node_program.specs.Node.{knowing_id, reading_messages}
use Rattle.node_program.specs.GlobalRounds.{state}
use Rattle.round_eval.specs.Configuration.{RingConfiguration}
use Rattle.value_trees.specs.Explanation.{before_messages}
use Rattle.value_trees.specs.declared.trees.Given.TheVariants.{Channel}
use Rattle.value_trees.specs.ValueTrees.{tree_at, assigned_trees, trees_of_rounds, tree_value}
use Rattle.value_trees.proofs.Roots.{at_place}
use Rattle.value_trees.proofs.Rows.{pushed_is}
use Rattle.value_trees.proofs.trees.trees_of.Goals as goal

pub returns : goal.returns
returns c =
    let p = c.args.plan.now.program in
    let x = c.args.ring.now.places in
    let i = c.args.place in
    let program = c.program-program.ensures.value in
    let held = c.in_ok-places.ensures in
    let id = at_place x i c.id.result c.id.ensures in
    let knows = c.knowing-known.ensures ∙ ap knowing_id (sym id) in
    let starts = c.start.ensures.value ∙ ap (λ (t : ProgramTree). t.start) program in
    let first = c.in_ok-push_assigned.ensures
    ∙ (λ k. map tree_value (c.new-trees.ensures.items k) ++ assigned_trees 0 (knows k) 0 (starts k)) in
    let rounds = c.in_ok-push_rounds.ensures.trees
    ∙ ap (λ (s : RingConfiguration). map tree_value c.push_assigned.new.trees.items
    ++ trees_of_rounds s.program s.places i 0 s.program.steps) held in
    let after = c.in_ok-push_rounds.ensures.done
    ∙ ap (λ (s : RingConfiguration). record s { round = length s.program.steps }) held in
    let own = c.held_by.ensures.value ∙ ap (λ (s : RingConfiguration). state s.program s.places s.round i) after in
    let reads = c.environment-last.ensures ∙ ap (λ registers. reading_messages registers 0 0) own in
    let finish = c.finish.ensures.value ∙ ap (λ (t : ProgramTree). t.finish) program in
    let number = c.round.ensures.value ∙ ap (λ (s : RingConfiguration). s.round) after in
    let last = c.in_ok-tree_of.ensures ∙ (λ k. tree_at (number k) Channel (reads k) (finish k)) in
    let all = trees_of_rounds p x i 0 p.steps in
    let end = tree_at (length p.steps) Channel (before_messages p x i (length p.steps)) p.finish in
    pushed_is tree_value c.push_rounds.new.trees.items _ c.in_ok-tree_of.field-0 end c.in_ok-push.ensures.items last
    ∙ ap (λ l. l ++ end ∷ []) (rounds ∙ ap (λ l. l ++ all) first)
    ∙ append_assoc (assigned_trees 0 (knowing_id (get_or x i 0)) 0 p.start) all (end ∷ [])
