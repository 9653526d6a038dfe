use Rattle.std.proofs.Common.{[], ◌∷◌, codes, map, ◌∙◌}
use Rattle.json_reports.specs.Json.{kind, numbered, tree_value as tree_json}
use Rattle.json_reports.specs.Values.{array_of}
use Rattle.value_trees.specs.ValueTrees.{tree_value}
use Rattle.json_reports.proofs.Closings.{more, puts_more}
use Rattle.json_reports.proofs.trees.put_place_trees.Goals as goal

pub returns : goal.returns
returns c =
    let named = kind (codes "explanation") in
    let place = numbered (codes "place") c.args.place in
    puts_more c.put_trees.result _ _ _ (named ∷ place ∷ [])
    ((codes "trees", array_of (map tree_json (map tree_value c.args.trees.now))) ∷ [])
    (more _ _ _ (named ∷ []) (place ∷ []) c.in_ok-put_text.ensures.ok c.in_ok-put_number.ensures.ok)
    (c.in_ok-put_number.ensures.before ∙ c.in_ok-put_text.ensures.before) c.put_trees.ensures
