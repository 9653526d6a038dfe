use Rattle.std.proofs.Common.{[], ◌∷◌, codes, ◌∙◌}
use Rattle.json.specs.Json.{boolean, string}
use Rattle.node_lang.specs.Printed.{own_word}
use Rattle.node_program.specs.Term.{term_of}
use Rattle.json_reports.specs.Json.{numbered}
use Rattle.json_reports.specs.Values.{Field}
use Rattle.json_reports.proofs.Closings.{more, puts_more}
use Rattle.json_reports.proofs.trees.put_part_fields.Goals as goal

pub returns : goal.returns
returns c =
    let part = c.args.part.now in
    let depth = numbered (codes "depth") part.depth in
    let word : Field = (codes "word", string (own_word (term_of part.expression.now))) in
    let value = numbered (codes "value") part.value in
    puts_more c.put_boolean.result _ _ _ (depth ∷ word ∷ value ∷ []) ((codes "taken", boolean part.counts) ∷ [])
    (more _ _ _ (depth ∷ word ∷ []) (value ∷ [])
    (more _ _ _ (depth ∷ []) (word ∷ []) c.in_ok-put_number.ensures.ok c.in_ok-put_word.ensures.ok) c.in_ok-put_number-2.ensures.ok)
    (c.in_ok-put_number-2.ensures.before ∙ c.in_ok-put_word.ensures.before ∙ c.in_ok-put_number.ensures.before) c.put_boolean.ensures
