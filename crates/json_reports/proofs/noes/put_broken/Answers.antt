use Rattle.std.proofs.Common.{[], ◌∷◌, codes, take, ◌∙◌}
use Rattle.json_reports.specs.Json.{kind, pattern_value, witness_fields}
use Rattle.json_reports.proofs.Closings.{more, puts_more}
use Rattle.reports.specs.Bytes.{places_from, shown}
use Rattle.json_reports.proofs.noes.put_broken.Goals as goal

pub returns : goal.returns
returns c =
    let w = c.args.witness.now in
    let count = shown w.pattern in
    let named = kind (codes "no") ∷ [] in
    let demanded = (codes "pattern", pattern_value w.pattern) ∷ [] in
    puts_more c.put_match.result _ _ _ (kind (codes "no") ∷ (codes "pattern", pattern_value w.pattern) ∷ [])
    (witness_fields w.ring.items (places_from w.ring.items w.place count) (take count (w.channels.0 ∷ w.channels.1 ∷ w.channels.2 ∷ [])))
    (more _ _ _ named demanded c.in_ok-put_text.ensures.ok c.in_ok-put_pattern_field.ensures.ok)
    (c.in_ok-put_pattern_field.ensures.before ∙ c.in_ok-put_text.ensures.before) c.put_match.ensures
