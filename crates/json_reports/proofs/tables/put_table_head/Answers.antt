use Rattle.std.proofs.Common.{[], ◌∷◌, codes, ◌∙◌}
use Rattle.json_reports.specs.Json.{kind, separation_fields, size_fields}
use Rattle.json_reports.proofs.Closings.{more, puts_more}
use Rattle.json_reports.proofs.tables.put_table_head.Goals as goal

pub returns : goal.returns
returns c =
    let t = c.args.table.now in
    let sizes = size_fields t.ids t.rounds t.channels in
    puts_more c.put_separation.result _ _ _ (kind (codes "table") ∷ sizes) (separation_fields c.args.separation)
    (more _ _ _ (kind (codes "table") ∷ []) sizes c.in_ok-put_text.ensures.ok c.in_ok-put_table_sizes.ensures.ok)
    (c.in_ok-put_table_sizes.ensures.before ∙ c.in_ok-put_text.ensures.before) c.put_separation.ensures
