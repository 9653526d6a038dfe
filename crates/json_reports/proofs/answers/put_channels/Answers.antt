use Rattle.std.proofs.Common.{[], ◌∷◌, codes}
use Rattle.json_reports.specs.Json.{kind}
use Rattle.json_reports.specs.Values.{numbers}
use Rattle.json_reports.proofs.Closings.{puts_more}
use Rattle.json_reports.proofs.answers.put_channels.Goals as goal

pub returns : goal.returns
returns c =
    puts_more c.put_numbers.result _ _ _ (kind (codes "channels") ∷ [])
    ((codes "channels", numbers c.args.channels.now) ∷ [])
    c.in_ok-put_text.ensures.ok c.in_ok-put_text.ensures.before c.put_numbers.ensures
