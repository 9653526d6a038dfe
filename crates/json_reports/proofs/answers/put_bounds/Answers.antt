use Rattle.std.proofs.Common.{[], ◌∷◌, codes}
use Rattle.json_reports.specs.Json.{numbered}
use Rattle.json_reports.proofs.Closings.{puts_more}
use Rattle.json_reports.proofs.answers.put_bounds.Goals as goal

pub returns : goal.returns
returns c =
    puts_more c.put_number-2.result _ _ _ (numbered (codes "bound") c.args.bound ∷ [])
    (numbered (codes "windows") c.args.windows ∷ [])
    c.in_ok-put_number.ensures.ok c.in_ok-put_number.ensures.before c.put_number-2.ensures
