use Rattle.std.proofs.Common.{◌≡◌, ◌+◌, ◌*◌, ◌≤◌, Some, slice_get, subst, sym, ap, ◌∙◌}
use Rattle.std.proofs.lemmas.Option.{same_Some}
use Rattle.win_index.specs.Windows.{number_of, windows}
use Rattle.channel_tables.specs.Tables.{windows_of}
use Rattle.nbhd_check.specs.Buckets.{wide}
use Rattle.nbhd_check.proofs.PatternSteps.{number_before}
use Rattle.nbhd_check.proofs.patterns.PatternSearch.number_before.Goals as goal

pub returns : goal.returns
returns c number x z item turned =
    let t = c.args.self.now.table.now in
    let rounds_is = c.rounds-level.ensures ∙ c.shape-shape.ensures.rounds in
    let at_here : slice_get (windows_of t) (c.args.bucket * wide t + c.args.place) ≡ Some c.window.new.out =
    (λ i. slice_get (windows (2 * sym rounds_is i + 1) (sym c.shape-shape.ensures.ids i)) (c.args.bucket * sym c.windows_per_bucket.ensures.value i + c.args.place))
    ∙ c.window.ensures.item in
    let whole = same_Some c.window.new.out _ (sym at_here ∙ turned) in
    let found = c.number.ensures.number
    ∙ ap (number_of (2 * c.rounds-level.result + 1) c.shape-shape.result.ids) c.rotate_right.ensures.after in
    subst (λ n. n ≤ number) (sym c.unwrap_or.ensures)
    (number_before t c.rounds-level.result c.shape-shape.result.ids number x c.window.new.out z c.number.result rounds_is c.shape-shape.ensures.ids found whole item)
