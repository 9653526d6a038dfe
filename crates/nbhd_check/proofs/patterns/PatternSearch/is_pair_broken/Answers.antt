use Rattle.std.proofs.Common.{◌+◌, ◌*◌, get_or, ap, ◌∙◌, arith}
use Rattle.std.proofs.lemmas.Bool.{OnFalse_at, OnFalse_from}
use Rattle.nbhd_check.specs.MiddleBuckets.{in_bucket}
use Rattle.nbhd_check.specs.Buckets.{wide}
use Rattle.nbhd_check.proofs.BeforeSteps.{HasCell, has_cell}
use Rattle.nbhd_check.proofs.PatternSteps.{pair_is_clear}
use Rattle.nbhd_check.proofs.patterns.PatternSearch.is_pair_broken.Goals.{Start}
use Rattle.nbhd_check.proofs.patterns.PatternSearch.is_pair_broken.Goals as goal

cell : (c : Start) → HasCell c.args.self.now.table.now c.args.next c.args.second
cell c = has_cell c.args.self.now.table.now c.args.next c.args.second c.args.self.now.table_is.size c.requires.next c.requires.second

pub bucket_at-requires : goal.bucket_at-requires
bucket_at-requires c =
    let own = cell (goal.at.bucket_at-requires c).Start in
    let table = c.args.self.now.table_is in
    omega (arith, own.first_few, own.at.next_few, table.size, table.begun.shape.few_windows)

pub channels_of-thirds-requires : goal.channels_of-thirds-requires
channels_of-thirds-requires c =
    let own = cell (goal.at.channels_of-thirds-requires c).Start in
    let same = ap (λ n. n * wide c.args.self.now.table.now) c.bucket_at.ensures in
    omega (arith, same, own.at.next_within)

pub returns : goal.returns
returns c =
    let self' = c.args.self.now in
    let t = self'.table.now in
    let next = c.args.next in
    let each_is = c.windows_per_bucket.ensures.value in
    let own = cell (goal.at.returns c).Start in
    OnFalse_from c.has_forbidden_third.result _
    (λ none. pair_is_clear t self'.problem.now self'.before.items next c.args.first c.args.second c.gap_at.result _ c.channels_of-thirds.result.now
    own.at.next_within
    (c.channel_before-before.ensures ∙ ap (λ n. get_or self'.before.items (next.bucket * n + c.args.first) 0) each_is)
    (λ i. get_or (c.entries.ensures.value i) (next.bucket * each_is i + c.args.second) 0)
    (c.channels_of-thirds.ensures ∙ ap (in_bucket t t.entries) c.bucket_at.ensures) c.gap_at.ensures
    (OnFalse_at none c.has_forbidden_third.ensures))
