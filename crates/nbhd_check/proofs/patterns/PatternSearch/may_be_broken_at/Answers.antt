use Rattle.std.proofs.Common.{◌≡◌, ◌+◌, ◌*◌, ◌%◌, ℕ, get_or, bit_and, subst, sym, ap, ◌∙◌, arith}
use Rattle.std.proofs.lemmas.Bool.{OnFalse_from}
use Rattle.nbhd_check.specs.Masks.{HasBitsOf}
use Rattle.nbhd_check.specs.MiddleBuckets.{in_bucket}
use Rattle.nbhd_check.specs.PatternSearch.{IsSecondClear}
use Rattle.nbhd_check.specs.Buckets.{second_gap, second_bucket, wide}
use Rattle.nbhd_check.specs.ChannelSets.{HasWords}
use Rattle.nbhd_check.proofs.BeforeSteps.{HasCell, has_cell}
use Rattle.nbhd_check.proofs.PatternSteps.{clear_by_words, has_once, has_rest, nothing}
use Rattle.nbhd_check.proofs.patterns.PatternSearch.may_be_broken_at.Goals.{Start}
use Rattle.nbhd_check.proofs.patterns.PatternSearch.may_be_broken_at.Goals as goal

cell : (c : Start) → HasCell c.args.self.now.table.now c.args.next c.args.place
cell c = has_cell c.args.self.now.table.now c.args.next c.args.place c.args.self.now.table_is.size c.requires.next c.requires.place

pub bucket_at-requires : goal.bucket_at-requires
bucket_at-requires c =
    let own = cell (goal.at.bucket_at-requires c).Start in
    let table = c.args.self.now.table_is in
    omega (arith, own.first_few, own.at.next_few, table.size, table.begun.shape.few_windows)

pub middle-requires : goal.middle-requires
middle-requires c =
    let own = cell (goal.at.middle-requires c).Start in
    let same = ap (λ n. n * wide c.args.self.now.table.now) c.bucket_at.ensures in
    omega (arith, same, own.at.next_within, c.args.self.now.table_is.size)

pub returns-then-thirds-second-eq0 : goal.returns-then-thirds-second-eq0
returns-then-thirds-second-eq0 c =
    let self' = c.args.self.now in
    let t = self'.table.now in
    let next = c.args.next in
    let before = self'.before.items in
    let bucket : ℕ = second_bucket next c.args.place in
    let own = cell (goal.at.returns-then-thirds-second-eq0 c).Start in
    let within = c.requires.next.within in
    let n : ℕ = next.bucket * wide t + c.args.place in
    let b : ℕ = get_or t.entries n 0 in
    let same : get_or c.entries.result.now (next.bucket * c.windows_per_bucket.result + c.args.place) 0 ≡ b =
    λ i. get_or (c.entries.ensures.value i) (next.bucket * c.windows_per_bucket.ensures.value i + c.args.place) 0 in
    let in_limit = self'.below b
    (self'.table_is.begun.below n 0 (omega (arith, within, c.requires.place, self'.table_is.size))) in
    let words = subst (λ r. HasWords (in_bucket t t.entries r) c.middle.result.words) c.bucket_at.ensures c.middle.ensures.words in
    clear_by_words t self'.problem.now before self'.bits.items next self'.limit c.args.place
    (get_or c.args.thirds.now (b % 64) 0)
    c.middle.result.words.once self'.table_is self'.bits_are self'.below (omega (arith, within, self'.table_is.size)) c.requires.place
    (λ first lt other below. c.requires.thirds (get_or before (next.bucket * wide t + first) 0) b (self'.below _ below) in_limit
    (has_once t before next.bucket first c.args.words (omega (arith, within, self'.before_size)) lt c.requires.words))
    (λ third lt other. has_once t t.entries bucket third c.middle.result.words own.at.next_within lt words)
    (ap (λ x. bit_and (get_or c.args.thirds.now (x % 64) 0) c.middle.result.words.once) (sym same)
    ∙ c.if-thirds-second-eq0.true)

pub returns : goal.returns
returns c =
    let self' = c.args.self.now in
    let t = self'.table.now in
    let next = c.args.next in
    let before = self'.before.items in
    let place : ℕ = c.args.place in
    let bucket : ℕ = second_bucket next place in
    let own = cell (goal.at.returns c).Start in
    let within = c.requires.next.within in
    let each_is = c.windows_per_bucket.ensures.value in
    let b : ℕ = get_or t.entries (next.bucket * wide t + place) 0 in
    let same : get_or c.entries.result.now (next.bucket * c.windows_per_bucket.result + place) 0 ≡ b =
    λ i. get_or (c.entries.ensures.value i) (next.bucket * each_is i + place) 0 in
    let words = subst (λ r. HasWords (in_bucket t t.entries r) c.middle.result.words) c.bucket_at.ensures c.middle.ensures.words in
    let here = c.channel_before.ensures ∙ ap (λ e. get_or before (next.bucket * e + place) 0) each_is in
    OnFalse_from _ (IsSecondClear t self'.problem.now before next place) (λ no.
    clear_by_words t self'.problem.now before self'.bits.items next self'.limit place c.thirds_after.result c.without-ends.result
    self'.table_is self'.bits_are self'.below (omega (arith, within, self'.table_is.size)) c.requires.place
    (λ first lt other below.
    let a : ℕ = get_or before (next.bucket * wide t + first) 0 in
    let has = has_rest t before next.bucket place first c.channel_before.result c.without-firsts.result c.args.words
    (omega (arith, within, self'.before_size)) c.requires.place lt other c.requires.words here c.without-firsts.ensures in
    subst (λ x. HasBitsOf c.thirds_after.result (get_or self'.bits.items (a % 64 * 64 + x % 64) 0)) same
    (subst (λ list. HasBitsOf c.thirds_after.result (get_or list (a % 64 * 64 + get_or c.entries.result.now (next.bucket * c.windows_per_bucket.result + place) 0 % 64) 0))
    c.deref.ensures.value (c.thirds_after.ensures a (self'.below a below) has)))
    (λ third lt other. has_rest t t.entries bucket (second_gap next place) third c.channel_at_gap.result c.without-ends.result c.middle.result.words
    own.at.next_within own.at.gap_inside lt other words c.channel_at_gap.ensures c.without-ends.ensures)
    (nothing _ no))
