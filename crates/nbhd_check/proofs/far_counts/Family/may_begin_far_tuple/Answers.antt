use Rattle.std.proofs.Common.{◌≡◌, ℕ, ◌+◌, [], ◌∷◌, ◌++◌, nat_lt, ap, ◌∙◌, arith}
use Rattle.std.specs.Int.{abs_diff}
use Rattle.std.proofs.lemmas.Bool.{OnFalse_from, ltb-false}
use Rattle.nbhd_check.specs.Counts.{held_count}
use Rattle.nbhd_check.specs.Buckets.{BeginsFarTuple}
use Rattle.nbhd_check.proofs.FarCounts.{none_far}
use Rattle.nbhd_check.proofs.far_counts.Family.may_begin_far_tuple.Goals as goal

pub returns : goal.returns
returns c =
    let t = c.args.self.table.now in
    let numbers = c.args.numbers in
    let list = c.args.first ∷ c.args.second ∷ c.args.self.shared.now in
    let low = c.requires.counted.0 in
    let n = c.requires.counted.1.0 in
    let sums = c.requires.counted.1.1.1 in
    let count : ℕ → ℕ = λ x. held_count t low n x
    (λ other. nat_lt (abs_diff c.channel_at-channel.result other) c.args.self.distance) in
    let ids_is : c.ids-ids.result ≡ t.ids = c.ids-ids.ensures ∙ c.shape.ensures.ids in
    let all_is : c.close_count-all.result ≡ count t.ids = c.close_count-all.ensures low n sums ∙ ap count ids_is in
    let held : ℕ = c.from.result + c.from-2.result in
    let close : ℕ = c.from-all.result + c.close_one-one.result + c.close_one-other.result in
    OnFalse_from (nat_lt held close) (¬ BeginsFarTuple t c.args.self.distance list)
    (λ no.
    none_far t c.args.self.distance numbers.before c.channel_at-channel.result low n numbers.after numbers.turned c.close_one-one.result c.close_one-other.result list
    c.args.self.some.0 c.requires.numbers.before c.channel_at-channel.ensures.value c.requires.counted.1.1.0 c.requires.numbers.after c.requires.numbers.turned
    c.close_one-one.ensures.close c.close_one-other.ensures.close
    (omega (arith, ltb-false held close no, all_is, c.close_count-with_first.ensures low n sums, c.close_count-with_second.ensures low n sums)))

pub channel_at-channel-requires : goal.channel_at-channel-requires
channel_at-channel-requires c = (c.args.first ∷ c.args.second ∷ c.args.self.shared.now, c.requires.numbers.before)

pub close_one-one-requires : goal.close_one-one-requires
close_one-one-requires c = (c.args.self.shared.now ++ c.args.first ∷ c.args.second ∷ [], c.requires.numbers.after)

pub close_one-other-requires : goal.close_one-other-requires
close_one-other-requires c = (c.args.self.shared.now ++ c.args.second ∷ c.args.first ∷ [], c.requires.numbers.turned)
