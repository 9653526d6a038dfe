use Rattle.std.proofs.Common.{◌≡◌, ℕ, ◌*◌, arith}
use Rattle.std.proofs.Math.Nat.{add-mul, mul-le-mul_right}
use Rattle.channel_tables.specs.Apart.{bucket_len}
use Rattle.channel_tables.proofs.Tables.{all_buckets}
use Rattle.nbhd_check.proofs.far.has_bad_tuple.Goals as goal

pub least_bad-requires-clause-within : goal.least_bad-requires-clause-within
least_bad-requires-clause-within c =
    let t = c.args.tuples.windows.now in
    let s = c.args.tuples.separation in
    let len : ℕ = bucket_len t s in
    let low : c.from.result * c.per_window-each.result ≡ c.args.first * len =
    λ q. c.from.ensures q * c.per_window-each.ensures.value q in
    let more : c.from-2.result * c.per_window-each.result ≡ c.args.count * len =
    λ q. c.from-2.ensures q * c.per_window-each.ensures.value q in
    omega (arith, low, more, add-mul c.args.first c.args.count len, mul-le-mul_right len c.requires, all_buckets t s)
