use Rattle.std.proofs.Common.{◌≡◌, ℕ, ◌+◌, ◌*◌, ◌≤◌, suc, length, subst, sym, ap, ◌∙◌, arith}
use Rattle.std.proofs.Math.Nat.{mul-le-mul_right, mul-le-mul_left}
use Rattle.std.proofs.lemmas.Grind.{div_ceil_times}
use Rattle.std.specs.Int.{div_ceil}
use Rattle.win_index.specs.Falling.{falling}
use Rattle.win_index.proofs.Windows.{length-windows}
use Rattle.channel_tables.specs.Tables.{ChannelTable, windows_of}
use Rattle.nbhd_check.specs.Buckets.{wide}
use Rattle.nbhd_check.proofs.Parts.{few_parts}
use Rattle.nbhd_check.proofs.search.buckets_of.Goals.{After-div_ceil}
use Rattle.nbhd_check.proofs.search.buckets_of.Goals as goal

-- the buckets that have one of the first windows
record Buckets (t : ChannelTable) (most buckets : ℕ) : Type 0 where
  within : buckets * wide t ≤ length (windows_of t)
  all : most ≤ buckets * wide t
  few : buckets ≤ buckets * wide t

first_buckets : (t : ChannelTable) (most each buckets : ℕ) → 1 ≤ each → each ≡ wide t → buckets ≡ div_ceil most each
    → most ≤ length (windows_of t) → Buckets t most buckets
first_buckets t most each buckets some each_is buckets_are le =
    let k : ℕ = 2 * t.rounds in
    let turn : k + 1 ≡ suc k = omega arith in
    let count : length (windows_of t) ≡ falling t.ids k * each =
    length-windows (k + 1) t.ids ∙ ap (falling t.ids) turn ∙ ap (λ n. falling t.ids k * n) (sym each_is) in
    let few = few_parts most each (falling t.ids k) some (omega (arith, le, count)) in
    let bound : buckets * each ≤ falling t.ids k * each = mul-le-mul_right each (omega (arith, few, buckets_are)) in
    let reach = subst (λ r. most ≤ r * each) (sym buckets_are) (div_ceil_times most each some).0 in
    let same : buckets * each ≡ buckets * wide t = ap (λ n. buckets * n) each_is in
    record {
      within = omega (arith, bound, count, same);
      all = omega (arith, reach, same);
      few = omega (arith, mul-le-mul_left buckets some, same);
    }

own : (c : After-div_ceil) → Buckets c.args.table.now c.args.most c.div_ceil.result
own c =
    first_buckets c.args.table.now c.args.most c.windows_per_bucket.result c.div_ceil.result
    c.windows_per_bucket.ensures.some
    c.windows_per_bucket.ensures.value c.div_ceil.ensures c.requires

pub returns-clause-within : goal.returns-clause-within
returns-clause-within c = (own (goal.at.returns-clause-within c).After-div_ceil).within

pub returns-clause-few : goal.returns-clause-few
returns-clause-few c =
    let buckets = own (goal.at.returns-clause-few c).After-div_ceil in
    omega (arith, buckets.few, buckets.within, c.windows_per_bucket.ensures.table.begun.shape.few_windows)

pub returns-clause-all : goal.returns-clause-all
returns-clause-all c = (own (goal.at.returns-clause-all c).After-div_ceil).all
