-- What is known of buckets, bucket by bucket.
use Rattle.std.proofs.Common.{◌≡◌, ◌≢◌, ℕ, suc, ◌+◌, ◌*◌, ◌/◌, ◌^◌, ◌<◌, ◌≤◌, List, length, get_or, set, slice_get}
use Rattle.std.proofs.Common.{Some, subst, sym, ap, ◌∙◌, arith, ⊎_elim}
use Rattle.std.proofs.Math.Nat.{mul-div_cancel, mul-le-mul_right}
use Rattle.std.proofs.lemmas.Bool.{cases_eq, cases_lt}
use Rattle.std.proofs.lemmas.Bool.Decides.{nat_tests}
use Rattle.std.proofs.lemmas.List.{get_or-set_same, get_or-set_other}
use Rattle.std.proofs.lemmas.Option.{get_or_from_slice_get, slice_get-get_or}
use Rattle.win_index.specs.Falling.{falling}
use Rattle.win_index.proofs.Windows.{length-windows}
use Rattle.channel_tables.specs.Tables.{ChannelTable, IsTable, windows_of}
use Rattle.nbhd_check.specs.declared.middle_buckets.MiddleBucket.{MiddleBucket}
use Rattle.nbhd_check.specs.declared.near.SecondBuckets.{SecondBuckets}
use Rattle.nbhd_check.specs.MiddleBuckets.{AreMiddleBuckets, AreNextBuckets, IsMiddleBucket}
use Rattle.nbhd_check.specs.Buckets.{SecondBucketsOf, second_gap, second_bucket, wide}
use Rattle.nbhd_check.proofs.SecondBuckets.{AtPlace, at_place, at_place_by, second_at}
use Rattle.nbhd_check.proofs.Suffixes.{bucket_within}

-- there are windows in each bucket, and as many buckets as one divides the windows into
pub wide_some : (t : ChannelTable) → IsTable t → 1 ≤ wide t
wide_some t table = let enough = table.begun.shape.ids.enough in omega arith

pub buckets_are : (t : ChannelTable) (each windows buckets : ℕ) → IsTable t → each ≡ wide t
    → windows ≡ length (windows_of t)
    → buckets ≡ windows / each
    → buckets * wide t ≡ length (windows_of t)
buckets_are t each windows buckets table each_is windows_are is =
    let k : ℕ = 2 * t.rounds in
    let turn : k + 1 ≡ suc k = omega arith in
    let count : length (windows_of t) ≡ falling t.ids k * wide t =
    length-windows (k + 1) t.ids ∙ ap (falling t.ids) turn in
    let some : 0 < wide t = omega (arith, wide_some t table) in
    let whole : buckets ≡ falling t.ids k =
    is ∙ (λ i. windows_are i / each_is i) ∙ ap (λ n. n / wide t) count ∙ mul-div_cancel (falling t.ids k) some in
    ap (λ n. n * wide t) whole ∙ sym count

-- the numbers of next buckets are small
pub next_small : (t : ChannelTable) (buckets : SecondBuckets) → IsTable t → SecondBucketsOf t buckets
    → (buckets.first < 2 ^ 32) × (buckets.gap < 2 ^ 32)
next_small t buckets table are =
    let own = at_place t buckets 0 table.size are (omega (arith, wide_some t table)) in
    let first : buckets.first ≤ second_bucket buckets 0 = grind (arith, nat_tests) in
    let gap : buckets.gap ≤ second_gap buckets 0 + 1 = grind (arith, nat_tests) in
    (omega (arith, first, own.next_few, table.size, table.begun.shape.few_windows), omega (arith, gap, own.gap_inside, table.begun.shape.ids.few))

-- where the next windows are
pub next_known : (t : ChannelTable) (buckets : SecondBuckets) → IsTable t → SecondBucketsOf t buckets
    → AreNextBuckets t buckets
next_known t buckets table are =
    record {
      some = are.some;
      within = omega (arith, bucket_within t buckets.bucket are.front table.size are.front_at, table.size);
      each = λ place window inside item. second_at t buckets place window are inside item;
    }

pub next_place : (t : ChannelTable) (buckets : SecondBuckets) (place : ℕ) → length t.entries ≡ length (windows_of t)
    → AreNextBuckets t buckets → place < wide t
    → AtPlace t buckets place
next_place t buckets place full are inside =
    at_place_by t buckets place full are.some are.within inside (λ window item. are.each place window inside item)

-- one bucket more is known
pub known_more : (t : ChannelTable) (start place : ℕ) (part : List MiddleBucket) (own : MiddleBucket)
    → place < length part
    → IsMiddleBucket t (start + place) own
    → ((i : ℕ) (middle : MiddleBucket) → i < place → slice_get part i ≡ Some middle
    → IsMiddleBucket t (start + i) middle)
    → (i : ℕ) (middle : MiddleBucket) → i < place + 1 → slice_get (set part place own) i ≡ Some middle
    → IsMiddleBucket t (start + i) middle
known_more t start place part own within is before i middle lt item =
    let there : get_or (set part place own) i middle ≡ middle =
    get_or_from_slice_get (set part place own) i middle middle item in
    ⊎_elim
    (λ (same : i ≡ place).
    let new : own ≡ middle =
    sym (get_or-set_same part place own middle within)
    ∙ ap (λ k. get_or (set part place own) k middle) (sym same) ∙ there in
    let at : start + place ≡ start + i = omega arith in
    subst (λ n. IsMiddleBucket t n middle) at (subst (IsMiddleBucket t (start + place)) new is))
    (λ (other : i ≢ place).
    let old : get_or part i middle ≡ middle = sym (get_or-set_other part place i own middle other) ∙ there in
    before i middle (omega (arith, other, lt)) (slice_get-get_or part i middle (omega (arith, within, lt))
    ∙ ap Some old))
    (cases_eq i place)

-- a part of the buckets is known
pub known_part : (t : ChannelTable) (start offset index : ℕ) (part : List MiddleBucket) (middle : MiddleBucket)
    → AreMiddleBuckets t start part
    → offset < length part → start + offset ≡ index → get_or part offset middle ≡ middle → IsMiddleBucket t index middle
known_part t start offset index part middle are lt sum is =
    subst (λ n. IsMiddleBucket t n middle) sum (are offset middle (slice_get-get_or part offset middle lt ∙ ap Some is))

-- a bucket is known where all are
pub known_bucket : (t : ChannelTable) (middles : List MiddleBucket) (bucket : ℕ) (default : MiddleBucket)
    → AreMiddleBuckets t 0 middles → bucket < length middles
    → IsMiddleBucket t bucket (get_or middles bucket default)
known_bucket t middles bucket default are lt =
    let plain : 0 + bucket ≡ bucket = omega arith in
    subst (λ n. IsMiddleBucket t n (get_or middles bucket default)) plain
    (are bucket (get_or middles bucket default) (slice_get-get_or middles bucket default lt))

-- a bucket whose windows are among all is one of those that are known
pub bucket_among : (t : ChannelTable) (buckets bucket : ℕ) → 1 ≤ wide t → buckets * wide t ≡ length (windows_of t)
    → bucket * wide t + wide t ≤ length (windows_of t) → bucket < buckets
bucket_among t buckets bucket some all within =
    ⊎_elim (λ (lt : bucket < buckets). lt)
    (λ (past : buckets ≤ bucket).
    let more : buckets * wide t ≤ bucket * wide t = mul-le-mul_right (wide t) past in
    absurd (omega (arith, more, all, within, some)))
    (cases_lt bucket buckets)
