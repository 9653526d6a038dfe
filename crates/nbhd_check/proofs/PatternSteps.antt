-- Three windows in a row of which the first one begins a bad tuple.
use Rattle.std.proofs.Common.{◌≡◌, ◌≢◌, ℕ, zero, suc, ◌+◌, ◌-◌, ◌*◌, ◌%◌, ◌<◌, ◌≤◌, not, nat_eq, bit_and, true, false}
use Rattle.std.proofs.Common.{List, [], ◌∷◌, ◌++◌, Option, length, get_or, take, drop, slice_get, slice_index, Some}
use Rattle.std.proofs.Common.{refl, subst, sym, ap, ◌∙◌, arith, ⊎_elim, get_or-drop}
use Rattle.std.proofs.Math.Nat.{mul-le-mul_right}
use Rattle.std.proofs.Math.Seq.{drop-append_seam, get_or-append_seam}
use Rattle.std.proofs.lemmas.Bool.{cases_eq, cases_lt, true≢false}
use Rattle.std.proofs.lemmas.List.{drop-drop, drop-take, get_or-take, length_push, take-take, take_all, take_at}
use Rattle.std.proofs.lemmas.Option.{same_Some, slice_get_within}
use Rattle.std.specs.Option.{unwrap_or}
use Rattle.win_index.specs.Arcs.{part_at}
use Rattle.win_index.specs.Buckets.{IsBucketStart}
use Rattle.win_index.specs.Windows.{is_used, number_of, unused, windows, IsWindow}
use Rattle.win_index.proofs.Windows.{push_window, windows_all, free_at, number_of_is, window_place, longer_number, bucket_start_is, part_of_front, bucket_of, whole_list, back_window, rank, ranks_differ}
use Rattle.channel_tables.specs.Tables.{ChannelTable, IsTable, channel_of, windows_of}
use Rattle.channel_tables.proofs.Tables.{channel_at}
use Rattle.ring_problems.specs.declared.pattern.Pattern.{Pattern}
use Rattle.ring_problems.specs.Patterns.{IsForbidden, extra, is_long}
use Rattle.ring_problems.specs.Problems.{IsBad, NoneIsBad}
use Rattle.ring_problems.specs.TupleLists.{IsTuple, per_pair}
use Rattle.ring_problems.proofs.Problems.{forbidden_along, third_in_bucket, by_test, short_extra, tuple_parts}
use Rattle.nbhd_check.specs.ChannelsBefore.{AreBefore}
use Rattle.nbhd_check.specs.declared.near.SecondBuckets.{SecondBuckets}
use Rattle.nbhd_check.specs.declared.channel_sets.Words.{Words}
use Rattle.nbhd_check.specs.Masks.{HasBit, HasBitsOf}
use Rattle.nbhd_check.specs.PatternBits.{AreBits, cell_of}
use Rattle.nbhd_check.specs.ChannelSets.{HasWords}
use Rattle.nbhd_check.specs.PatternSearch.{AreBroken, BeginsForbidden, IsFirstClear, IsFreeBefore}
use Rattle.nbhd_check.specs.PatternSearch.{IsPairClear, IsSecondClear}
use Rattle.nbhd_check.specs.MiddleBuckets.{AreNextBuckets, in_bucket}
use Rattle.nbhd_check.specs.Buckets.{AreFree, second_gap, second_bucket, wide}
use Rattle.nbhd_check.proofs.BeforeSteps.{in_bucket_at as channel_of_bucket, first_and_rest}
use Rattle.nbhd_check.proofs.BitSets.{none_shared}
use Rattle.nbhd_check.proofs.MiddleSteps.{next_place, bucket_among, wide_some}
use Rattle.nbhd_check.proofs.Buckets.{first_is_free}
use Rattle.nbhd_check.proofs.SecondBuckets.{AtPlace}

-- the number of a list with one more identifier, in the bucket of the list
pub record InBucketAt (k m bucket : ℕ) (z : List ℕ) (x : ℕ) : Type 0 where
  pub inside : rank z x < m - k
  pub item : slice_get (windows (k + 1) m) (bucket * (m - k) + rank z x) ≡ Some (z ++ x ∷ [])

pub in_bucket_of : (k m bucket x : ℕ) (z : List ℕ) → slice_get (windows k m) bucket ≡ Some z → x < m
    → is_used z x ≡ false
    → InBucketAt k m bucket z x
in_bucket_of k m bucket x z at' below free =
    let is = windows_all k m bucket z at' in
    let size = is.size in
    let longer : suc k ≡ k + 1 = omega arith in
    let list : List ℕ = z ++ x ∷ [] in
    let own : IsWindow (k + 1) m list = subst (λ l. IsWindow l m list) longer (push_window k m x z is below free) in
    let front : take k list ≡ z = take_at z (x ∷ []) k size in
    let last : get_or list k 0 ≡ x = ap (λ n. get_or list n 0) (sym size) ∙ get_or-append_seam z x [] 0 in
    let placed = longer_number k m bucket list own (at' ∙ ap Some (sym front)) in
    let place : rank (take k list) (get_or list k 0) ≡ rank z x = λ i. rank (front i) (last i) in
    record {
      inside = subst (λ n. n < m - k) place placed.0;
      item = ap (λ n. slice_get (windows (k + 1) m) (bucket * (m - k) + n)) (sym place) ∙ placed.1;
    }

-- the first 2t+2 identifiers of a tuple that begins with a window: the window's first one, the list z of its
-- others, and one more
pub record Begins (t : ChannelTable) (problem : List Pattern) (window tuple : List ℕ) : Type 0 where
  pub last : ℕ
  pub is_pair : IsWindow (2 * t.rounds + 1 + 1) t.ids (take (2 * t.rounds + 1 + 1) tuple)
  pub rest : drop 1 (take (2 * t.rounds + 1 + 1) tuple) ≡ drop 1 window ++ last ∷ []
  pub below : last < t.ids
  pub free : is_used (drop 1 window) last ≡ false
  pub other : get_or window 0 0 ≢ last
  pub second : part_at t.rounds 1 tuple ≡ drop 1 window ++ last ∷ []

pub begins : (t : ChannelTable) (problem : List Pattern) (window tuple : List ℕ) → IsTuple t.ids t.rounds problem tuple
    → part_at t.rounds 0 tuple ≡ window → Begins t problem window tuple
begins t problem window tuple is same =
    let k : ℕ = 2 * t.rounds + 1 in
    let pair = take (k + 1) tuple in
    let pair_is = is.front in
    let size = pair_is.size in
    let back = back_window k t.ids pair pair_is in
    let back_size = back.size in
    let y : ℕ = get_or pair k 0 in
    let front : take k pair ≡ window = take-take k (k + 1) tuple (omega arith) ∙ same in
    let shared : take (k - 1) (drop 1 pair) ≡ drop 1 window =
    sym (drop-take 1 (k - 1) pair) ∙ ap (λ n. drop 1 (take n pair)) (let sum : 1 + (k - 1) ≡ k = omega arith in sum)
    ∙ ap (drop 1) front in
    let last : get_or (drop 1 pair) (k - 1) 0 ≡ y =
    get_or-drop 1 pair (k - 1) 0 ∙ ap (λ n. get_or pair n 0) (let sum : 1 + (k - 1) ≡ k = omega arith in sum) in
    let whole : take (k - 1) (drop 1 pair) ++ get_or (drop 1 pair) (k - 1) 0 ∷ [] ≡ drop 1 pair =
    whole_list (k - 1) t.ids (drop 1 pair)
    (subst (λ l. IsWindow l t.ids (drop 1 pair)) (let sum : k ≡ k - 1 + 1 = omega arith in sum) back) in
    let rest : drop 1 pair ≡ drop 1 window ++ y ∷ [] = sym whole ∙ (λ i. shared i ++ last i ∷ []) in
    record {
      last = y;
      is_pair = pair_is;
      rest = rest;
      below = pair_is.below k 0 (omega arith);
      free =
          subst (λ list. is_used list y ≡ false) shared
          (subst (λ x. is_used (take (k - 1) (drop 1 pair)) x ≡ false) last (free_at (drop 1 pair) (k - 1) back.distinct (omega arith)));
      other = λ e.
          pair_is.distinct 0 k 0 (omega arith) (omega arith)
          (sym (get_or-take k pair 0 0 (omega arith)) ∙ ap (λ list. get_or list 0 0) front ∙ e);
      second = sym (part_of_front t.rounds 1 (k + 1) tuple (omega arith))
          ∙ take_all k (drop 1 pair) (omega (arith, back_size)) ∙ rest;
    }

-- three windows in a row of a bad tuple
pub record Broken (t : ChannelTable) (problem : List Pattern) (before : List ℕ) (buckets : SecondBuckets)
    (window : List ℕ) : Type 0 where
  pub first : ℕ
  pub second : ℕ
  pub third : ℕ
  pub first_inside : first < wide t
  pub second_inside : second < wide t
  pub third_inside : third < wide t
  pub other : first ≢ second
  pub no_gap : third ≢ second_gap buckets second
  pub first_item : slice_get (windows_of t) (buckets.bucket * wide t + first) ≡ Some
      (drop 1 window ++ get_or window 0 0 ∷ [])
  pub broken : AreBroken t problem before buckets first second third

-- a third place and its channel: that of the tuple if a pattern asks for it, else any
record HasThird (t : ChannelTable) (problem : List Pattern) (buckets : SecondBuckets) (second : ℕ)
    (tuple : List ℕ) : Type 0 where
  place : ℕ
  inside : place < wide t
  no_gap : place ≢ second_gap buckets second
  channel : 2 ≤ extra problem
      → channel_of t (part_at t.rounds 2 tuple) ≡ Some (slice_index t.entries
      (second_bucket buckets second * wide t + place))

any_third : (t : ChannelTable) (problem : List Pattern) (buckets : SecondBuckets) (second : ℕ) (tuple : List ℕ)
    → 2 ≤ wide t
    → is_long problem ≡ false
    → HasThird t problem buckets second tuple
any_third t problem buckets second tuple two short =
    let one = short_extra problem short in
    ⊎_elim
    (λ (zero : second_gap buckets second ≡ 0). record {
      place = 1;
      inside = omega arith;
      no_gap = λ e. omega (arith, e, zero);
      channel = λ long. absurd (omega (arith, one, long));
    })
    (λ (other : second_gap buckets second ≢ 0). record {
      place = 0;
      inside = omega arith;
      no_gap = λ e. other (sym e);
      channel = λ long. absurd (omega (arith, one, long));
    })
    (cases_eq (second_gap buckets second) 0)

third_at : (t : ChannelTable) (problem : List Pattern) (buckets : SecondBuckets) (second : ℕ) (tuple : List ℕ)
    → 2 ≤ wide t
    → IsTuple t.ids t.rounds problem tuple → (own : AtPlace t buckets second)
    → own.window ≡ drop 1 (take (2 * t.rounds + 1 + 1) tuple)
    → HasThird t problem buckets second tuple
third_at t problem buckets second tuple two is own same =
    let pair = take (2 * t.rounds + 1 + 1) tuple in
    by_test (HasThird t problem buckets second tuple) (is_long problem)
    (λ long.
    let rest : drop 1 own.window ≡ drop 2 pair = ap (drop 1) same ∙ drop-drop 1 1 pair in
    let first : get_or own.window 0 0 ≡ get_or pair 1 0 = ap (λ list. get_or list 0 0) same ∙ get_or-drop 1 pair 0 0 in
    let bucket = subst (λ list. IsBucketStart (2 * t.rounds) t.ids list (second_bucket buckets second * wide t)) rest
    own.starts in
    let gap : length (unused (get_or pair 1 0) (drop 2 pair)) ≡ second_gap buckets second =
    (λ i. length (unused (sym first i) (sym rest i))) ∙ sym own.gap_is in
    let found = third_in_bucket t problem pair tuple (second_bucket buckets second * wide t) (second_gap buckets second) long bucket gap is refl in
    record { place = found.0; inside = found.1; no_gap = found.2; channel = λ _. found.3 })
    (any_third t problem buckets second tuple two)

pub broken_at :
    (t : ChannelTable) (problem : List Pattern) (before : List ℕ) (buckets : SecondBuckets) (number : ℕ)
    (window : List ℕ)
    → IsTable t
    → AreBefore t (length (windows_of t)) before → AreNextBuckets t buckets
    → slice_get (windows_of t) number ≡ Some window
    → slice_get (windows (2 * t.rounds) t.ids) buckets.bucket ≡ Some (drop 1 window) → BeginsForbidden t problem window
    → Broken t problem before buckets window
unfolding IsBad
broken_at t problem before buckets number window table turned are item at_bucket bad =
    let k : ℕ = 2 * t.rounds in
    let tuple = bad.0 in
    let is = bad.1 in
    let z = drop 1 window in
    let x : ℕ = get_or window 0 0 in
    let enough = table.begun.shape.ids.enough in
    let window_is = windows_all (k + 1) t.ids number window item in
    let size = window_is.size in
    let own = begins t problem window tuple is bad.2 in
    let y : ℕ = own.last in
    let first_free = first_is_free window window_is.distinct in
    let first = in_bucket_of k t.ids buckets.bucket x z at_bucket (window_is.below 0 0 (omega arith)) first_free in
    let second = in_bucket_of k t.ids buckets.bucket y z at_bucket own.below own.free in
    let place = next_place t buckets (rank z y) table.size are second.inside in
    let same : place.window ≡ z ++ y ∷ [] = same_Some place.window (z ++ y ∷ []) (sym place.item ∙ second.item) in
    let third = third_at t problem buckets (rank z y) tuple (omega arith) is place (same ∙ sym own.rest) in
    let whole = first_and_rest window (omega (arith, size)) in
    let entry = turned number (buckets.bucket * wide t + rank z x) x z
    (slice_get_within (windows_of t) number window item)
    (item ∙ ap Some whole) first.item in
    let below : get_or before (buckets.bucket * wide t + rank z x) 0 < t.channels =
    subst (λ c. c < t.channels) (sym entry)
    (table.begun.below number 0 (omega (arith, table.size, slice_get_within (windows_of t) number window item))) in
    let here : channel_of t (part_at t.rounds 0 tuple) ≡ Some (get_or before (buckets.bucket * wide t + rank z x) 0) =
    ap (channel_of t) bad.2 ∙ channel_at t number window item
    ∙ ap Some (sym entry) in
    let there : channel_of t (part_at t.rounds 1 tuple)
    ≡ Some (get_or t.entries (buckets.bucket * wide t + rank z y) 0) =
    ap (channel_of t) own.second ∙ channel_at t (buckets.bucket * wide t + rank z y) (z ++ y ∷ []) second.item in
    record {
      first = rank z x;
      second = rank z y;
      third = third.place;
      first_inside = first.inside;
      second_inside = second.inside;
      third_inside = third.inside;
      other = λ e. ranks_differ z x y first_free own.free own.other e;
      no_gap = third.no_gap;
      first_item = first.item;
      broken = (below, forbidden_along problem _ _ _ _ _ _ here there third.channel bad.3);
    }

-- one third channel more is not forbidden, or is at the gap
pub no_third_more : (problem : List Pattern) (channels : ℕ × ℕ) (thirds : List ℕ) (gap place : ℕ)
    → ((n : ℕ) → n < place → n ≢ gap
    → ¬ IsForbidden problem (Some channels.0) (Some channels.1) (Some (slice_index thirds n)))
    → (place ≢ gap → ¬ IsForbidden problem (Some channels.0) (Some channels.1) (Some (slice_index thirds place)))
    → (n : ℕ) → n < place + 1 → n ≢ gap
    → ¬ IsForbidden problem (Some channels.0) (Some channels.1) (Some (slice_index thirds n))
no_third_more problem channels thirds gap place before own n lt other =
    ⊎_elim (λ (less : n < place). before n less other)
    (λ (here : place ≤ n).
    let same : place ≡ n = omega arith in
    subst (λ k. k ≢ gap → ¬ IsForbidden problem (Some channels.0) (Some channels.1) (Some (slice_index thirds k))) same own other)
    (cases_lt n place)

-- a channel of a bucket is in its words
pub has_once : (t : ChannelTable) (channels : List ℕ) (bucket place : ℕ) (words : Words)
    → bucket * wide t + wide t ≤ length channels → place < wide t
    → HasWords (in_bucket t channels bucket) words → HasBit words.once (get_or channels (bucket * wide t + place) 0)
has_once t channels bucket place words within lt are =
    let own = channel_of_bucket t channels bucket place within lt in
    subst (HasBit words.once) own.1 (are.once place own.0)

-- no three windows are forbidden with this one in the middle if no third channel is in what is forbidden after a
-- first one
pub clear_by_words : (t : ChannelTable) (problem : List Pattern) (before bits : List ℕ) (buckets : SecondBuckets)
    (limit place thirds ends : ℕ) → IsTable t
    → AreBits problem limit bits → ((c : ℕ) → c < t.channels → c % 64 < limit)
    → buckets.bucket * wide t + wide t ≤ length t.entries
    → place < wide t
    → ((first : ℕ) → first < wide t → first ≢ place → get_or before (buckets.bucket * wide t + first) 0 < t.channels
    → HasBitsOf thirds (get_or bits (cell_of (get_or before (buckets.bucket * wide t + first) 0) (get_or t.entries (buckets.bucket * wide t + place) 0)) 0))
    → ((third : ℕ) → third < wide t → third ≢ second_gap buckets place
    → HasBit ends (get_or t.entries (second_bucket buckets place * wide t + third) 0))
    → bit_and thirds ends ≡ 0 → IsSecondClear t problem before buckets place
clear_by_words t problem before bits buckets limit place thirds ends table are below within lt of_first of_third none first in_first other third in_third no_gap broken =
    let a : ℕ = get_or before (buckets.bucket * wide t + first) 0 in
    let b : ℕ = get_or t.entries (buckets.bucket * wide t + place) 0 in
    let c : ℕ = get_or t.entries (second_bucket buckets place * wide t + third) 0 in
    let in_limit = below b (table.begun.below (buckets.bucket * wide t + place) 0 (omega (arith, within, lt))) in
    let bit = of_first first in_first other broken.0 (c % 64) (are.each a b c (below a broken.0) in_limit broken.1) in
    none_shared thirds ends (c % 64) none bit (of_third third in_third no_gap)

-- what is not other than 0
pub nothing : (n : ℕ) → not (nat_eq n 0) ≡ false → n ≡ 0
nothing zero e = refl
nothing (suc n) e = absurd (true≢false (truth n ∙ e))
  where
    truth : (n : ℕ) → true ≡ not (nat_eq (suc n) 0)
    truth n = grind arith

-- one number more
pub one_more : (P : ℕ → Type 0) (place : ℕ) → ((n : ℕ) → n < place → P n) → P place → (n : ℕ) → n < place + 1 → P n
one_more P place before own n lt =
    ⊎_elim (λ (less : n < place). before n less)
    (λ (here : place ≤ n). let same : place ≡ n = omega arith in subst P same own) (cases_lt n place)

-- the first windows so far and one more
pub firsts_more :
    (t : ChannelTable) (problem : List Pattern) (before : List ℕ) (buckets : SecondBuckets) (place most least found : ℕ)
    → least ≤ most
    → ((place' number x : ℕ) (z : List ℕ) → place' < place → number < least
    → slice_get (windows_of t) number ≡ Some (x ∷ z)
    → slice_get (windows_of t) (buckets.bucket * wide t + place') ≡ Some (z ++ x ∷ [])
    → IsFirstClear t problem before buckets place')
    → found ≤ least
    → ((number x : ℕ) (z : List ℕ) → number < found → slice_get (windows_of t) number ≡ Some (x ∷ z)
    → slice_get (windows_of t) (buckets.bucket * wide t + place) ≡ Some (z ++ x ∷ [])
    → IsFirstClear t problem before buckets place)
    → (found ≤ most)
    × ((place' number x : ℕ) (z : List ℕ) → place' < place + 1 → number < found
    → slice_get (windows_of t) number ≡ Some (x ∷ z)
    → slice_get (windows_of t) (buckets.bucket * wide t + place') ≡ Some (z ++ x ∷ [])
    → IsFirstClear t problem before buckets place')
firsts_more t problem before buckets place most least found few so_far less own = (
  omega arith,
  λ place' number x z lt below item turned.
      one_more (λ n. slice_get (windows_of t) (buckets.bucket * wide t + n) ≡ Some (z ++ x ∷ [])
      → IsFirstClear t problem before buckets n) place
      (λ n in_front. so_far n number x z in_front (omega (arith, below, less)) item)
      (own number x z below item) place' lt turned,
)

-- windows that begin no bad tuple, by the first ones or by the second ones of three in a row
pub free_by_first :
    (t : ChannelTable) (problem : List Pattern) (before : List ℕ) (buckets : SecondBuckets) (least : ℕ) → IsTable t
    → AreBefore t (length (windows_of t)) before → AreNextBuckets t buckets
    → ((place number x : ℕ) (z : List ℕ) → place < wide t → number < least
    → slice_get (windows_of t) number ≡ Some (x ∷ z)
    → slice_get (windows_of t) (buckets.bucket * wide t + place) ≡ Some (z ++ x ∷ [])
    → IsFirstClear t problem before buckets place)
    → IsFreeBefore t problem least buckets.bucket
free_by_first t problem before buckets least table turned are clear number window below item at_bucket bad =
    let own = broken_at t problem before buckets number window table turned are item at_bucket bad in
    let size = (windows_all (2 * t.rounds + 1) t.ids number window item).size in
    let whole = first_and_rest window (omega (arith, size)) in
    clear own.first number (get_or window 0 0) (drop 1 window) own.first_inside below (item
    ∙ ap Some whole) own.first_item own.second own.second_inside
    own.other own.third own.third_inside own.no_gap own.broken

pub free_by_second :
    (t : ChannelTable) (problem : List Pattern) (before : List ℕ) (buckets : SecondBuckets) (least : ℕ) → IsTable t
    → AreBefore t (length (windows_of t)) before → AreNextBuckets t buckets
    → ((place : ℕ) → place < wide t → IsSecondClear t problem before buckets place)
    → IsFreeBefore t problem least buckets.bucket
free_by_second t problem before buckets least table turned are clear number window below item at_bucket bad =
    let own = broken_at t problem before buckets number window table turned are item at_bucket bad in
    clear own.second own.second_inside own.first own.first_inside own.other own.third own.third_inside own.no_gap own.broken

-- one bucket more
pub buckets_more : (t : ChannelTable) (problem : List Pattern) (low bucket least found : ℕ)
    → ((n : ℕ) → low ≤ n → n < bucket → IsFreeBefore t problem least n)
    → found ≤ least → IsFreeBefore t problem found bucket → (n : ℕ) → low ≤ n → n < bucket + 1
    → IsFreeBefore t problem found n
buckets_more t problem low bucket least found before less own n from lt number window below item at_bucket =
    one_more (λ r. low ≤ r → slice_get (windows (2 * t.rounds) t.ids) r ≡ Some (drop 1 window)
    → ¬ BeginsForbidden t problem window) bucket
    (λ r in_front later. before r later in_front number window (omega (arith, below, less)) item)
    (λ _. own number window below item) n lt from at_bucket

-- the number of the window that has the last identifier of another first is not below the number found
pub number_before : (t : ChannelTable) (rounds ids number x : ℕ) (window z : List ℕ) (found : Option ℕ)
    → rounds ≡ t.rounds → ids ≡ t.ids
    → found ≡ number_of (2 * rounds + 1) ids (drop (length window - 1) window ++ take (length window - 1) window)
    → window ≡ z ++ x ∷ [] → slice_get (windows_of t) number ≡ Some (x ∷ z) → unwrap_or found 0 ≤ number
number_before t rounds ids number x window z found rounds_is ids_is found_is whole item =
    let few : length window - 1 ≡ length z = omega (arith, ap length whole, length_push z x) in
    let front : take (length window - 1) window ≡ z =
    (λ i. take (few i) (whole i)) ∙ take_at z (x ∷ []) (length z) refl in
    let back : drop (length window - 1) window ≡ x ∷ [] = (λ i. drop (few i) (whole i)) ∙ drop-append_seam z (x ∷ []) in
    let at' : found ≡ Some number =
    found_is ∙ (λ i. number_of (2 * rounds_is i + 1) (ids_is i) (back i ++ front i))
    ∙ number_of_is (2 * t.rounds + 1) t.ids number (x ∷ z) item in
    omega (arith, ap (λ f. unwrap_or f 0) at')

-- two windows with which no third one is forbidden
pub pair_is_clear : (t : ChannelTable) (problem : List Pattern) (before : List ℕ) (buckets : SecondBuckets)
    (first second gap : ℕ) (channels : ℕ × ℕ) (thirds : List ℕ)
    → second_bucket buckets second * wide t + wide t ≤ length t.entries
    → channels.0 ≡ get_or before (buckets.bucket * wide t + first) 0
    → channels.1 ≡ get_or t.entries (buckets.bucket * wide t + second) 0
    → thirds ≡ in_bucket t t.entries (second_bucket buckets second) → gap ≡ second_gap buckets second
    → ((place : ℕ) → place < length thirds → place ≢ gap
    → ¬ IsForbidden problem (Some channels.0) (Some channels.1) (Some (get_or thirds place 0)))
    → IsPairClear t problem before buckets first second
pair_is_clear t problem before buckets first second gap channels thirds within first_is second_is thirds_are gap_is none third lt other broken =
    let own = channel_of_bucket t t.entries (second_bucket buckets second) third within lt in
    let read : get_or thirds third 0
    ≡ get_or t.entries (second_bucket buckets second * wide t + third) 0 =
    ap (λ list. get_or list third 0) thirds_are ∙ own.1 in
    none third (subst (λ list. third < length list) (sym thirds_are) own.0) (λ e. other (e ∙ gap_is))
    (forbidden_along problem _ _ _ _ _ _ (ap Some (sym first_is)) (ap Some (sym second_is)) (λ _. ap Some (sym read)) broken.1)

-- a channel of a bucket is in what is left of its words without that of another window
pub has_rest : (t : ChannelTable) (channels : List ℕ) (bucket gap place channel set : ℕ) (words : Words)
    → bucket * wide t + wide t ≤ length channels → gap < wide t
    → place < wide t → place ≢ gap → HasWords (in_bucket t channels bucket) words
    → channel ≡ get_or channels (bucket * wide t + gap) 0
    → ((list : List ℕ) (gap place : ℕ) → HasWords list words → gap < length list → get_or list gap 0 ≡ channel
    → place < length list → place ≢ gap
    → HasBit set (get_or list place 0))
    → HasBit set (get_or channels (bucket * wide t + place) 0)
has_rest t channels bucket gap place channel set words within in_gap lt other are channel_is left =
    let at_gap = channel_of_bucket t channels bucket gap within in_gap in
    let own = channel_of_bucket t channels bucket place within lt in
    subst (HasBit set) own.1
    (left (in_bucket t channels bucket) gap place are at_gap.0 (at_gap.1 ∙ sym channel_is) own.0 other)

-- each window has a bucket for its identifiers after the first
pub bucket_after : (t : ChannelTable) (buckets number : ℕ) (window : List ℕ) → IsTable t
    → buckets * wide t ≡ length (windows_of t)
    → slice_get (windows_of t) number ≡ Some window
    → (bucket : ℕ) × (bucket < buckets) × (slice_get (windows (2 * t.rounds) t.ids) bucket ≡ Some (drop 1 window))
bucket_after t buckets number window table all item =
    let k : ℕ = 2 * t.rounds in
    let rest = back_window k t.ids window (windows_all (k + 1) t.ids number window item) in
    let bucket = window_place k t.ids (drop 1 window) rest in
    let within = (bucket_start_is k t.ids bucket.0 (bucket.0 * wide t) (drop 1 window) bucket.1 refl).within in
    (bucket.0, bucket_among t buckets bucket.0 (wide_some t table) all within, bucket.1)

-- tuples that begin with the first windows are not bad if these begin none
pub none_by_first : (t : ChannelTable) (problem : List Pattern) (first low : ℕ)
    → AreFree t (BeginsForbidden t problem) 0 first
    → low ≡ first * (t.ids - (2 * t.rounds + 1)) → NoneIsBad t problem 0 (low * per_pair t.ids t.rounds problem)
none_by_first t problem first low free low_is n tuple from below item bad =
    let k : ℕ = 2 * t.rounds + 1 in
    let each : ℕ = per_pair t.ids t.rounds problem in
    let parts = tuple_parts t.ids t.rounds n problem tuple item in
    let pair = take (k + 1) tuple in
    let bucket = bucket_of k t.ids parts.place pair parts.front_at in
    let before : parts.place < low = ⊎_elim (λ (lt : parts.place < low). lt)
    (λ (past : low ≤ parts.place). let more : low * each ≤ parts.place * each = mul-le-mul_right each past in absurd (omega (arith, more, below, parts.number)))
    (cases_lt parts.place low) in
    let window : take k pair ≡ part_at t.rounds 0 tuple = take-take k (k + 1) tuple (omega arith) in
    let early : bucket.number < first = ⊎_elim (λ (lt : bucket.number < first). lt)
    (λ (past : first ≤ bucket.number).
    let more : first * (t.ids - k) ≤ bucket.number * (t.ids - k) = mul-le-mul_right (t.ids - k) past in
    absurd (omega (arith, more, low_is, before, bucket.number_is)))
    (cases_lt bucket.number first) in
    free bucket.number (take k pair) (omega arith) early bucket.front_at (tuple, parts.is, sym window, bad)
