-- The families of the third windows after the windows of a bucket.
use Rattle.std.proofs.Common.{◌≡◌, ℕ, ◌+◌, ◌-◌, ◌*◌, ◌<◌, ◌≤◌, Option, Some, None, List, [], ◌∷◌, ◌++◌, length, get_or}
use Rattle.std.proofs.Common.{set, take, drop, slice_get, slice_index, sym, ap, ◌∙◌, arith, refl, length-set, subst}
use Rattle.std.proofs.Math.Nat.{mul-le-mul_left}
use Rattle.std.proofs.lemmas.List.{get_or-take, take_all, take_more_set}
use Rattle.std.proofs.lemmas.Option.{same_Some, slice_get-get_or, slice_get_within}
use Rattle.std.specs.Option.{unwrap_or, IfSome, IfNone}
use Rattle.win_index.specs.Buckets.{HasPlaces, IsAtPlace, IsLastOfBucket, IsBucketStart, IsSeries, place_in_bucket}
use Rattle.win_index.specs.Successor.{IsNext}
use Rattle.win_index.specs.Windows.{unused, windows, IsWindow}
use Rattle.win_index.specs.declared.series.BucketPlaces.{BucketPlaces}
use Rattle.win_index.proofs.Windows.{windows_all, free_at, at_place_of_bucket, lacks_drop, one_number, rank_rises, whole_list, unused_rises}
use Rattle.channel_tables.specs.Tables.{ChannelTable, windows_of}
use Rattle.nbhd_check.specs.Counts.{shared_len, shared_lists, family_len}
use Rattle.nbhd_check.specs.FarSearch.{IsAtFamily}
use Rattle.nbhd_check.specs.Masks.{NoneClose}
use Rattle.nbhd_check.specs.Buckets.{AreFree, BeginsFarTuple, wide}
use Rattle.nbhd_check.proofs.FarFree.{all_of_families, family_is, far_third, some_product, third_in_family}
use Rattle.nbhd_check.proofs.Suffixes.{number_of_third, shared_cut}

-- no third window is close to the channel of a window if none of their family is
pub free_in_family :
    (t : ChannelTable) (distance family number : ℕ) (window : List ℕ) → 1 ≤ t.rounds
    → slice_get (windows_of t) number ≡ Some window → slice_get (shared_lists t) family ≡ Some (drop 2 window)
    → NoneClose t.entries (family_len t) distance family (get_or t.entries number 0)
    → ¬ BeginsFarTuple t distance window
free_in_family t distance family number window some item at' none far =
    let own = far_third t distance window some far in
    let found = third_in_family t distance number (family * family_len t) (family_len t) window item
    (family_is t some (drop 2 window) family at') own in
    let place : ℕ = found.0 - family * family_len t in
    let number_is : family * family_len t + place ≡ found.0 = omega (arith, found.1) in
    none place (omega (arith, found.1, found.2)) (rw number_is found.4)

module _ (t : ChannelTable) (number : ℕ) (window : List ℕ) (first : ℕ) (places : BucketPlaces) (place : ℕ)
    (some : 1 ≤ t.rounds) (own : IsAtFamily t number window first places place) where
  -- the family of the window's third windows
  pub family_at : slice_get (shared_lists t) (first + place) ≡ Some (drop 2 window)
  family_at =
      let last : shared_len t + 1 ≡ 2 * t.rounds = omega arith in
      number_of_third t window first place some (windows_all (2 * t.rounds + 1) t.ids number window own.item) own.starts
      (sym own.at_place.place_is ∙ ap (λ n. length (unused (get_or window n 0) (drop 2 (take n window)))) last)

  -- the position is before the end
  pub place_inside : place < places.end
  place_inside =
      let k : ℕ = shared_len t in
      let is = own.at_place.window_is in
      let size = is.size in
      let x : ℕ = get_or window (k + 1) 0 in
      let free = lacks_drop 2 x (take (k + 1) window) (free_at window (k + 1) is.distinct (omega arith)) in
      omega (arith, rank_rises (drop 2 (take (k + 1) window)) x t.ids free (is.below (k + 1) 0 (omega arith)), own.at_place.place_is, own.at_place.bucket_has.end)

  -- the same for the next window of the bucket
  pub next_family : (bucket next : ℕ) (found : Option ℕ) → next ≡ unwrap_or found place → bucket * wide t ≤ number
      → number + 1 < bucket * wide t + wide t
      → bucket * wide t + wide t ≤ length (windows_of t)
      → IfSome found (λ next. (k m : ℕ) (window : List ℕ) → 1 ≤ k → IsAtPlace k m places window place
      → (later : List ℕ) × IsAtPlace k m places later next × (take (k + 1) later ≡ take (k + 1) window)
      × IsNext (k + 2) m window later)
      → IfNone found ((k m : ℕ) (window : List ℕ) → 1 ≤ k → IsAtPlace k m places window place
      → IsLastOfBucket (k + 2) m window)
      → (later : List ℕ) × IsAtFamily t (number + 1) later first places next
  next_family bucket next (Some found) next_is from lt within after none =
      let k : ℕ = shared_len t in
      let len : k + 2 ≡ 2 * t.rounds + 1 = omega arith in
      let front : k + 1 ≡ 2 * t.rounds = omega arith in
      let step = after k t.ids window (omega arith) own.at_place in
      let same : take (2 * t.rounds) step.0 ≡ take (2 * t.rounds) window = rw front at step.2 in
      let comes : IsNext (2 * t.rounds + 1) t.ids window step.0 = rw len at step.3 in
      (step.0, record { item = comes number own.item; at_place = rw next_is step.1; starts = rw same own.starts })
  next_family bucket next None next_is from lt within after none =
      let k : ℕ = 2 * t.rounds in
      let len : shared_len t + 2 ≡ k + 1 = omega arith in
      let back : k + 1 - 1 ≡ k = omega arith in
      let last : IsLastOfBucket (k + 1) t.ids window =
      rw len at (none (shared_len t) t.ids window (omega arith) own.at_place) in
      let later = get_or (windows_of t) (number + 1) [] in
      let p : ℕ = number - bucket * wide t in
      let at_here : number ≡ bucket * wide t + p = omega arith in
      let at_there : number + 1 ≡ bucket * wide t + (p + 1) = omega arith in
      let here = at_place_of_bucket k t.ids bucket p window (omega arith)
      (ap (slice_get (windows_of t)) (sym at_here) ∙ own.item) in
      let item = slice_get-get_or (windows_of t) (number + 1) [] (omega arith) in
      let there = at_place_of_bucket k t.ids bucket (p + 1) later (omega arith)
      (ap (slice_get (windows_of t)) (sym at_there) ∙ item) in
      let front : take k later ≡ take k window = same_Some (take k later) (take k window) (sym there.0 ∙ here.0) in
      let is = windows_all (k + 1) t.ids number window own.item in
      let size = is.size in
      let is_later = windows_all (k + 1) t.ids (number + 1) later item in
      let x : ℕ = get_or later k 0 in
      let whole : set window k x ≡ later =
      sym (take_all (k + 1) (set window k x) (omega (arith, length-set window k x)))
      ∙ take_more_set window k x (omega arith)
      ∙ ap (λ l. l ++ x ∷ []) (sym front) ∙ whole_list k t.ids later is_later in
      let larger = rw back at (last x (rw (back, whole) is_later)) in
      let rises = unused_rises (take k window) x (get_or window k 0) larger in
      absurd (omega (arith, rises, here.1, rw front at there.1))

  -- the same for each window of a series
  pub in_series : (count j : ℕ) → IsSeries (shared_len t) t.ids window count → j < count
      → (later : List ℕ) × IsAtFamily t (number + j) later first places (place + j)
  in_series count j series lt =
      let k : ℕ = shared_len t in
      let len : 2 * t.rounds + 1 ≡ k + 2 = omega arith in
      let front : 2 * t.rounds ≡ k + 1 = omega arith in
      let step = series number (first + place) j
      (subst (λ l. slice_get (windows l t.ids) number ≡ Some window) len own.item) family_at lt in
      let later = step.0 in
      let same : take (k + 1) later ≡ take (k + 1) window = step.2 in
      let is = windows_all (k + 2) t.ids (number + j) later step.1 in
      let head = λ (i : ℕ) (within : i < k + 1). sym (get_or-take (k + 1) later i 0 within)
      ∙ ap (λ l. get_or l i 0) same ∙ get_or-take (k + 1) window i 0 within in
      let has = own.at_place.bucket_has in
      let starts = subst (λ l. IsBucketStart (2 * (t.rounds - 1)) t.ids (drop 2 l) first)
      (sym (ap (λ n. take n later) front ∙ same ∙ ap (λ n. take n window) (sym front))) own.starts in
      let rank : ℕ = place_in_bucket k later (get_or later (k + 1) 0) in
      let third = number_of_third t later first rank some (subst (λ l. IsWindow l t.ids later) (sym len) is) starts
      (ap (λ n. length (unused (get_or later n 0) (drop 2 (take n later)))) (sym front)) in
      let number_is = one_number k t.ids (first + rank) (first + place + j) (drop 2 later) third step.3 in (
        later,
        record {
          item = subst (λ l. slice_get (windows l t.ids) (number + j) ≡ Some later) (sym len) step.1;
          at_place = record {
            window_is = is;
            bucket_has = record {
              first = (λ q. length (unused (head 0 (omega arith) q) (drop 2 (same q)))) ∙ has.first;
              second = (λ q. length (unused (head 1 (omega arith) q) (drop 2 (same q)))) ∙ has.second;
              end = (λ q. length (unused t.ids (drop 2 (same q)))) ∙ has.end;
            };
            place_is = omega (arith, number_is);
          };
          starts = starts;
        },
      )

-- the windows of a series begin no tuple with a close third window as far as no channel of their families is close
pub free_in_front : (t : ChannelTable) (distance number : ℕ) (window : List ℕ) (first : ℕ) (places : BucketPlaces)
    (place count free : ℕ) → 1 ≤ t.rounds
    → IsAtFamily t number window first places place → IsSeries (shared_len t) t.ids window count → free ≤ count
    → ((i : ℕ) → i < free → NoneClose t.entries (family_len t) distance (first + place + i) (get_or t.entries (number + i) 0))
    → AreFree t (BeginsFarTuple t distance) number (number + free)
free_in_front t distance number window first places place count free some own series few none n w from below item =
    let j : ℕ = n - number in
    let at : n ≡ number + j = omega (arith, from) in
    let step = in_series t number window first places place some own count j series (omega (arith, from, below, few)) in
    let same : w ≡ step.0 = same_Some w step.0 (sym item ∙ ap (slice_get (windows_of t)) at ∙ step.1.item) in
    let family : first + place + j ≡ first + (place + j) = omega arith in
    subst (λ w. ¬ BeginsFarTuple t distance w) (sym same)
    (free_in_family t distance (first + (place + j)) (number + j) step.0 some step.1.item (family_at t (number + j) step.0 first places (place + j) some step.1)
    (subst (λ f. NoneClose t.entries (family_len t) distance f (get_or t.entries (number + j) 0)) family (none j (omega (arith, from, below)))))

-- there are few families
pub families_few : (t : ChannelTable) → 1 ≤ t.rounds → 2 * t.rounds + 2 ≤ t.ids
    → length (shared_lists t) ≤ length (windows_of t)
families_few t some enough =
    let wide : ℕ = t.ids - shared_len t in
    let len : 1 ≤ family_len t = some_product wide (wide - 1) (omega arith) (omega arith) in
    omega (arith, all_of_families t some, mul-le-mul_left (length (shared_lists t)) len)

pub family_few : (t : ChannelTable) (family : ℕ) (list : List ℕ) → 1 ≤ t.rounds → 2 * t.rounds + 2 ≤ t.ids
    → length t.entries ≡ length (windows_of t) → slice_get (shared_lists t) family ≡ Some list
    → family < length t.entries
family_few t family list some enough full at' =
    omega (arith, full, slice_get_within (shared_lists t) family list at', families_few t some enough)

-- the family of a bucket's first window, as the code numbers it
pub at_family : (t : ChannelTable) (number : ℕ) (window : List ℕ) (rounds ids first : ℕ) (places : BucketPlaces)
    (place : ℕ) → rounds ≡ t.rounds → ids ≡ t.ids
    → 1 ≤ t.rounds → slice_get (windows_of t) number ≡ Some window → IsWindow (2 * t.rounds + 1) t.ids window
    → IsBucketStart (2 * (rounds - 1)) ids (take (2 * (rounds - 1) + 2 - 2) (drop 2 window)) first
    → HasPlaces (2 * (rounds - 1) + 1) ids window places
    → place ≡ place_in_bucket (2 * (rounds - 1) + 1) window (slice_index window (2 * (rounds - 1) + 2))
    → IsAtFamily t number window first places place
at_family t number window rounds ids first places place rounds_is ids_is some item is bucket has place_is =
    let last : 2 * (t.rounds - 1) + 2 ≡ 2 * (t.rounds - 1) + 1 + 1 = omega arith in
    let len : 2 * t.rounds + 1 ≡ 2 * (t.rounds - 1) + 1 + 2 = omega arith in
    let back : 2 * (t.rounds - 1) + 2 - 2 ≡ 2 * t.rounds - 2 = omega arith in
    record {
      item = item;
      at_place = record { window_is = rw (← len) is; bucket_has = rw (rounds_is, ids_is) at has; place_is = sym (rw (rounds_is, last) at place_is) };
      starts = rw (← shared_cut 2 t t.rounds window refl (omega (arith, some)), ← back)
          (rw (rounds_is, ids_is) at bucket);
    }
