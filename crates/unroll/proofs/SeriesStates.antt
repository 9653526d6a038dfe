-- The windows of a series: the first two parts are the same in all, and the last ones are consecutive in one block.
use Rattle.std.proofs.Common.{◌≡◌, ℕ, ◌+◌, ◌-◌, ◌*◌, ◌/◌, ◌<◌, ◌≤◌, List, take, drop, get_or, slice_get, Some, IsSome}
use Rattle.std.proofs.Common.{true, refl, sym, ap, ◌∙◌, arith}
use Rattle.std.proofs.lemmas.Grind.{common_steps}
use Rattle.std.proofs.lemmas.List.{drop-take, take-take, get_or-take, get_or-drop}
use Rattle.std.proofs.lemmas.Option.{same_Some}
use Rattle.win_index.specs.Buckets.{IsSeries, IsBucketStart, IsAtPlace, IsLastOfBucket, place_in_bucket}
use Rattle.win_index.specs.Successor.{IsNext}
use Rattle.win_index.specs.declared.series.BucketPlaces.{BucketPlaces}
use Rattle.win_index.specs.Windows.{windows, IsWindow}
use Rattle.node_program.specs.Node.{to_left}
use Rattle.unroll.specs.Below.{part}
use Rattle.round_eval.specs.BlockStates.{block_state}
use Rattle.round_eval.specs.Entries.{Entries, Grows}
use Rattle.unroll.specs.Parts.{window_in, KnowsParts, IsBucket, EndsAt, InBucket}
use Rattle.unroll.specs.declared.bucket.Bucket.{Bucket}
use Rattle.unroll.specs.WideColumns.{part_state, right_message, HasFronts, AreWritten, AreTakenInBucket}
use Rattle.unroll.specs.declared.upper_block.UpperBlock.{UpperBlock}
use Rattle.unroll.proofs.ColumnStates.{below_sum, held_more}
use Rattle.unroll.proofs.Known.{still_known, knows_three, window_at}
use Rattle.unroll.proofs.SameBucket.{same_places, same_bucket, left_is, left_known}
use Rattle.win_index.specs.declared.limits.TheConstants.{BLOCK_WINDOWS}
use Rattle.win_index.proofs.Windows.{slice_window, number_of_is, has_number, one_number}

-- the last part of a window of a bucket, at the window's position
suffix_at :
    (m low start at' : ℕ) (w : List ℕ) (places : BucketPlaces)
    → IsBucketStart (2 * low) m (take (2 * low) (drop 2 w)) start
    → IsAtPlace (2 * low + 1) m places w at'
    → slice_get (windows (2 * low + 1) m) (start + at') ≡ Some (part w low 2)
suffix_at m low start at' w places starts is =
    let window = slice_window m (2 * low + 1 + 2) 2 (2 * low + 1) w is.window_is (omega arith) in
    let own = starts.each (part w low 2) window (take-take (2 * low) (2 * low + 1) (drop 2 w) (omega arith)) in
    grind (arith, own, is.place_is, get_or-take, get_or-drop, drop-take)

-- the bucket of a window of an upper block
module _ (upper : UpperBlock) (old now : Entries) (first : List ℕ) (bucket : Bucket) (grows : Grows old now)
    (is : IsBucket upper.plan.now old upper.below first bucket) where
  pub last_part :
      (place at' : ℕ) (w : List ℕ) → InBucket upper first bucket place at' w
      → slice_get (windows (2 * upper.below + 1) upper.plan.now.ids) (bucket.start + at') ≡ Some (part w upper.below 2)
  last_part place at' w here =
      let rest : take (2 * upper.below) (drop 2 first) ≡ take (2 * upper.below) (drop 2 w) =
      grind (arith, drop-take, here.same) in
      suffix_at upper.plan.now.ids upper.below bucket.start at' w bucket.places (rw rest at is.start_is) here.is

  -- a window of a series that begins with a window in the bucket
  pub in_series :
      (place at' count : ℕ) (w : List ℕ) → InBucket upper first bucket place at' w
      → IsSeries (2 * upper.below + 1) upper.plan.now.ids w count
      → (i : ℕ) → i < count → (next : List ℕ) × InBucket upper first bucket (place + i) (at' + i) next
  in_series place at' count w here series i lt =
      let m : ℕ = upper.plan.now.ids in
      let low : ℕ = upper.below in
      let this = last_part place at' w here in
      let suffix : slice_get (windows (2 * low + 1) m) (bucket.start + at') ≡ Some (drop 2 w) =
      grind (arith, common_steps, this, here.is.window_is.size) in
      let there = series (BLOCK_WINDOWS * upper.number + place) (bucket.start + at') i
      (grind (arith, here.here)) suffix lt in
      let next : List ℕ = there.0 in
      let window : IsWindow (2 * low + 1 + 2) m next =
      (has_number (2 * low + 1 + 2) m next).0
      (rw (number_of_is (2 * low + 1 + 2) m (BLOCK_WINDOWS * upper.number + place + i) next there.1) (λ _. true)) in
      let same : take (2 * low + 2) next ≡ take (2 * low + 2) first = grind (arith, there.2, here.same) in
      let own : (p : ℕ) → place_in_bucket (2 * low + 1) next (get_or next (2 * low + 1 + 1) 0) ≡ p
      → InBucket upper first bucket (place + i) p next =
      λ p is_at. record {
        here = grind (arith, there.1);
        same = same;
        is = record { window_is = window; bucket_has = same_places m low first next bucket.places (sym same) is.places_are; place_is = is_at };
      } in
      let at : ℕ = place_in_bucket (2 * low + 1) next (get_or next (2 * low + 1 + 1) 0) in
      let last = last_part (place + i) at next (own at refl) in
      let own_suffix : slice_get (windows (2 * low + 1) m) (bucket.start + at) ≡ Some (drop 2 next) =
      grind (arith, common_steps, last, window.size) in
      let further = one_number (2 * low + 1) m (bucket.start + at) (bucket.start + at' + i)
      (drop 2 next) own_suffix there.3 in
      (next, own (at' + i) (omega (arith, further)))

  -- what a window in the bucket shares with it
  module _ (place at' c index : ℕ) (w : List ℕ) (here : InBucket upper first bucket place at' w)
      (start : bucket.start + at' ≡ BLOCK_WINDOWS * c + index) where
    own_bucket : IsBucket upper.plan.now now upper.below w bucket
    own_bucket = same_bucket upper.plan.now old now upper.below grows first w bucket (sym here.same) is

    window_is : window_in upper place ≡ w
    window_is = window_at upper.plan.now.ids (upper.below + 1) (BLOCK_WINDOWS * upper.number + place) w here.here

    fronts_are : HasFronts upper bucket place
    fronts_are = record {
      size = rw window_is (omega (arith, here.is.window_is.size));
      left = rw window_is (left_is upper.plan.now now upper.below w bucket own_bucket);
      own = rw window_is own_bucket.own_is;
    }

    last_is : block_state upper.plan.now upper.below c index ≡ part_state upper 2 place
    last_is =
        let own = window_at upper.plan.now.ids upper.below (BLOCK_WINDOWS * c + index) (part w upper.below 2)
        (rw start at (last_part place at' w here)) in
        rw (own, window_is) refl

    parts_known : IsSome (now upper.below c) → index < BLOCK_WINDOWS
        → KnowsParts now upper.plan.now.ids upper.below (window_in upper place)
    parts_known known small =
        rw window_is (knows_three now upper.plan.now.ids upper.below w (left_known upper.plan.now now upper.below w bucket own_bucket) own_bucket.own_known
        (λ number is_part.
        let own = number_of_is (2 * upper.below + 1) upper.plan.now.ids (bucket.start + at') (part w upper.below 2)
        (last_part place at' w here) in
        let same : number ≡ bucket.start + at' = same_Some number (bucket.start + at') (sym is_part ∙ own) in
        let block : number / BLOCK_WINDOWS ≡ c = omega (arith, same, start, small) in
        rw block known))

  -- the windows that are taken, and those of a series whose last parts are in one block from an index on
  pub taken_more :
      (before : Entries) (from place at' c index count : ℕ) (sent written : List ℕ) → Grows before now
      → AreTakenInBucket before upper bucket from place sent
      → (block : IsSome (now upper.below c)) → bucket.start + at' ≡ BLOCK_WINDOWS * c + index
      → index + count ≤ BLOCK_WINDOWS
      → (upper.reads_right ≡ true → AreWritten ℕ 0 sent written place count
      (λ i. to_left upper.plan.now.program upper.below (block_state upper.plan.now upper.below c (index + i))))
      → ((i : ℕ) → i < count → (next : List ℕ) × InBucket upper first bucket (place + i) (at' + i) next)
      → AreTakenInBucket now upper bucket from (place + count) written
  taken_more before from place at' c index count sent written more taken known start small wrote series =
      let m : ℕ = upper.plan.now.ids in
      let low : ℕ = upper.below in
      let begins : (i : ℕ) → bucket.start + (at' + i) ≡ BLOCK_WINDOWS * c + (index + i) = λ i. omega (arith, start) in
      record {
        fronts = λ i late lt.
            below_sum (λ i. from ≤ i → HasFronts upper bucket i) place count (λ i lt late. taken.fronts i late lt)
            (λ i lt late. fronts_are (place + i) (at' + i) c (index + i) (series i lt).0 (series i lt).1 (begins i)) i lt late;
        taken = record {
          lasts = λ reads. held_more ℕ 0 place count sent written
              (λ i. to_left upper.plan.now.program low (block_state upper.plan.now low c (index + i)))
              (right_message upper) (taken.taken.lasts reads) (wrote reads)
              (λ i lt. ap (to_left upper.plan.now.program low) (last_is (place + i) (at' + i) c (index + i) (series i lt).0 (series i lt).1 (begins i)));
          known = λ lower j one lt.
              let same : lower ≡ low = omega (arith, one) in
              rw same (below_sum (λ i. KnowsParts now m low (window_in upper i)) place count
              (λ i early n is_part. still_known before now low (n / BLOCK_WINDOWS) more (taken.taken.known low i refl early n is_part))
              (λ i late. parts_known (place + i) (at' + i) c (index + i) (series i late).0 (series i late).1 (begins i) known (omega (arith, small, late))) j lt);
        };
      }

-- the bucket ends with the last window of a series, or goes on with the window after it
module _
    (upper : UpperBlock) (first : List ℕ) (bucket : Bucket) (place count at' : ℕ) (last : List ℕ) (some : 1 ≤ count)
    (here : InBucket upper first bucket (place + (count - 1)) at' last)
  where
    pub bucket_ends :
        IsLastOfBucket (2 * upper.below + 1 + 2) upper.plan.now.ids last
        → EndsAt upper.plan.now.ids (upper.below + 1) first (BLOCK_WINDOWS * upper.number + (place + count - 1))
    bucket_ends greatest = (
      last,
      grind (arith, here.here, some),
      record { last_is = grind (arith, here.is.window_is); same = grind (arith, here.same); none_larger = grind (arith, greatest) },
    )

    pub bucket_goes_on :
        (later : List ℕ) (next : ℕ) → IsAtPlace (2 * upper.below + 1) upper.plan.now.ids bucket.places later next
        → take (2 * upper.below + 1 + 1) later ≡ take (2 * upper.below + 1 + 1) last
        → IsNext (2 * upper.below + 1 + 2) upper.plan.now.ids last later
        → InBucket upper first bucket (place + count) next later
    bucket_goes_on later next is same after =
        let follows = after (BLOCK_WINDOWS * upper.number + (place + (count - 1))) (grind (arith, here.here)) in
        record { here = grind (arith, follows, some); same = grind (arith, same, here.same); is = is }
