-- From the first window of a bucket to that of the next one.
use Rattle.std.proofs.Common.{◌≡◌, ℕ, ◌+◌, ◌-◌, ◌*◌, ◌^◌, ◌<◌, ◌≤◌, Bool, true, false, List, [], length, get_or, set}
use Rattle.std.proofs.Common.{take, slice_get, Some, sym, ap, ◌∙◌, arith, refl, ⊎_elim}
use Rattle.std.proofs.Math.Nat.{mul-le-mul_right}
use Rattle.std.proofs.lemmas.Bool.{cases_lt, OnTrue_at, OnFalse_at}
use Rattle.std.proofs.lemmas.List.{get_or-set_same, take-set}
use Rattle.std.proofs.lemmas.Option.{same_Some, slice_get-get_or}
use Rattle.win_index.specs.Buckets.{IsReplacedByBucket, IsEndOfSame}
use Rattle.win_index.specs.Windows.{windows}
use Rattle.win_index.proofs.Windows.{windows_all, free_at, longer_number, bucket_start_is, window_within, at_place_of_bucket, rank_rises}
use Rattle.channel_tables.specs.Tables.{ChannelTable, IsTable, windows_of}
use Rattle.nbhd_check.specs.Buckets.{wide}
use Rattle.nbhd_check.proofs.Cells.{row_more}

-- the first identifiers of a bucket's first window
front_of_first : (t : ChannelTable) (bucket : ℕ) (window : List ℕ)
    → slice_get (windows_of t) (bucket * wide t) ≡ Some window
    → (1 ≤ wide t) × (slice_get (windows (2 * t.rounds) t.ids) bucket ≡ Some (take (2 * t.rounds) window))
front_of_first t bucket window item =
    let few = window_within (2 * t.rounds + 1) t.ids window
    (windows_all (2 * t.rounds + 1) t.ids (bucket * wide t) window item) in
    let plain : bucket * wide t ≡ bucket * wide t + 0 = omega arith in
    (omega arith, (at_place_of_bucket (2 * t.rounds) t.ids bucket 0 window (omega arith) (rw plain at item)).0)

module _ (t : ChannelTable) (bucket : ℕ) (old : List ℕ)
    (item : slice_get (windows_of t) (bucket * wide t) ≡ Some old) where
  -- the last window of the bucket
  last_of : bucket * wide t + wide t ≤ length (windows_of t)
      → (last : List ℕ) × (slice_get (windows_of t) (bucket * wide t + (wide t - 1)) ≡ Some last)
      × IsEndOfSame (2 * t.rounds + 1) t.ids old last
  last_of within =
      let k : ℕ = 2 * t.rounds in
      let m = t.ids in
      let first = front_of_first t bucket old item in
      let some = first.0 in
      let e : ℕ = bucket * wide t + (wide t - 1) in
      let last = get_or (windows_of t) e [] in
      let at_last = slice_get-get_or (windows_of t) e [] (omega arith) in
      let is = windows_all (k + 1) m e last at_last in
      let size = is.size in
      let own = at_place_of_bucket k m bucket (wide t - 1) last (omega arith) at_last in
      let place = own.1 in
      let front = same_Some (take k last) (take k old) (sym own.0 ∙ first.1) in
      let back : k + 1 - 1 ≡ k = omega arith in
      let x : ℕ = get_or last k 0 in (
        last,
        at_last,
        record {
          last_is = is;
          same = rw back front;
          none_larger = rw back (λ y larger.
              let longer = set last k y in
              let numbered = longer_number k m bucket longer larger (own.0 ∙ ap Some (sym (take-set last k y))) in
              let inside = rw (get_or-set_same last k y 0 (omega arith), take-set last k y) at numbered.0 in
              ⊎_elim
              (λ (lt : x < y). absurd (omega (arith, rank_rises (take k last) x y (free_at last k is.distinct (omega arith)) lt, inside, place)))
              (λ (le : y ≤ x). le)
              (cases_lt x y));
        },
      )

  pub next_first : (replaced : Bool) (new : List ℕ) → IsReplacedByBucket (2 * t.rounds + 1) t.ids replaced old new
      → (bucket + 1) * wide t < length (windows_of t) → slice_get (windows_of t) ((bucket + 1) * wide t) ≡ Some new
  next_first true new is lt =
      let last = last_of (omega (arith, row_more bucket (wide t))) in
      let next : bucket * wide t + (wide t - 1) + 1 ≡ (bucket + 1) * wide t =
      omega (arith, row_more bucket (wide t), (front_of_first t bucket old item).0) in
      rw (← next) (OnTrue_at refl is.next last.0 last.2 (bucket * wide t + (wide t - 1)) last.1)
  next_first false new is lt =
      let last = last_of (omega (arith, row_more bucket (wide t))) in
      absurd (omega (arith, row_more bucket (wide t), (front_of_first t bucket old item).0, OnFalse_at refl is.last last.0 last.2 (bucket * wide t + (wide t - 1)) last.1))

-- the bucket of a first window is within the windows
pub bucket_end : (t : ChannelTable) (bucket : ℕ) (window : List ℕ)
    → slice_get (windows_of t) (bucket * wide t) ≡ Some window → bucket * wide t + wide t ≤ length (windows_of t)
bucket_end t bucket window item =
    (bucket_start_is (2 * t.rounds) t.ids bucket (bucket * wide t) (take (2 * t.rounds) window) (front_of_first t bucket window item).1 refl).within

-- the numbers of a bucket's windows are small
pub small_bucket : (t : ChannelTable) (bucket each : ℕ) → IsTable t → each ≡ wide t
    → bucket * wide t + wide t ≤ length (windows_of t)
    → bucket * each + each < 2 ^ 32
small_bucket t bucket each table each_is within = rw each_is (omega (arith, within, table.begun.shape.few_windows))

-- the same for a bucket before one whose windows' numbers are within the windows
pub bucket_few : (t : ChannelTable) (bucket high each : ℕ) → IsTable t → each ≡ wide t → bucket < high
    → high * wide t ≤ length (windows_of t)
    → (bucket * each + each ≤ length (windows_of t)) × (length (windows_of t) < 2 ^ 32)
bucket_few t bucket high each table each_is lt within =
    let more : bucket + 1 ≤ high = omega arith in
    let own = mul-le-mul_right (wide t) more in
    (rw each_is (omega (arith, own, row_more bucket (wide t), within)), omega (arith, table.begun.shape.few_windows))
