-- The prefix after a prefix.
use Rattle.std.proofs.Common.{◌≡◌, ℕ, suc, ◌+◌, ◌-◌, ◌<◌, ◌≤◌, List, [], ◌∷◌, ◌++◌, get_or, take, slice_get, Option}
use Rattle.std.proofs.Common.{Some, None, IfNone, refl, subst, arith}
use Rattle.std.proofs.lemmas.Bool.{not-true}
use Rattle.std.proofs.lemmas.List.{take_at, set_at, get_or_push}
use Rattle.std.proofs.lemmas.Option.{slice_get-get_or}
use Rattle.win_index.specs.BucketPrefixes.{HasNumbers, IsLonger, IsNextPrefix, IsLastPrefix}
use Rattle.win_index.specs.BucketPrefixes.{IsPrefixOfLastBucket, BeginsBucket}
use Rattle.win_index.specs.Buckets.{HasPlaces, IsAtPlace, IsFirstOfBucket, IsLastOfBucket}
use Rattle.win_index.specs.Successor.{IsNext, IsLast}
use Rattle.win_index.specs.Windows.{is_used, unused, IsWindow}
use Rattle.win_index.specs.declared.bucket_prefix.BucketPrefix.{BucketPrefix}
use Rattle.win_index.specs.declared.series.BucketPlaces.{BucketPlaces}
use Rattle.win_index.proofs.Kept.{kept_is}
use Rattle.win_index.proofs.Numbers.{push_window, unused_left}
use Rattle.win_index.proofs.Successors.{next_bucket, last_bucket}
use Rattle.win_index.proofs.Unused.{lacks}

-- the window after the last one of a bucket is the next prefix with the least identifier that this lacks
pub begins_bucket :
    (k m : ℕ) (last : List ℕ) (prefix next : BucketPrefix) → IsWindow (k + 1) m last → IsLastOfBucket (k + 1) m last
    → k < m
    → IsNextPrefix k m prefix next → HasNumbers k m (take k last) prefix → BeginsBucket k m last next
begins_bucket k m last prefix next is greatest short steps has =
    let step = steps (take k last) has in
    let later = step.0 in
    let later_is = step.2.window in
    let y : ℕ = get_or (unused m later) 0 0 in
    let least : slice_get (unused m later) 0 ≡ Some y =
    slice_get-get_or (unused m later) 0 0 (omega (arith, unused_left later_is, short)) in
    let kept = kept_is (lacks later) m 0 y least in
    let long : suc k ≡ k + 1 = omega arith in
    let window_is = rw long at (push_window k m y later later_is kept.below (not-true (is_used later y) kept.passes)) in
    let begins = take_at later (y ∷ []) k later_is.size in
    let end = get_or_push later y 0 k later_is.size in
    let whole = set_at later y [] y k later_is.size in
    record {
      window = later ++ y ∷ [];
      window_is = window_is;
      follows = rw whole at (next_bucket (k + 1) m k last refl is (later ++ y ∷ []) y window_is.size greatest
          (rw begins step.1) (rw begins least));
      has = rw begins step.2;
      first = rw (begins, end) least;
    }

pub no_bucket_follows : {A : Type 0} (k m : ℕ) (prefix : BucketPrefix) (o : Option A)
    → IfNone o (IsLastPrefix k m prefix) →
    IfNone o (IsPrefixOfLastBucket k m prefix)
no_bucket_follows k m prefix None ends = λ last is greatest has.
    last_bucket (k + 1) m k last refl is greatest (ends (take k last) has)
no_bucket_follows k m prefix (Some next) ends = tt

-- the positions for the windows of length k+1 whose prefix has these numbers
abbrev pub GivesPlaces : ℕ → ℕ → BucketPrefix → BucketPlaces → Type 0
GivesPlaces k m prefix places = (window : List ℕ) → IsWindow (k + 1) m window → HasNumbers k m (take k window) prefix
    → HasPlaces (k - 1) m window places

longer_at :
    {k m place : ℕ} (front : BucketPrefix) {places : BucketPlaces} {window : List ℕ} → 2 ≤ k
    → HasNumbers k m (take k window) front → IsAtPlace (k - 1) m places window place → IsLonger k m front place window
longer_at {k} front some has is =
    let long : k - 1 + 2 ≡ k + 1 = omega arith in
    let own : k - 1 + 1 ≡ k = omega arith in
    record { window_is = rw long at is.window_is; front = has; place_is = rw own at is.place_is }

-- the windows after one by the numbers of its prefix and the position of its last identifier
module _ {k m place : ℕ} {front : BucketPrefix} {window : List ℕ} (places : BucketPlaces) (some : 2 ≤ k)
    (gives : GivesPlaces k m front places) (is : IsLonger k m front place window) where
  pub at_longer : IsAtPlace (k - 1) m places window place
  at_longer =
      let long : k + 1 ≡ k - 1 + 2 = omega arith in
      let own : k ≡ k - 1 + 1 = omega arith in
      record {
        window_is = rw long at is.window_is;
        bucket_has = gives window is.window_is is.front;
        place_is = rw own at is.place_is;
      }

  -- a window that has these numbers is the next one
  abbrev Steps : BucketPrefix → ℕ → Type 0
  Steps later next = (after : List ℕ) × IsNext (k + 1) m window after × IsLonger k m later next after

  pub in_bucket :
      (next : ℕ)
      → ((k m : ℕ) (window : List ℕ) → 1 ≤ k → IsAtPlace k m places window place
      → (later : List ℕ) × IsAtPlace k m places later next × (take (k + 1) later ≡ take (k + 1) window)
      × IsNext (k + 2) m window later)
      → Steps front next
  in_bucket next after =
      let later = after (k - 1) m window (omega arith) at_longer in
      let own : k - 1 + 1 ≡ k = omega arith in
      let long : k - 1 + 2 ≡ k + 1 = omega arith in
      let same = rw own at later.2 in
      (later.0, rw long at later.3, longer_at front some (rw same is.front) later.1)

  -- the window is the last one of its bucket
  module _ (ends : (k m : ℕ) (window : List ℕ) → 1 ≤ k → IsAtPlace k m places window place
      → IsLastOfBucket (k + 2) m window) where
    ends_bucket : IsLastOfBucket (k + 1) m window
    ends_bucket =
        let long : k - 1 + 2 ≡ k + 1 = omega arith in
        rw long at (ends (k - 1) m window (omega arith) at_longer)

    pub no_next_bucket : IsLastPrefix k m front → IsLast (k + 1) m window
    no_next_bucket last = last_bucket (k + 1) m k window refl is.window_is ends_bucket (last (take k window) is.front)

    pub to_next_bucket :
        (first : ℕ) (later : BucketPrefix) (next : BucketPlaces) → k < m → IsNextPrefix k m front later
        → GivesPlaces k m later next
        → ((k m : ℕ) (window : List ℕ) → 1 ≤ k → IsWindow (k + 2) m window → HasPlaces k m window next
        → IsFirstOfBucket (k + 1) m window → IsAtPlace k m next window first)
        → Steps later first
    to_next_bucket first later next short steps next_gives at_first =
        let got = begins_bucket k m window front later is.window_is ends_bucket short steps is.front in
        let own : k ≡ k - 1 + 1 = omega arith in
        let long : k + 1 ≡ k - 1 + 2 = omega arith in
        let here = at_first (k - 1) m got.window (omega arith) (rw long at got.window_is)
        (next_gives got.window got.window_is got.has) (subst (λ n. IsFirstOfBucket n m got.window) own got.first) in
        (got.window, got.follows, longer_at later some got.has here)
