-- The prefixes of windows by their numbers, and the window after the last one of a bucket, in an upper block.
use Rattle.std.proofs.Common.{◌≡◌, ℕ, ◌+◌, ◌-◌, ◌*◌, ◌<◌, ◌≤◌, List, length, get_or, take, drop, slice_get, Some, arith}
use Rattle.win_index.specs.BucketPrefixes.{HasNumbers, IsPrefixOfNextBucket, IsPrefixOfLastBucket}
use Rattle.win_index.specs.Buckets.{HasPlaces, IsAtPlace, IsFirstOfBucket, IsLastOfBucket, place_in_bucket}
use Rattle.win_index.specs.Windows.{windows, IsWindow}
use Rattle.win_index.specs.declared.limits.TheConstants.{BLOCK_WINDOWS}
use Rattle.win_index.specs.declared.bucket_prefix.BucketPrefix.{BucketPrefix}
use Rattle.win_index.specs.declared.series.BucketPlaces.{BucketPlaces}
use Rattle.round_eval.specs.BlockStates.{block_len}
use Rattle.std.proofs.lemmas.List.{drop-take}
use Rattle.unroll.specs.Below.{part}
use Rattle.unroll.specs.Parts.{window_in, EndsAt, IsAtIndex}
use Rattle.unroll.specs.declared.upper_block.UpperBlock.{UpperBlock}
use Rattle.unroll.proofs.Known.{window_at}

-- the middle part of a window is its prefix without the first identifier; the prefix of its last part lacks the
-- first two
pub middle_at :
    (m low : ℕ) (w : List ℕ) (prefix : BucketPrefix) → HasNumbers (2 * low + 2) m (take (2 * low + 2) w) prefix
    → slice_get (windows (2 * low + 1) m) prefix.middle ≡ Some (part w low 1)
middle_at m low w prefix has = grind (arith, drop-take, has.middle)

pub rest_of_prefix : (low : ℕ) (w : List ℕ) → drop 2 (take (2 * low + 2) w) ≡ take (2 * low) (drop 2 w)
rest_of_prefix low w = grind (arith, drop-take)

-- the next bucket begins at the next index
pub record NextBucket (block : UpperBlock) (index : ℕ) (prefix : BucketPrefix) : Type 0 where
  pub at' : IsAtIndex block index prefix
  pub first : IsFirstOfBucket (2 * block.below + 2) block.plan.now.ids (window_in block index)

-- a block goes on after the end of the bucket of a window, whose prefix has these numbers
module _
    (block : UpperBlock) (from after : ℕ) (prefix : BucketPrefix) (some : 1 ≤ after)
    (inside : after < block_len block.plan.now.ids (block.below + 1) block.number)
    (end : EndsAt block.plan.now.ids (block.below + 1) (window_in block from)
    (BLOCK_WINDOWS * block.number + (after - 1)))
    (has : HasNumbers (2 * block.below + 2) block.plan.now.ids (take (2 * block.below + 2) (window_in block from))
    prefix)
  where
    last_is : IsWindow (2 * block.below + 2 + 1) block.plan.now.ids end.0
    last_is = grind (arith, end.2.last_is)

    greatest : IsLastOfBucket (2 * block.below + 2 + 1) block.plan.now.ids end.0
    greatest = grind (arith, end.2.none_larger)

    last_has : HasNumbers (2 * block.below + 2) block.plan.now.ids (take (2 * block.below + 2) end.0) prefix
    last_has = grind (arith, end.2.same, has)

    pub next_bucket : (next : BucketPrefix) → IsPrefixOfNextBucket (2 * block.below + 2) block.plan.now.ids prefix next
        → NextBucket block after next
    next_bucket next steps =
        let m = block.plan.now.ids in
        let low = block.below in
        let begins = steps end.0 last_is greatest last_has in
        let follows = begins.follows (BLOCK_WINDOWS * block.number + (after - 1)) (grind (arith, end.1)) in
        let here : slice_get (windows (2 * (low + 1) + 1) m) (BLOCK_WINDOWS * block.number + after)
        ≡ Some begins.window = grind (arith, follows, some) in
        let own = window_at m (low + 1) (BLOCK_WINDOWS * block.number + after) begins.window here in
        record {
          at' = record {
            is = record { inside = inside; here = rw own here; window = rw own (grind (arith, begins.window_is)) };
            has = rw own begins.has;
          };
          first = rw own begins.first;
        }

    -- so there is a next bucket
    pub some_bucket_follows : IsPrefixOfLastBucket (2 * block.below + 2) block.plan.now.ids prefix → ⊥
    some_bucket_follows ends =
        let all = ends end.0 last_is greatest last_has (BLOCK_WINDOWS * block.number + (after - 1))
        (grind (arith, end.1)) in
        let whole : BLOCK_WINDOWS * block.number + (after - 1) + 1
        ≡ length (windows (2 * (block.below + 1) + 1) block.plan.now.ids) = grind (arith, all) in
        omega (arith, whole, inside, some)

-- the position of the window at an index in its bucket
pub record IsPlaced (block : UpperBlock) (index place : ℕ) : Type 0 where
  pub place_is : place_in_bucket (2 * block.below + 1) (window_in block index)
      (get_or (window_in block index) (2 * block.below + 2) 0) ≡ place
  pub inside : place < place_in_bucket (2 * block.below + 1) (window_in block index) block.plan.now.ids

-- that of the first window of a bucket
pub first_place :
    (block : UpperBlock) (index place : ℕ) (prefix : BucketPrefix) (places : BucketPlaces)
    → NextBucket block index prefix
    → HasPlaces (2 * block.below + 1) block.plan.now.ids (window_in block index) places
    → ((k m : ℕ) (window : List ℕ) → 1 ≤ k → IsWindow (k + 2) m window → HasPlaces k m window places
    → IsFirstOfBucket (k + 1) m window → IsAtPlace k m places window place)
    → ((k m : ℕ) (window : List ℕ) → 1 ≤ k → IsWindow (k + 2) m window → HasPlaces k m window places
    → IsFirstOfBucket (k + 1) m window → place < places.end)
    → IsPlaced block index place
first_place block index place prefix places bucket has at_first within =
    let m = block.plan.now.ids in
    let low = block.below in
    let w = window_in block index in
    let window : IsWindow (2 * low + 1 + 2) m w = grind (arith, bucket.at'.is.window) in
    let first : IsFirstOfBucket (2 * low + 1 + 1) m w = grind (arith, bucket.first) in
    let here = at_first (2 * low + 1) m w (omega arith) window has first in
    record {
      place_is = grind (arith, here.place_is);
      inside = omega (arith, within (2 * low + 1) m w (omega arith) window has first, has.end);
    }
