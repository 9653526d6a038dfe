-- What the functions that make a block say of the source, for one window at a time.
use Rattle.std.specs.Prelude.{◌≡◌, ℕ, ◌+◌, ◌*◌, ◌/◌, ◌%◌, ◌<◌, List, take, drop, length, slice_get, Some}
use Rattle.std.specs.Prelude.{IsSome, IfSome}
use Rattle.lang_check.specs.Plans.{ProgramForIds}
use Rattle.node_program.specs.Node.{to_right}
use Rattle.win_index.specs.BucketPrefixes.{HasNumbers}
use Rattle.win_index.specs.Buckets.{IsBucketStart, HasPlaces, IsEndOfSame, IsAtPlace}
use Rattle.win_index.specs.Windows.{windows, number_of, IsWindow}
use Rattle.round_eval.specs.Line.{middle_state}
use Rattle.unroll.specs.Below.{part, IsPartNumber}
use Rattle.round_eval.specs.BlockStates.{MadeBlock, window_numbered, block_len}
use Rattle.round_eval.specs.Entries.{Entries, IsEntry}
use Rattle.unroll.specs.declared.bucket.Reached.{Reached}
use Rattle.win_index.specs.declared.bucket_prefix.BucketPrefix.{BucketPrefix}
use Rattle.unroll.specs.declared.upper_block.UpperBlock.{UpperBlock}
use Rattle.unroll.specs.declared.bucket.FirstPart.{FirstPart}
use Rattle.unroll.specs.declared.bucket.Near.{Near}
use Rattle.unroll.specs.declared.bucket.Bucket.{Bucket}
use Rattle.win_index.specs.declared.limits.TheConstants.{BLOCK_WINDOWS}

-- w is the first window of block b of level r
pub record IsFirstWindow (m r b : ℕ) (w : List ℕ) : Type 0 where
  pub here : slice_get (windows (2 * r + 1) m) (BLOCK_WINDOWS * b) ≡ Some w
  pub window : IsWindow (2 * r + 1) m w

-- the window at an index of an upper block
abbrev pub window_in : UpperBlock → ℕ → List ℕ
window_in block index = window_numbered block.plan.now.ids (block.below + 1) (BLOCK_WINDOWS * block.number + index)

-- an upper block has a window at this index
pub record IsWindowIn (block : UpperBlock) (index : ℕ) : Type 0 where
  pub inside : index < block_len block.plan.now.ids (block.below + 1) block.number
  pub here : slice_get (windows (2 * (block.below + 1) + 1) block.plan.now.ids) (BLOCK_WINDOWS * block.number + index)
      ≡ Some (window_in block index)
  pub window : IsWindow (2 * block.below + 3) block.plan.now.ids (window_in block index)

-- the prefix of this window has these numbers
pub record IsAtIndex (block : UpperBlock) (index : ℕ) (prefix : BucketPrefix) : Type 0 where
  pub is : IsWindowIn block index
  pub has : HasNumbers (2 * block.below + 2) block.plan.now.ids
      (take (2 * block.below + 2) (window_in block index)) prefix

-- the blocks of the level low that hold the three parts of the window w are known
abbrev pub KnowsParts : Entries → ℕ → ℕ → List ℕ → Type 0
KnowsParts entries m low w = (n : ℕ) → IsPartNumber m low w n → IsSome (entries low (n / BLOCK_WINDOWS))

-- the block of the level low that holds the part of the window w at offset d is known
abbrev pub KnowsPart : Entries → ℕ → ℕ → List ℕ → ℕ → Type 0
KnowsPart entries m low w d = (n : ℕ) → number_of (2 * low + 1) m (part w low d) ≡ Some n
    → IsSome (entries low (n / BLOCK_WINDOWS))

-- item `index` of a known block is the window of this level with this number
pub record HoldsWindow (plan : ProgramForIds) (entries : Entries) (level number : ℕ) (b : MadeBlock)
    (index : ℕ) : Type 0 where
  pub block : IsEntry plan entries level (number / BLOCK_WINDOWS) b
  pub place : index ≡ number % BLOCK_WINDOWS
  pub inside : index < block_len plan.ids level (number / BLOCK_WINDOWS)

-- the first part of a window: the message of its node to the right after `low` rounds. Its block is known
pub record IsFirstPart (plan : ProgramForIds) (entries : Entries) (low : ℕ) (first : FirstPart) : Type 0 where
  pub sent_is : first.sent
      ≡ to_right plan.program low (middle_state plan.program low (window_numbered plan.ids low first.number))
  pub known : IsSome (entries low (first.number / BLOCK_WINDOWS))

-- the first part of the window w, one level above low, by its number
pub record IsFirstPartOf (plan : ProgramForIds) (entries : Entries) (low : ℕ) (w : List ℕ)
    (first : FirstPart) : Type 0 where
  pub number_is : slice_get (windows (2 * low + 1) plan.ids) first.number ≡ Some (part w low 0)
  pub first_is : IsFirstPart plan entries low first

-- a known block of the level low, by its own number
abbrev pub IsKnownBlock : ProgramForIds → Entries → ℕ → MadeBlock → Type 0
IsKnownBlock plan entries low b = IsEntry plan entries low b.number b

-- a first part, and known blocks, if there are some
pub record IsNear (plan : ProgramForIds) (entries : Entries) (low : ℕ) (near : Near) : Type 0 where
  pub first : IfSome near.first (IsFirstPart plan entries low)
  pub middle : IfSome near.middle (λ b. IsKnownBlock plan entries low b.now)
  pub last : IfSome near.last (λ b. IsKnownBlock plan entries low b.now)

-- What the windows of the bucket of w share, one level above low: the number of the first window in the bucket of their
-- last parts, the positions of these, their first part, and the state of their middle part. The blocks of the first and
-- the middle part are known.
pub record IsBucket (plan : ProgramForIds) (entries : Entries) (low : ℕ) (w : List ℕ) (bucket : Bucket) : Type 0 where
  pub start_is : IsBucketStart (2 * low) plan.ids (take (2 * low) (drop 2 w)) bucket.start
  pub places_are : HasPlaces (2 * low + 1) plan.ids w bucket.places
  pub first_is : IsFirstPartOf plan entries low w bucket.first
  pub middle_is : IsKnownBlock plan entries low bucket.middle.now
  pub own_is : bucket.own.now ≡ middle_state plan.program low (part w low 1)
  pub own_cells : length bucket.own.now ≡ length plan.program.start
  pub own_known : KnowsPart entries plan.ids low w 1

-- the parts of the first `count` windows of block b of level r are known
abbrev pub KnowsBelow : Entries → ℕ → ℕ → ℕ → ℕ → Type 0
KnowsBelow entries m r b count =
    (low place : ℕ) → r ≡ low + 1 → place < count
    → KnowsParts entries m low (window_numbered m r (BLOCK_WINDOWS * b + place))

-- the window of level r with number n is the last one of the bucket of w
abbrev pub EndsAt : ℕ → ℕ → List ℕ → ℕ → Type 0
EndsAt m r w n = (last : List ℕ) × (slice_get (windows (2 * r + 1) m) n ≡ Some last) × IsEndOfSame (2 * r + 1) m w last

-- window `place` of an upper block is w, it is in the bucket of the window `first`, and at this position of it
pub record InBucket (block : UpperBlock) (first : List ℕ) (bucket : Bucket) (place at' : ℕ) (w : List ℕ) : Type 0 where
  pub here : slice_get (windows (2 * (block.below + 1) + 1) block.plan.now.ids) (BLOCK_WINDOWS * block.number + place)
      ≡ Some w
  pub same : take (2 * block.below + 2) w ≡ take (2 * block.below + 2) first
  pub is : IsAtPlace (2 * block.below + 1) block.plan.now.ids bucket.places w at'

-- a place among the windows of an upper block: the index of a window, the position of its last part, its bucket, and a
-- known block that may hold the last part of another window
pub record IsReached (entries : Entries) (block : UpperBlock) (reached : Reached) : Type 0 where
  pub inside : reached.index < block_len block.plan.now.ids (block.below + 1) block.number
  pub bucket : IsBucket block.plan.now entries block.below (window_in block reached.index) reached.bucket
  pub here : InBucket block (window_in block reached.index) reached.bucket reached.index reached.place
      (window_in block reached.index)
  pub before_end : reached.place < reached.bucket.places.end
  pub last : IfSome reached.last (λ b. IsKnownBlock block.plan.now entries block.below b.now)
