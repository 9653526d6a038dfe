-- Columns for the windows of a block. No public contract cites this file.
use Rattle.std.specs.Prelude.{◌≡◌, ℕ, ◌+◌, ◌-◌, ◌*◌, ◌<◌, ◌≤◌, true, false, List, [], length, take}
use Rattle.std.specs.Prelude.{slice_index, slice_index_or}
use Rattle.node_program.specs.Node.{to_left, to_right}
use Rattle.node_program.specs.Term.{terms}
use Rattle.win_index.specs.declared.limits.TheConstants.{BLOCK_WINDOWS}
use Rattle.lang_check.specs.Plans.{ProgramForIds}
use Rattle.unroll.specs.States.{HasSize}
use Rattle.column_machine.specs.StackNeed.{most_columns}
use Rattle.unroll.specs.Below.{part}
use Rattle.round_eval.specs.BlockStates.{MadeBlock, block_len, block_state}
use Rattle.round_eval.specs.Line.{middle_state}
use Rattle.round_eval.specs.Entries.{Entries}
use Rattle.round_eval.specs.HeldStates.{first_states}
use Rattle.unroll.specs.Parts.{window_in, IsKnownBlock, KnowsBelow, EndsAt}
use Rattle.unroll.specs.RightReads.{round_reads_right}
use Rattle.unroll.specs.declared.scratch.Scratch.{Scratch}
use Rattle.unroll.specs.declared.bucket.Bucket.{Bucket}
use Rattle.unroll.specs.declared.upper_block.UpperBlock.{UpperBlock}

-- the state of the part at offset d of window i of an upper block
abbrev pub part_state : UpperBlock → ℕ → ℕ → List ℕ
part_state block d i = middle_state block.plan.now.program block.below (part (window_in block i) block.below d)

-- the message of the first part's node to the right in the next round, which the middle part's node gets from its left
abbrev pub left_message : UpperBlock → ℕ → ℕ
left_message block i = to_right block.plan.now.program block.below (part_state block 0 i)

-- the message of the last part's node to the left
abbrev pub right_message : UpperBlock → ℕ → ℕ
right_message block i = to_left block.plan.now.program block.below (part_state block 2 i)

-- the state of window i of an upper block
abbrev pub state_in : UpperBlock → ℕ → List ℕ
state_in block i = block_state block.plan.now (block.below + 1) block.number i

-- the first two parts of window i of an upper block are those of a bucket
pub record HasFronts (block : UpperBlock) (bucket : Bucket) (i : ℕ) : Type 0 where
  pub size : length (window_in block i) ≡ 2 * block.below + 3
  pub left : bucket.first.sent ≡ left_message block i
  pub own : bucket.own.now ≡ part_state block 1 i

-- the windows of an upper block from one index to another, at most BLOCK_WINDOWS, have the first two parts of a bucket
pub record ShareFronts (block : UpperBlock) (bucket : Bucket) (from end : ℕ) : Type 0 where
  pub order : from ≤ end
  pub few : end ≤ BLOCK_WINDOWS
  pub cells : length bucket.own.now ≡ length block.plan.now.program.start
  pub each : (i : ℕ) → from ≤ i → i < end → HasFronts block bucket i

-- the first `count` windows of an upper block, without their last parts: item i of the columns is the message of window
-- i from the left and the state of its middle part, or, where the round is evaluated once a bucket, the state of window
-- i
pub record HoldFronts (block : UpperBlock) (count : ℕ) (scratch : Scratch) : Type 0 where
  pub sizes : (i : ℕ) → i < count → length (window_in block i) ≡ 2 * block.below + 3
  pub left : block.once_a_bucket ≡ false → (i : ℕ) → i < count
      → slice_index scratch.from_left.items i ≡ left_message block i
  pub own : block.once_a_bucket ≡ false → (i : ℕ) → i < count
      → slice_index_or scratch.own.states i [] ≡ part_state block 1 i
  pub states : block.once_a_bucket ≡ true → (i : ℕ) → i < count
      → slice_index_or scratch.made.states i [] ≡ state_in block i

-- item i of a list is the message of window i of an upper block from the right, if the round reads it
abbrev pub HoldLasts : UpperBlock → ℕ → List ℕ → Type 0
HoldLasts block count sent = block.reads_right ≡ true → (i : ℕ) → i < count → slice_index sent i ≡ right_message block i

-- the last parts of the first `count` windows of an upper block were taken, and the blocks of their parts are known
pub record AreTaken (entries : Entries) (block : UpperBlock) (count : ℕ) (sent : List ℕ) : Type 0 where
  pub lasts : HoldLasts block count sent
  pub known : KnowsBelow entries block.plan.now.ids (block.below + 1) block.number count

-- so were all parts of these windows
pub record AreGathered (entries : Entries) (block : UpperBlock) (count : ℕ) (scratch : Scratch) : Type 0 where
  pub fronts : HoldFronts block count scratch
  pub taken : AreTaken entries block count scratch.from_right.items

-- the last parts of the windows before the index `end` were taken so, and those from an index on have the first two
-- parts of a bucket
pub record AreTakenInBucket (entries : Entries) (block : UpperBlock) (bucket : Bucket) (from end : ℕ)
    (sent : List ℕ) : Type 0 where
  pub fronts : (i : ℕ) → from ≤ i → i < end → HasFronts block bucket i
  pub taken : AreTaken entries block end sent

-- such windows up to where their bucket ends, or the block; the known block `last` holds the last part of the one
-- before `end`
pub record IsBucketGathered
    (entries : Entries) (block : UpperBlock) (bucket : Bucket) (from end : ℕ) (last : MadeBlock) (sent : List ℕ)
    : Type 0 where
  pub later : from < end
  pub within : end ≤ block_len block.plan.now.ids (block.below + 1) block.number
  pub ended : end < block_len block.plan.now.ids (block.below + 1) block.number
      → EndsAt block.plan.now.ids (block.below + 1) (window_in block from) (BLOCK_WINDOWS * block.number + (end - 1))
  pub last_is : IsKnownBlock block.plan.now entries block.below last
  pub taken : AreTakenInBucket entries block bucket from end sent

-- the `count` items from a place on are these now, and the items before them are unchanged
pub record AreWritten (A : Type 0) (none : A) (old new : List A) (place count : ℕ) (item : ℕ → A) : Type 0 where
  pub size : length new ≡ length old
  pub here : (i : ℕ) → i < count → slice_index_or new (place + i) none ≡ item i
  pub before : (i : ℕ) → i < place → slice_index_or new i none ≡ slice_index_or old i none

-- the first ones of these states are those of block b of level r
abbrev pub HoldBlock : ProgramForIds → ℕ → ℕ → List (List ℕ) → Type 0
HoldBlock plan r b states = take (block_len plan.ids r b) states ≡ first_states plan r b (block_len plan.ids r b)

-- scratch for the blocks of a plan: room for its expressions, columns for its registers, and which of its rounds
-- read the message from the right
pub record IsReady (plan : ProgramForIds) (scratch : Scratch) : Type 0 where
  pub room : most_columns (terms plan.program) ≤ scratch.work.columns
  pub width : scratch.work.width ≡ BLOCK_WINDOWS
  pub reads : (k : ℕ) → k < length plan.program.steps
      → slice_index_or scratch.reads_right k true ≡ round_reads_right plan.program k
  pub from_left_wide : length scratch.from_left.items ≡ BLOCK_WINDOWS
  pub own_wide : HasSize BLOCK_WINDOWS (length plan.program.start) scratch.own
  pub from_right_wide : length scratch.from_right.items ≡ BLOCK_WINDOWS
  pub made_wide : HasSize BLOCK_WINDOWS (length plan.program.start) scratch.made
