use Rattle.std.proofs.Common.{◌≡◌, ℕ, ◌*◌, ◌≤◌, Some, length, min, vec_capacity}
use Rattle.std.specs.Prelude.{slice_get}
use Rattle.shared_memo.specs.LastBlocks.{blocks_of}
use Rattle.table_fill.specs.Shares.{share_blocks, IsShareAt}
use Rattle.table_fill.specs.declared.share.Share.{Share}
use Rattle.table_fill.proofs.shares.shares_of.Given as goal

-- the shares so far, and the first block of the next one
abbrev pub invariant-loop-share : goal.invariant-loop-share
invariant-loop-share l =
    record {
      first_is : l.first ≡ min (share_blocks l.code l.count * l._share) (blocks_of l.code);
      count : length l.shares.items ≡ l._share;
      room : l.count ≤ vec_capacity l.shares;
      each : (k : ℕ) (s : Share) → slice_get l.shares.items k ≡ Some s
          → IsShareAt l.code (share_blocks l.code l.count) k s;
    }
