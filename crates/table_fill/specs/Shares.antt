-- Shares of the entries of a table, before and after they are read. No public contract cites this file.
use Rattle.std.specs.Prelude.{◌≡◌, ℕ, ◌+◌, ◌-◌, ◌*◌, ◌<◌, ◌≤◌, List, Some, length, min, slice_get, slice_index_or}
use Rattle.std.specs.Prelude.{vec_len, vec_capacity}
use Rattle.std.specs.Int.{div_ceil}
use Rattle.lang_check.specs.Plans.{ProgramForIds}
use Rattle.win_index.specs.declared.limits.TheConstants.{BLOCK_WINDOWS}
use Rattle.table_fill.specs.ChannelRoom.{IsChannelRoom}
use Rattle.table_fill.specs.EntryShares.{windows_of, AreEntries}
use Rattle.shared_memo.specs.LastBlocks.{blocks_of}
use Rattle.table_fill.specs.declared.share.Share.{Share}

-- the number of windows of the first b blocks of the last level, as far as there are so many
abbrev pub windows_before : ProgramForIds → ℕ → ℕ
windows_before plan b = min (BLOCK_WINDOWS * b) (windows_of plan)

-- the number of blocks of each of this many shares
abbrev pub share_blocks : ProgramForIds → ℕ → ℕ
share_blocks plan count = div_ceil (blocks_of plan) count

-- a share that can be read: it has scratch, and capacity for the entries of its blocks, which are of the last level
pub record IsReady (plan : ProgramForIds) (share : Share) : Type 0 where
  pub order : share.first ≤ share.end
  pub within : share.end ≤ blocks_of plan
  pub columns : IsChannelRoom plan share.columns
  pub empty : vec_len share.entries ≡ 0
  pub room : BLOCK_WINDOWS * (share.end - share.first) ≤ vec_capacity share.entries

-- share k, if each has this many blocks, as far as there are so many; the first one has capacity for all entries
pub record IsShareAt (plan : ProgramForIds) (each k : ℕ) (share : Share) : Type 0 where
  pub ready : IsReady plan share
  pub first_is : share.first ≡ min (each * k) (blocks_of plan)
  pub end_is : share.end ≡ min (each * (k + 1)) (blocks_of plan)
  pub all : k ≡ 0 → windows_of plan ≤ vec_capacity share.entries

-- all shares, in order
pub record AreShares (plan : ProgramForIds) (shares : List Share) : Type 0 where
  pub some : 0 < length shares
  pub each : (k : ℕ) (s : Share) → slice_get shares k ≡ Some s → IsShareAt plan (share_blocks plan (length shares)) k s

-- a share before and after it was read
pub record HasRead (plan : ProgramForIds) (old new : Share) : Type 0 where
  pub entries : AreEntries plan (windows_before plan old.first) (windows_before plan old.end) new.entries.items
  pub room : vec_capacity old.entries ≤ vec_capacity new.entries

-- all shares before and after they were read
abbrev pub AllRead : ProgramForIds → List Share → List Share → Type 0
AllRead plan old new =
    (k : ℕ) (d : Share) → k < length old → HasRead plan (slice_index_or old k d) (slice_index_or new k d)

-- share k, read
pub record IsReadAt (plan : ProgramForIds) (each k : ℕ) (share : Share) : Type 0 where
  pub entries : AreEntries plan (windows_before plan (each * k)) (windows_before plan (each * (k + 1)))
      share.entries.items
  pub all : k ≡ 0 → windows_of plan ≤ vec_capacity share.entries

-- the shares from share `from` on, of this many, read
abbrev pub AreReadFrom : ProgramForIds → ℕ → ℕ → List Share → Type 0
AreReadFrom plan count from shares =
    (length shares + from ≡ count)
    × ((k : ℕ) (s : Share) → slice_get shares k ≡ Some s → IsReadAt plan (share_blocks plan count) (from + k) s)
