use Rattle.std.proofs.Common.{◌≤◌, vec_capacity}
use Rattle.table_fill.specs.ChannelRoom.{IsChannelRoom}
use Rattle.table_fill.specs.EntryShares.{AreEntries}
use Rattle.table_fill.specs.Shares.{windows_before}
use Rattle.table_fill.proofs.share.Share.read.Given as goal

-- the entries of the blocks so far
abbrev pub invariant-loop-number : goal.invariant-loop-number
invariant-loop-number l =
    record {
      room : IsChannelRoom l.code l.self.columns;
      capacity : vec_capacity l.fn.self.entries ≤ vec_capacity l.self.entries;
      entries : AreEntries l.code (windows_before l.code l.fn.self.first) (windows_before l.code l.number) l.self.entries.items;
    }
