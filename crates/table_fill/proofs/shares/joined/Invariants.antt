use Rattle.std.proofs.Common.{◌*◌, ◌≤◌, vec_capacity}
use Rattle.table_fill.specs.EntryShares.{windows_of, AreEntries}
use Rattle.table_fill.specs.Shares.{windows_before, share_blocks, AreReadFrom}
use Rattle.table_fill.proofs.shares.joined.Given as goal

-- the entries of the shares so far, and the shares that are left
abbrev pub invariant-loop-share : goal.invariant-loop-share
invariant-loop-share l =
    record {
      entries : AreEntries l.code 0 (windows_before l.code (share_blocks l.code l.count * l._share)) l.entries.items;
      rest : AreReadFrom l.code l.count l._share l.shares.items;
      room : windows_of l.code ≤ vec_capacity l.entries;
    }
