use Rattle.std.proofs.Common.{◌≡◌, ◌≤◌, length, vec_capacity}
use Rattle.table_text.specs.declared.parallel.TheConstants.{CHUNKS}
use Rattle.table_text.specs.Sections.{AreEmpty}
use Rattle.table_text.proofs.parallel.empty_chunks.Given as goal

abbrev pub invariant-loop-chunk : goal.invariant-loop-chunk
invariant-loop-chunk l =
    record {
      count : length l.chunks.items ≡ l._chunk;
      room : CHUNKS ≤ vec_capacity l.chunks;
      empty : AreEmpty l.chunks.items;
    }
