use Rattle.std.proofs.Common.{◌≡◌, ℕ, ◌<◌, ◌≤◌, List, [], false, length, take, slice_index_or}
use Rattle.std.specs.Prelude.{flat_map}
use Rattle.std.specs.Io.KnownBytes.{Appends}
use Rattle.devices.specs.Watched.{device_of, has_failed}
use Rattle.table_text.proofs.parallel.send_chunks.Given as goal

-- the chunks so far are written and empty, and the others are as they were
abbrev pub invariant-loop-index : goal.invariant-loop-index
invariant-loop-index g l =
    record {
      working : has_failed l.writer ≡ false;
      size : length l.chunks ≡ length l.initial.chunks;
      sent : Appends (g.W.Write.contents (device_of l.initial.writer)) (g.W.Write.contents (device_of l.writer))
          (flat_map (λ chunk. chunk) (take l.index l.initial.chunks));
      empty : (k : ℕ) (d : List ℕ) → k < l.index → slice_index_or l.chunks k d ≡ [];
      left : (k : ℕ) (d : List ℕ) → l.index ≤ k → k < length l.chunks →
          slice_index_or l.chunks k d ≡ slice_index_or l.initial.chunks k d;
    }
