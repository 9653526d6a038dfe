-- What other crates cite of the blocks that a source knows. Of the files here they import this one alone.
use Rattle.std.proofs.Common.{ℕ, IsSome}
use Rattle.round_eval.specs.Entries.{Entries, Grows}
use Rattle.unroll.proofs.Known

-- known blocks stay known
pub still_known : (old new : Entries) (r c : ℕ) → Grows old new → IsSome (old r c) → IsSome (new r c)
still_known = Known.still_known
