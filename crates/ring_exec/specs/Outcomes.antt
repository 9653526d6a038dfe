-- The outcomes of the segments of a run. No public contract cites this file.
use Rattle.std.specs.Prelude.{◌≡◌, ℕ, ◌+◌, List, ◌++◌, None, Some, length, slice_get}
use Rattle.border_exchange.specs.Segments.{RingSegment}
use Rattle.ring_exec.specs.declared.joined.Joined.{Joined}

-- item k of the list has the index k
abbrev pub AreInOrder : {W : Type 0} → (W → ℕ) → List W → Type 0
AreInOrder {W = W} index items = (k : ℕ) (w : W) → slice_get items k ≡ Some w → index w ≡ k

-- segments whose indices fall to 0
abbrev pub AreFalling : List RingSegment → Type 0
AreFalling segments = (k : ℕ) (s : RingSegment) → slice_get segments k ≡ Some s → s.index + k + 1 ≡ length segments

-- without a fault, the outcomes after so many more are as many segments more, whose indices fall to 0
pub record AreMore (before : Joined) (count : ℕ) (after : Joined) : Type 0 where
  pub no_fault : before.fault ≡ None
  pub more : List RingSegment
  pub items : after.segments.items ≡ before.segments.items ++ more
  pub count_is : length more ≡ count
  pub falling : AreFalling more

-- what there is after so many more outcomes
abbrev pub HasMore : Joined → ℕ → Joined → Type 0
HasMore before count after = after.fault ≡ None → AreMore before count after
