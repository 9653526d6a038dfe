-- The segments of threads that are joined from the last to the first.
use Rattle.std.proofs.Common.{◌≡◌, ℕ, zero, suc, ◌+◌, List, [], ◌∷◌, ◌++◌, Result, Ok, Err, None, Some, length, vec_len}
use Rattle.std.proofs.Common.{◌-◌, ◌<◌, length-append, append_assoc, slice_get, sym, ap, ◌∙◌, arith}
use Rattle.std.specs.Prelude.{IfOk, MatchResult}
use Rattle.std.proofs.lemmas.Option.{same_Some, slice_get_within}
use Rattle.win_index.proofs.Windows.{each_snoc, slice_get-append_left, slice_get-append_right}
use Rattle.border_exchange.specs.Segments.{RingSegment}
use Rattle.ring_exec.specs.declared.segment_fault.SegmentFault.{SegmentFault}
use Rattle.ring_exec.specs.SegmentFaults.{work_fault_of}
use Rattle.ring_exec.specs.declared.fault.ThreadFault.TheVariants.{Work}
use Rattle.ring_exec.specs.declared.joined.Joined.{Joined}
use Rattle.ring_exec.specs.declared.progress.Progress.{Progress}
use Rattle.ring_exec.specs.Courses.{AreWaiting, HasStarted, HasEnded}
use Rattle.ring_exec.specs.Faults.{blamed}
use Rattle.ring_exec.specs.Outcomes.{AreInOrder, AreFalling, AreMore, HasMore}

-- without its last item a list in order is in order, and the last item has the index of its place
pub in_order_front :
    {W : Type 0} (index : W → ℕ) (all rest : List W) (w : W) → all ≡ rest ++ w ∷ [] → AreInOrder index all
    → AreInOrder index rest × (index w ≡ length rest)
in_order_front index all rest w is order = (
  λ k v at'. order k v (ap (λ l. slice_get l k) is
      ∙ slice_get-append_left rest (w ∷ []) k (slice_get_within rest k v at') ∙ at'),
  order (length rest) w (ap (λ l. slice_get l (length rest)) is
      ∙ slice_get-append_right rest (w ∷ []) (length rest) 0 (omega arith)),
)

-- a segment that has only done more rounds has the same index
pub same_index :
    (segment : RingSegment) (outcome : Result RingSegment SegmentFault)
    → IfOk outcome (λ ended. ended ≡ record segment { round = ended.round })
    → IfOk outcome (λ ended. ended.index ≡ segment.index)
same_index segment (Ok ended) same = ap (λ (s : RingSegment). s.index) same
same_index segment (Err fault) same = tt

-- the segments joined so far, with `left` of `all` threads still to be joined
pub record AreJoined (before : Joined) (all left : ℕ) (now : Joined) : Type 0 where
  pub no_fault : before.fault ≡ None
  pub more : List RingSegment
  pub items : now.segments.items ≡ before.segments.items ++ more
  pub count : length more + left ≡ all
  pub falling : (k : ℕ) (s : RingSegment) → slice_get more k ≡ Some s → s.index + k + 1 ≡ all

-- what `Joined::add` says of an outcome
abbrev pub IsAdded : Joined → Joined → Result RingSegment SegmentFault → Type 0
IsAdded before after outcome =
    MatchResult outcome (λ segment. (after.fault ≡ before.fault)
    × (after.segments.items ≡ before.segments.items ++ segment ∷ []))
    (λ fault. (after.fault ≡ Some (blamed before.fault (Work (work_fault_of fault))))
    × (after.segments ≡ before.segments))

pub one_joined :
    (before now after : Joined) (all left : ℕ) (outcome : Result RingSegment SegmentFault) → IsAdded now after outcome
    → IfOk outcome (λ segment. segment.index ≡ left) → (now.fault ≡ None → AreJoined before all (left + 1) now)
    → after.fault ≡ None
    → AreJoined before all left after
one_joined before now after all left (Ok s) added index so_far none =
    let joined = so_far (sym added.0 ∙ none) in
    record {
      no_fault = joined.no_fault;
      more = joined.more ++ s ∷ [];
      items = added.1 ∙ ap (λ l. l ++ s ∷ []) joined.items ∙ append_assoc before.segments.items joined.more (s ∷ []);
      count = omega (arith, joined.count, length-append joined.more (s ∷ []));
      falling = each_snoc (λ k t. t.index + k + 1 ≡ all) joined.more s joined.falling
          (omega (arith, index, joined.count));
    }
one_joined before now after all left (Err f) added index so_far none = let fault = added.0 in cc

falling_after : (s : RingSegment) (more : List RingSegment) → s.index ≡ length more → AreFalling more
    → AreFalling (s ∷ more)
falling_after s more index falling zero t is =
    let same = ap (λ (u : RingSegment). u.index) (same_Some s t is) in omega (arith, same, index)
falling_after s more index falling (suc k) t is = let later = falling k t is in omega (arith, later)

-- the last segment runs before the threads of the others are joined
pub last_joined :
    (before now after : Joined) (n : ℕ) (outcome : Result RingSegment SegmentFault) → IsAdded before now outcome
    → IfOk outcome (λ segment. segment.index ≡ n) → HasMore now n after → HasMore before (n + 1) after
last_joined before now after n (Ok s) added index more none =
    let rest = more none in
    record {
      no_fault = sym added.0 ∙ rest.no_fault;
      more = s ∷ rest.more;
      items = rest.items ∙ ap (λ l. l ++ rest.more) added.1 ∙ append_assoc before.segments.items (s ∷ []) rest.more;
      count_is = omega (arith, rest.count_is);
      falling = falling_after s rest.more (index ∙ sym rest.count_is) rest.falling;
    }
last_joined before now after n (Err f) added index more none =
    let fault = added.0 in let other = (more none).no_fault in cc

-- the next segment is the last of those that are not started
pub next_index :
    (index threads : ℕ) (waiting rest : List RingSegment) (s : RingSegment) → waiting ≡ rest ++ s ∷ []
    → AreWaiting index threads waiting
    → s.index ≡ threads
next_index index threads waiting rest s is are =
    let at' = ap (λ l. slice_get l (length rest)) is
    ∙ slice_get-append_right rest (s ∷ []) (length rest) 0 (omega arith) in
    let sum = are.falling (length rest) s at' in
    omega (arith, sum, are.index_is, ap length is, length-append rest (s ∷ []))

-- and the others wait once it is started
pub next_waiting :
    (index threads index' threads' : ℕ) (waiting rest waiting' : List RingSegment) (s : RingSegment)
    → waiting ≡ rest ++ s ∷ []
    → index' ≡ index + 1 → threads' ≡ threads + 1 → waiting' ≡ rest → AreWaiting index threads waiting
    → AreWaiting index' threads' waiting'
next_waiting index threads index' threads' waiting rest waiting' s is more one same are =
    record {
      index_is = omega (arith, are.index_is, more, one);
      falling = λ k t at'.
          let here = ap (λ l. slice_get l k) (sym same) ∙ at' in
          let before = ap (λ l. slice_get l k) is
          ∙ slice_get-append_left rest (s ∷ []) k (slice_get_within rest k t here) ∙ here in
          let sum = are.falling k t before in
          omega (arith, sum, more, ap length same, ap length is, length-append rest (s ∷ []));
    }

-- a run with one more thread has ended as the run without it, in which one segment more was not started
pub ended_before : (before after : Progress) (n : ℕ) (r : Joined) → 0 < n → HasStarted before after
    → HasEnded after (n - 1 + 1) r → HasEnded before (n + 1) r
ended_before before after n r pos started ended none =
    let inside = ended none in
    let outside = started inside.no_fault in
    let count : vec_len after.threads + (n - 1 + 1) ≡ vec_len before.threads + (n + 1) = omega (arith, outside.2) in
    record {
      no_fault = outside.0;
      more = inside.more;
      items = inside.items ∙ ap (λ v. v.items ++ inside.more) outside.1;
      count_is = inside.count_is ∙ count;
      falling = inside.falling;
    }

-- the segments of a run that began with none, if it has no fault
pub all_falling :
    {V E : Type 0} (items : V → List RingSegment) (len : V → ℕ) → ((v : V) → len v ≡ length (items v))
    → (before after : Joined) (n : ℕ) (all : V) (result : Result V E) → before.segments.items ≡ []
    → items all ≡ after.segments.items
    → HasMore before n after → IfOk result (λ found. (after.fault ≡ None) × (found ≡ all))
    → IfOk result (λ found. (len found ≡ n) × AreFalling (items found))
all_falling items len sizes before after n all (Ok found) none same more is =
    let added = more is.0 in
    let whole : items found ≡ added.more = ap items is.1 ∙ same ∙ added.items ∙ ap (λ l. l ++ added.more) none in
    (sizes found ∙ ap length whole ∙ added.count_is, rw whole added.falling)
all_falling items len sizes before after n all (Err f) none same more is = tt
