-- The states of windows after a round, from their first two parts and from messages from the right, if the round reads
-- these.
use Rattle.std.proofs.Common.{◌≡◌, inl, ⊎_elim, ℕ, ◌+◌, ◌*◌, ◌<◌, ◌≤◌, true, false, List, [], length, map, take, get_or}
use Rattle.std.proofs.Common.{sym, subst, ap, ◌∙◌, arith}
use Rattle.std.proofs.lemmas.Bool.{false≢true, cases_Bool}
use Rattle.std.specs.List.{range_with_len}
use Rattle.node_program.specs.Node.{next}
use Rattle.unroll.specs.States.{AreRewritten}
use Rattle.round_eval.specs.WindowLaws.{PartsAreJoined}
use Rattle.unroll.specs.Parts.{window_in}
use Rattle.unroll.specs.WideColumns.{part_state, left_message, right_message, state_in, AreWritten, HasFronts}
use Rattle.unroll.specs.WideColumns.{HoldFronts, HoldLasts}
use Rattle.unroll.specs.declared.scratch.Scratch.{Scratch}
use Rattle.unroll.specs.declared.bucket.Bucket.{Bucket}
use Rattle.unroll.specs.declared.upper_block.UpperBlock.{UpperBlock}
use Rattle.unroll.proofs.IgnoredRight.{round_ignores}
use Rattle.unroll.proofs.ColumnStates.{below_sum, held_more, take_states}

-- the message from the right is that of the last part, or does not matter
with_last :
    (block : UpperBlock) (count i : ℕ) (sent own : List ℕ) (left : ℕ) → HoldLasts block count sent → i < count
    → next block.plan.now.program block.below own left (get_or sent i 0)
    ≡ next block.plan.now.program block.below own left (right_message block i)
with_last block count i sent own left lasts lt =
    ⊎_elim (λ (reads : block.reads_right ≡ true). ap (next block.plan.now.program block.below own left) (lasts reads i lt))
    (λ (none : block.reads_right ≡ false).
    round_ignores block.plan.now.program block.below (sym block.reads ∙ none) own left (get_or sent i 0)
    (right_message block i))
    (cases_Bool block.reads_right)

-- so the states of all windows follow from their parts in columns
pub states_in_columns :
    PartsAreJoined → (block : UpperBlock) (count : ℕ) (scratch : Scratch) (made : List (List ℕ))
    → block.once_a_bucket ≡ false
    → count ≤ length made → HoldFronts block count scratch → HoldLasts block count scratch.from_right.items
    → ((i : ℕ) → i < count → get_or made i [] ≡ next block.plan.now.program block.below (get_or scratch.own.states i [])
    (get_or scratch.from_left.items i 0) (get_or scratch.from_right.items i 0))
    → take count made ≡ map (state_in block) (range_with_len 0 count)
states_in_columns joined block count scratch made each fits held lasts stepped =
    let p = block.plan.now.program in
    let low = block.below in
    take_states count made (state_in block) fits
    (λ i lt.
    stepped i lt
    ∙ with_last block count i scratch.from_right.items (get_or scratch.own.states i [])
    (get_or scratch.from_left.items i 0) lasts lt
    ∙ (λ j. next p low (held.own each i lt j) (held.left each i lt j) (right_message block i))
    ∙ sym (joined p low (window_in block i) (held.sizes i lt)))

-- a state that is evaluated once is that of each window of the bucket
state_of_bucket :
    PartsAreJoined → (block : UpperBlock) (bucket : Bucket) (i : ℕ) → block.once_a_bucket ≡ true
    → HasFronts block bucket i
    → next block.plan.now.program block.below bucket.own.now bucket.first.sent 0 ≡ state_in block i
state_of_bucket joined block bucket i once fronts =
    let p = block.plan.now.program in
    let low = block.below in
    round_ignores p low (sym block.reads ∙ block.once once) bucket.own.now bucket.first.sent 0 (right_message block i)
    ∙ (λ j. next p low (fronts.own j) (fronts.left j) (right_message block i))
    ∙ sym (joined p low (window_in block i) fronts.size)

-- what a fill writes
filled :
    (old new : List (List ℕ)) (from count : ℕ) (state : List ℕ) → length new ≡ length old → from + count ≤ length old
    → AreRewritten old new from count (λ _. state) → AreWritten (List ℕ) [] old new from count (λ _. state)
filled old new from count state size fits written =
    record { size = size; here = written.written; before = λ i lt. written.others i (omega (arith, fits)) (inl lt) }

-- the windows of a bucket, after those before them
module _
    (block : UpperBlock) (bucket : Bucket) (from count end : ℕ) (sum : from + count ≡ end) (old now : Scratch)
    (held : HoldFronts block from old)
    (fronts : (i : ℕ) → from ≤ i → i < end → HasFronts block bucket i)
  where
    later : (i : ℕ) → i < count → HasFronts block bucket (from + i)
    later i lt = fronts (from + i) (omega arith) (omega (arith, sum, lt))

    sizes_more : (i : ℕ) → i < from + count → length (window_in block i) ≡ 2 * block.below + 3
    sizes_more = below_sum (λ i. length (window_in block i) ≡ 2 * block.below + 3) from count held.sizes
        (λ i lt. (later i lt).size)

    -- in columns
    pub columns_more :
        block.once_a_bucket ≡ false
        → AreWritten ℕ 0 old.from_left.items now.from_left.items from count (λ _. bucket.first.sent)
        → length now.own.states ≡ length old.own.states → from + count ≤ length old.own.states
        → AreRewritten old.own.states now.own.states from count (λ _. bucket.own.now) → HoldFronts block end now
    columns_more each lefts size fits owns =
        subst (λ n. HoldFronts block n now) sum
        (record {
          sizes = sizes_more;
          left = λ _. held_more ℕ 0 from count old.from_left.items now.from_left.items (λ _. bucket.first.sent)
              (left_message block) (held.left each) lefts (λ i lt. (later i lt).left);
          own = λ _. held_more (List ℕ) [] from count old.own.states now.own.states (λ _. bucket.own.now)
              (part_state block 1) (held.own each)
              (filled old.own.states now.own.states from count bucket.own.now size fits owns)
              (λ i lt. (later i lt).own);
          states = λ once. absurd (false≢true (sym each ∙ once));
        })

    -- by one state
    pub states_more :
        PartsAreJoined → (state : List ℕ) → block.once_a_bucket ≡ true → length now.made.states ≡ length old.made.states
        → from + count ≤ length old.made.states → AreRewritten old.made.states now.made.states from count (λ _. state)
        → state ≡ next block.plan.now.program block.below bucket.own.now bucket.first.sent 0 → HoldFronts block end now
    states_more joined state once size fits written is =
        subst (λ n. HoldFronts block n now) sum
        (record {
          sizes = sizes_more;
          left = λ each. absurd (false≢true (sym each ∙ once));
          own = λ each. absurd (false≢true (sym each ∙ once));
          states = λ _. held_more (List ℕ) [] from count old.made.states now.made.states (λ _. state)
              (state_in block) (held.states once)
              (filled old.made.states now.made.states from count state size fits written)
              (λ i lt. is ∙ state_of_bucket joined block bucket (from + i) once (later i lt));
        })
