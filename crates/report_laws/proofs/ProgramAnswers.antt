-- Each program is accepted or refused, each list of identifiers is a ring or has a fault, and each number of segments
-- is in its range or not.
use Rattle.std.proofs.Common.{◌≡◌, ◌≢◌, ℕ, zero, suc, ◌+◌, ◌*◌, ◌<◌, ◌≤◌, Bool, true, false, Option, Some, None, List}
use Rattle.std.proofs.Common.{length, take, get_or, inl, inr, refl, arith, add-one}
use Rattle.std.specs.Prelude.{◌⊎◌}
use Rattle.std.proofs.lemmas.Bool.{cases_lt, cases_eq}
use Rattle.std.proofs.lemmas.List.{take_all, get_or-take}
use Rattle.std.proofs.lemmas.List.Elements.{All-nil}
use Rattle.node_program.specs.Term.{ProgramTree}
use Rattle.node_program.specs.Bounds.{finish_bound}
use Rattle.lang_check.specs.Misplaced.{first_missing_register, reads_id_outside_start, reads_message_outside_step}
use Rattle.win_index.specs.declared.limits.TheConstants.{MAX_IDS, MAX_WINDOWS}
use Rattle.win_index.specs.declared.ring.RingFault.{RingFault}
use Rattle.win_index.specs.declared.ring.RingFault.TheVariants.{TooShort, TooLong, IdTooLarge, Repeated}
use Rattle.win_index.specs.Windows.{windows}
use Rattle.win_index.specs.ShapeRange.{IsShape}
use Rattle.win_index.specs.Ring.{IsRing}
use Rattle.win_index.specs.RingFaults.{HasRingLength, HasNoFaultBefore, IsFirstFault}
use Rattle.win_index.proofs.Windows.{front_more, lacks_from_differs}
use Rattle.lang_check.specs.declared.acceptance.CheckFault.{CheckFault}
use Rattle.lang_check.specs.declared.acceptance.CheckFault.TheVariants.{IdsOutOfRange, TooManyWindows}
use Rattle.lang_check.specs.declared.acceptance.CheckFault.TheVariants.{RegisterOutOfRange, IdOutsideStart}
use Rattle.lang_check.specs.declared.acceptance.CheckFault.TheVariants.{MessageOutsideStep, ChannelBound}
use Rattle.lang_check.specs.Acceptance.{IsAccepted}
use Rattle.lang_check.specs.Refusals.{IsFirstRefusal}
use Rattle.border_exchange.specs.declared.segment.limits.TheConstants.{MAX_SEGMENTS}
use Rattle.border_exchange.specs.SegmentCounts.{IsSegmentCount}

-- the program is accepted for m identifiers, or refused
abbrev pub ProgramAnswer : ℕ → ProgramTree → Type 0
ProgramAnswer m p = IsAccepted m p ⊎ ((f : CheckFault) × IsFirstRefusal m p f)

of_shape : (m : ℕ) (p : ProgramTree) → IsShape m (length p.steps) → ProgramAnswer m p
of_shape m p is =
    go (first_missing_register p) (reads_id_outside_start p) (reads_message_outside_step p) refl refl refl
    (cases_lt (finish_bound p m) p.channels)
  where
    go : (o : Option ℕ) (a b : Bool) → first_missing_register p ≡ o → reads_id_outside_start p ≡ a
        → reads_message_outside_step p ≡ b
        → (finish_bound p m < p.channels) ⊎ (p.channels ≤ finish_bound p m) → ProgramAnswer m p
    go (Some j) a b missing id message bound = inr (RegisterOutOfRange j, (is, missing))
    go None true b missing id message bound = inr (IdOutsideStart, (is, missing, id))
    go None false true missing id message bound = inr (MessageOutsideStep, (is, missing, id, message))
    go None false false missing id message (inl below) =
        inl (record { shape = is; registers = missing; identifiers = id; messages = message; bound = below })
    go None false false missing id message (inr over) =
        inr (ChannelBound (finish_bound p m), (is, missing, id, message, over, refl))

pub program_answer : (m : ℕ) (p : ProgramTree) → ProgramAnswer m p
program_answer m p = go (cases_lt m (2 * t + 2)) (cases_lt MAX_IDS m) (cases_lt MAX_WINDOWS count)
  where
    t : ℕ
    t = length p.steps

    count : ℕ
    count = length (windows (2 * t + 1) m)

    go : (m < 2 * t + 2) ⊎ (2 * t + 2 ≤ m) → (MAX_IDS < m) ⊎ (m ≤ MAX_IDS) →
        (MAX_WINDOWS < count) ⊎ (count ≤ MAX_WINDOWS) → ProgramAnswer m p
    go (inl less) few windows = inr (IdsOutOfRange, λ has. omega (arith, less, has.enough))
    go (inr enough) (inl more) windows = inr (IdsOutOfRange, λ has. omega (arith, more, has.few))
    go (inr enough) (inr few) (inl many) =
        inr (TooManyWindows, (record { enough = enough; few = few }, λ has. omega (arith, many, has)))
    go (inr enough) (inr few) (inr within) =
        of_shape m p (record { ids = record { enough = enough; few = few }; few_windows = within })

-- the list is a ring, or has a fault
abbrev pub RingAnswer : ℕ → ℕ → List ℕ → Type 0
RingAnswer m t x = IsRing m t x ⊎ ((f : RingFault) × IsFirstFault m t x f)

-- the identifier is none of the first k, or stands at one of them
met_before : (x : List ℕ) (id k : ℕ) → ((j : ℕ) → j < k → get_or x j 0 ≢ id) ⊎ ((j : ℕ) × (j < k) × (get_or x j 0 ≡ id))
met_before x id zero = inl (λ j lt. absurd (omega (arith, lt)))
met_before x id (suc k) = go (cases_eq (get_or x k 0) id) (met_before x id k)
  where
    last : ((j : ℕ) → j < k → get_or x j 0 ≢ id) → get_or x k 0 ≢ id → (j : ℕ) → j < suc k → get_or x j 0 ≢ id
    last before here j lt = at (cases_eq j k)
      where
        at : (j ≡ k) ⊎ (j ≡ k → ⊥) → get_or x j 0 ≢ id
        at (inl same) = rw same here
        at (inr other) = before j (omega (arith, lt, other))

    go : (get_or x k 0 ≡ id) ⊎ (get_or x k 0 ≢ id)
        → ((j : ℕ) → j < k → get_or x j 0 ≢ id) ⊎ ((j : ℕ) × (j < k) × (get_or x j 0 ≡ id))
        → ((j : ℕ) → j < suc k → get_or x j 0 ≢ id) ⊎ ((j : ℕ) × (j < suc k) × (get_or x j 0 ≡ id))
    go (inl here) before = inr (k, omega arith, here)
    go (inr differs) (inl before) = inl (last before differs)
    go (inr differs) (inr met) = inr (met.0, omega (arith, met.1), met.2)

-- the first n places have no fault, or the first fault is at one of them
front_answer : (m t : ℕ) (x : List ℕ) → HasRingLength m t x → (n : ℕ) → n ≤ length x →
    HasNoFaultBefore n m x ⊎ ((f : RingFault) × IsFirstFault m t x f)
front_answer m t x size zero le =
    inl (record {
      size = refl;
      below = All-nil (λ id. id < m);
      distinct = λ i j d less within. absurd (omega (arith, within));
    })
front_answer m t x size (suc n) le =
    go (front_answer m t x size n (omega (arith, le))) (cases_lt (get_or x n 0) m) (met_before x (get_or x n 0) n)
  where
    id : ℕ
    id = get_or x n 0

    lt : n < length x
    lt = omega (arith, le)

    go : HasNoFaultBefore n m x ⊎ ((f : RingFault) × IsFirstFault m t x f) → (id < m) ⊎ (m ≤ id)
        → ((j : ℕ) → j < n → get_or x j 0 ≢ id) ⊎ ((j : ℕ) × (j < n) × (get_or x j 0 ≡ id))
        → HasNoFaultBefore (suc n) m x ⊎ ((f : RingFault) × IsFirstFault m t x f)
    go (inr fault) bound met = inr fault
    go (inl before) (inr over) met = inr (IdTooLarge n, (size, lt, before, over))
    go (inl before) (inl below) (inr met) = inr (Repeated met.0 n, (size, lt, before, below, met.1, met.2))
    go (inl before) (inl below) (inl differs) =
        let other : (k : ℕ) → k < length (take n x) → get_or (take n x) k 0 ≢ id =
        λ k less. let within : k < n = omega (arith, less, before.size) in
        rw (get_or-take n x k 0 within) (differs k within) in
        let next : HasNoFaultBefore (n + 1) m x =
        front_more n m x lt before below (lacks_from_differs (take n x) id other) in
        inl (rw (add-one n) at next)

pub ring_answer : (m t : ℕ) (x : List ℕ) → RingAnswer m t x
ring_answer m t x = by_length (cases_lt (length x) (2 * t + 2)) (cases_lt m (length x))
  where
    whole : HasRingLength m t x → HasNoFaultBefore (length x) m x ⊎ ((f : RingFault) × IsFirstFault m t x f) →
        RingAnswer m t x
    whole size (inr fault) = inr fault
    whole size (inl front) =
        let all = take_all (length x) x (omega arith) in
        inl (record {
          long = size.long;
          short = size.short;
          below = rw all at front.below;
          distinct = rw all at front.distinct;
        })

    by_length : (length x < 2 * t + 2) ⊎ (2 * t + 2 ≤ length x) → (m < length x) ⊎ (length x ≤ m) → RingAnswer m t x
    by_length (inl less) many = inr (TooShort, less)
    by_length (inr long) (inl many) = inr (TooLong, (long, many))
    by_length (inr long) (inr short) =
        let size : HasRingLength m t x = record { long = long; short = short } in
        whole size (front_answer m t x size (length x) (omega arith))

pub segments_answer : (segments places : ℕ) → IsSegmentCount segments places ⊎ (¬ IsSegmentCount segments places)
segments_answer segments places = go (cases_lt segments 1) (cases_lt MAX_SEGMENTS segments) (cases_lt places segments)
  where
    go : (segments < 1) ⊎ (1 ≤ segments) → (MAX_SEGMENTS < segments) ⊎ (segments ≤ MAX_SEGMENTS)
        → (places < segments) ⊎ (segments ≤ places)
        → IsSegmentCount segments places ⊎ (¬ IsSegmentCount segments places)
    go (inl none) few enough = inr (λ is. omega (arith, none, is.some))
    go (inr some) (inl many) enough = inr (λ is. omega (arith, many, is.few))
    go (inr some) (inr few) (inl more) = inr (λ is. omega (arith, more, is.enough))
    go (inr some) (inr few) (inr enough) = inl (record { some = some; few = few; enough = enough })
