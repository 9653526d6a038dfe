-- The registers of nodes are within their bounds, round by round.
use Rattle.std.proofs.Common.{ℕ, zero, suc, ◌≤◌, Option, Some, None, List, [], ◌∷◌, map, length, arith}
use Rattle.std.specs.Prelude.{slice_get}
use Rattle.node_program.specs.Term.{Term, Round}
use Rattle.node_program.specs.Node as rounds
use Rattle.node_program.specs.Bounds.{reading_bounds, next_bounds, register_bounds, finish_bound, IsWithin}
use Rattle.lang_check.specs.BoundLaws.{StartIsWithin, NextIsWithin, ChannelIsWithin}
use Rattle.lang_check.proofs.Within.{EnvIsWithin, value_within}

-- values of one list of expressions, one by one
maps-within : (f g : Term → ℕ) → ((e : Term) → f e ≤ g e) → (es : List Term) → IsWithin (map f es) (map g es)
maps-within f g each [] j = omega arith
maps-within f g each (e ∷ es) zero = each e
maps-within f g each (e ∷ es) (suc j) = maps-within f g each es j

-- a node that reads its registers and two messages
reads_within :
    (m left right c d : ℕ) (registers bounds : List ℕ) → left ≤ c → right ≤ d → IsWithin registers bounds
    → EnvIsWithin (rounds.reading_messages registers left right) (reading_bounds m c d bounds)
reads_within m left right c d registers bounds p q h = record { id = omega arith; left = p; right = q; registers = h }

-- before the first round
pub start_within : StartIsWithin
start_within p m id below =
    maps-within _ _
    (λ e. value_within e (rounds.knowing_id id) (reading_bounds m 0 0 [])
    (record { id = omega arith; left = omega arith; right = omega arith; registers = λ j. omega arith }))
    p.start

-- one round
assigned_within :
    (s : Option Round) (m : ℕ) (left own right bounds : List ℕ) → IsWithin left bounds → IsWithin own bounds
    → IsWithin right bounds
    → IsWithin (rounds.assigned_values s own (rounds.right_sent s left) (rounds.left_sent s right))
    (next_bounds s m bounds)
assigned_within None m left own right bounds l o r = λ j. omega arith
assigned_within (Some s) m left own right bounds l o r =
    let nothing : 0 ≤ 0 = omega arith in
    let sent_right = value_within s.right _ _ (reads_within m 0 0 0 0 left bounds nothing nothing l) in
    let sent_left = value_within s.left _ _ (reads_within m 0 0 0 0 right bounds nothing nothing r) in
    maps-within _ _ (λ e. value_within e _ _ (reads_within m _ _ _ _ own bounds sent_right sent_left o)) s.next

pub next_within : NextIsWithin
unfolding rounds.next rounds.to_right rounds.to_left
next_within p m r left own right = assigned_within (slice_get p.steps r) m left own right (register_bounds p m r)

-- the channel after all rounds
pub channel_within : ChannelIsWithin
unfolding rounds.channel finish_bound
channel_within p m registers h =
    let nothing : 0 ≤ 0 = omega arith in
    value_within p.finish _ _
    (reads_within m 0 0 0 0 registers (register_bounds p m (length p.steps)) nothing nothing h)
