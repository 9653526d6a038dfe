-- The value of a whole expression is what a trace and a run show.
use Rattle.std.proofs.Common.{◌≡◌, ℕ, zero, suc, List, [], ◌∷◌, length, get_or, map, sym, ap, ◌∙◌, add-one, arith}
use Rattle.std.specs.Prelude.{Some, slice_get}
use Rattle.std.proofs.lemmas.Option.{none-some, same_Some}
use Rattle.std.proofs.lemmas.List.FromFn.{get_or-map-range_with_len}
use Rattle.node_program.specs.Term.{Term}
use Rattle.node_program.specs.Value.{value}
use Rattle.node_program.specs.Node.{reading_messages, left_sent, right_sent, assigned_values, to_left, to_right}
use Rattle.node_program.specs.Node.{next, channel}
use Rattle.node_program.specs.GlobalRounds.{left_of, right_of, state, channel_at}
use Rattle.value_trees.specs.Laws.{StartsAreHeld, AssignedAreHeld, MessagesAreSent, FinishIsChannel}

-- the item of a list of values
mapped : (f : Term → ℕ) (es : List Term) (j : ℕ) (e : Term) → slice_get es j ≡ Some e → f e ≡ get_or (map f es) j 0
mapped f [] j e is = absurd (none-some e is)
mapped f (d ∷ es) zero e is = ap f (sym (same_Some d e is))
mapped f (d ∷ es) (suc j) e is = mapped f es j e is

-- the number at a place
pub at_place : (xs : List ℕ) (i n : ℕ) → slice_get xs i ≡ Some n → get_or xs i 0 ≡ n
at_place [] i n is = absurd (none-some n is)
at_place (x ∷ xs) zero n is = same_Some x n is
at_place (x ∷ xs) (suc i) n is = at_place xs i n is

pub starts : StartsAreHeld
starts p x i j e is = mapped _ p.start j e is

pub assigned : AssignedAreHeld
unfolding next
assigned p x i r j s e round is =
    let own = state p x r i in
    let left = to_right p r (state p x r (left_of x i)) in
    let right = to_left p r (state p x r (right_of x i)) in
    mapped (λ t. value t (reading_messages own left right)) s.next j e is
    ∙ ap (λ o. get_or (assigned_values o own left right) j 0) (sym round)
    ∙ ap (λ k. get_or (state p x k i) j 0) (sym (add-one r))

pub sent : MessagesAreSent
unfolding to_left to_right
sent p x i r s round = (ap (λ o. left_sent o (state p x r i)) (sym round), ap (λ o. right_sent o (state p x r i)) (sym round))

pub finished : FinishIsChannel
unfolding channel_at channel
finished p x i lt = sym (get_or-map-range_with_len (channel_at p x) 0 (length x) i i 0 lt (omega arith))
