-- The third window of a tuple, by the identifiers that the tuple begins with.
use Rattle.std.proofs.Common.{◌≡◌, ◌≢◌, ℕ, ◌+◌, ◌-◌, ◌*◌, ◌<◌, ◌≤◌, Bool, true, false, List, Option, length, get_or}
use Rattle.std.proofs.Common.{take, drop, slice_index, Some, refl, sym, ap, ◌∙◌, subst, arith, ⊎_elim}
use Rattle.std.proofs.Common.{length-drop, get_or-drop}
use Rattle.std.specs.Bool.{OnFalse}
use Rattle.std.proofs.lemmas.Bool.{cases_lt}
use Rattle.std.proofs.lemmas.List.{drop-take, take-take, get_or-take, take_all}
use Rattle.win_index.specs.Arcs.{part_at}
use Rattle.win_index.specs.Buckets.{IsBucketStart}
use Rattle.win_index.specs.Windows.{is_used, unused, IsWindow}
use Rattle.win_index.proofs.Windows.{slice_window, free_at, lacks_from_differs, part_of_front, rank_rises, ranks_differ, unused_left}
use Rattle.channel_tables.specs.Tables.{ChannelTable, channel_of}
use Rattle.channel_tables.proofs.Tables.{channel_at}
use Rattle.ring_problems.specs.declared.pattern.Pattern.{Pattern}
use Rattle.ring_problems.specs.declared.pairs.Thirds.{Thirds}
use Rattle.ring_problems.specs.Patterns.{is_long, extra, IsForbidden}
use Rattle.ring_problems.specs.TupleLists.{IsTuple}
use Rattle.ring_problems.specs.Problems.{IsBad}
use Rattle.ring_problems.specs.Pairs.{IsThirds, NoneBegins, NoneBeginsWith, NoneEnds}
use Rattle.ring_problems.proofs.TupleParts.{long_extra}
use Rattle.ring_problems.proofs.Arounds.{tuple_window}

-- the identifiers after the first two
pub front_window : (k m : ℕ) (pair : List ℕ) → IsWindow (k + 1 + 1) m pair
    → IsWindow k m (take (length pair - 2) (drop 2 pair))
front_window k m pair is =
    let size = is.size in
    let few : length pair - 2 ≡ k = omega arith in
    subst (λ n. IsWindow n m (take (length pair - 2) (drop 2 pair))) few
    (slice_window m (k + 1 + 1) 2 (length pair - 2) pair is (omega arith))

-- the place of the third window of a tuple
pub record HasThird (t : ChannelTable) (thirds : Thirds) (tuple : List ℕ) : Type 0 where
  pub place : ℕ
  pub inside : place < thirds.count
  pub no_gap : place ≢ thirds.gap
  pub channel : channel_of t (part_at t.rounds 2 tuple) ≡ Some (slice_index t.entries (thirds.first + place))

pub third_of : (t : ChannelTable) (problem : List Pattern) (thirds : Thirds) (pair tuple : List ℕ)
    → is_long problem ≡ true → IsThirds t pair thirds
    → IsTuple t.ids t.rounds problem tuple → take (2 * t.rounds + 1 + 1) tuple ≡ pair → HasThird t thirds tuple
third_of t problem thirds pair tuple long is tuple_is same =
    let r = t.rounds in
    let k : ℕ = 2 * r in
    let two = long_extra problem long in
    let size = tuple_is.size in
    let last : List ℕ = part_at r 2 tuple in
    let front : List ℕ = drop 2 pair in
    let back : IsWindow (k + 1 + 1) t.ids (drop 1 tuple) =
    subst (λ n. IsWindow (k + 1 + 1) t.ids (drop n tuple)) (let one : extra problem - 1 ≡ 1 = omega (arith, two) in one) tuple_is.back in
    let back_size = back.size in
    let own : IsWindow (k + 1) t.ids last = tuple_window t.ids r 2 problem tuple tuple_is (omega (arith, two)) in
    let split : 2 + k ≡ k + 1 + 1 = omega arith in
    let begins : take k last ≡ front =
    take-take k (k + 1) (drop 2 tuple) (omega arith) ∙ sym (drop-take 2 k tuple) ∙ ap (λ n. drop 2 (take n tuple)) split
    ∙ ap (drop 2) same in
    let y : ℕ = slice_index last k in
    let at_y : y ≡ get_or (drop 1 tuple) (1 + k) 0 =
    get_or-take (k + 1) (drop 2 tuple) k 0 (omega arith) ∙ get_or-drop 2 tuple k 0
    ∙ ap (λ n. get_or tuple n 0) (let sum : 2 + k ≡ 1 + (1 + k) = omega arith in sum)
    ∙ sym (get_or-drop 1 tuple (1 + k) 0) in
    let item = is.bucket.each last own begins in
    let own_size = own.size in
    let free_y : is_used front y ≡ false =
    subst (λ list. is_used list y ≡ false) begins (free_at last k own.distinct (omega arith)) in
    let front_of : (i : ℕ) → i < k → get_or front i 0 ≡ get_or (drop 1 tuple) (1 + i) 0 = λ i lt.
    ap (λ list. get_or list i 0) (sym begins) ∙ get_or-take k last i 0 lt
    ∙ get_or-take (k + 1) (drop 2 tuple) i 0 (omega arith) ∙ get_or-drop 2 tuple i 0
    ∙ ap (λ n. get_or tuple n 0) (let sum : 2 + i ≡ 1 + (1 + i) = omega arith in sum)
    ∙ sym (get_or-drop 1 tuple (1 + i) 0) in
    let front_size : length front ≡ k =
    ap length (sym begins) ∙ (slice_window t.ids (k + 1) 0 k last own (omega arith)).size in
    let second : get_or pair 1 0 ≡ get_or (drop 1 tuple) 0 0 =
    ap (λ list. get_or list 1 0) (sym same) ∙ get_or-take (k + 1 + 1) tuple 1 0 (omega arith)
    ∙ sym (get_or-drop 1 tuple 0 0) in
    let free : is_used front (get_or pair 1 0) ≡ false =
    lacks_from_differs front (get_or pair 1 0) (λ j within e.
    back.distinct 0 (1 + j) 0 (omega arith) (omega arith) (sym second ∙ sym e ∙ front_of j (omega arith))) in
    let differs : y ≢ get_or pair 1 0 =
    λ e. back.distinct 0 (1 + k) 0 (omega arith) (omega arith) (sym second ∙ sym e ∙ at_y) in
    let whole = slice_window t.ids (k + 1) 0 k last own (omega arith) in
    let front_is : IsWindow k t.ids front = subst (IsWindow k t.ids) begins whole in
    let below : y < t.ids = own.below k 0 (omega arith) in
    let few = rank_rises front y t.ids free_y below in
    let all = unused_left front_is in
    record {
      place = length (unused y front);
      inside = omega (arith, is.count_is, few, all, front_size);
      no_gap = λ e. ranks_differ front y (get_or pair 1 0) free_y free differs (e ∙ sym is.gap_is);
      channel = channel_at t (thirds.first + length (unused y front)) last item;
    }

-- the channels of the first two windows are those of the first identifiers
front_channel : (t : ChannelTable) (pair tuple : List ℕ) (step : ℕ) → step ≤ 1
    → take (2 * t.rounds + 1 + 1) tuple ≡ pair
    → channel_of t (part_at t.rounds step tuple) ≡ channel_of t (part_at t.rounds step pair)
front_channel t pair tuple step le same =
    ap (channel_of t) (sym (part_of_front t.rounds step (2 * t.rounds + 1 + 1) tuple (omega arith))
    ∙ ap (part_at t.rounds step) same)

-- no pattern begins with the channels of the first identifiers
pub none_by_begin : (t : ChannelTable) (problem : List Pattern) (pair : List ℕ) (a b : Option ℕ)
    → a ≡ channel_of t (part_at t.rounds 0 pair)
    → b ≡ channel_of t (part_at t.rounds 1 pair) → NoneBegins problem a b → NoneBeginsWith t problem pair
unfolding IsBad
none_by_begin t problem pair a b at_a at_b none tuple window same bad =
    let m = subst (λ x. IsForbidden problem x (channel_of t (part_at t.rounds 1 tuple)) (channel_of t (part_at t.rounds 2 tuple)))
    (front_channel t pair tuple 0 (omega arith) same ∙ sym at_a) bad in
    let n = subst (λ x. IsForbidden problem a x (channel_of t (part_at t.rounds 2 tuple)))
    (front_channel t pair tuple 1 (omega arith) same ∙ sym at_b) m in
    none n.0 n.1 n.2 n.3.0 n.3.1

-- no third window has a channel that is forbidden after these two
pub none_by_ends : (t : ChannelTable) (problem : List Pattern) (pair : List ℕ) (thirds : Thirds) (a b : Option ℕ)
    → a ≡ channel_of t (part_at t.rounds 0 pair) → b ≡ channel_of t (part_at t.rounds 1 pair) → is_long problem ≡ true
    → IsThirds t pair thirds
    → NoneEnds t problem a b thirds.first thirds.count thirds.gap → NoneBeginsWith t problem pair
unfolding IsBad
none_by_ends t problem pair thirds a b at_a at_b long is none tuple window same bad =
    let third = third_of t problem thirds pair tuple long is window same in
    let m = subst (λ x. IsForbidden problem x (channel_of t (part_at t.rounds 1 tuple)) (channel_of t (part_at t.rounds 2 tuple)))
    (front_channel t pair tuple 0 (omega arith) same ∙ sym at_a) bad in
    let n = subst (λ x. IsForbidden problem a x (channel_of t (part_at t.rounds 2 tuple)))
    (front_channel t pair tuple 1 (omega arith) same ∙ sym at_b) m in
    none third.place third.inside third.no_gap (subst (λ x. IsForbidden problem a b x) third.channel n)

-- one more place
pub ends_more : (t : ChannelTable) (problem : List Pattern) (a b : Option ℕ) (start place gap : ℕ)
    → NoneEnds t problem a b start place gap
    → (place ≢ gap → ¬ IsForbidden problem a b (Some (slice_index t.entries (start + place))))
    → NoneEnds t problem a b start (place + 1) gap
ends_more t problem a b start place gap before here n lt no_gap =
    ⊎_elim (λ (less : n < place). before n less no_gap)
    (λ (more : place ≤ n).
    let same : place ≡ n = omega arith in
    subst (λ k. k ≢ gap → ¬ IsForbidden problem a b (Some (slice_index t.entries (start + k)))) same here no_gap)
    (cases_lt n place)

pub on_false : (b : Bool) (P Q : Type 0) → (P → Q) → OnFalse b P → OnFalse b Q
on_false true P Q f h = tt
on_false false P Q f h = f h

-- the place and the channel of the third window of a tuple, in the bucket of its first identifiers
pub third_in_bucket : (t : ChannelTable) (problem : List Pattern) (pair tuple : List ℕ) (first gap : ℕ)
    → is_long problem ≡ true
    → IsBucketStart (2 * t.rounds) t.ids (drop 2 pair) first → length (unused (slice_index pair 1) (drop 2 pair)) ≡ gap
    → IsTuple t.ids t.rounds problem tuple → take (2 * t.rounds + 1 + 1) tuple ≡ pair
    → (place : ℕ) × (place < t.ids - 2 * t.rounds) × (place ≢ gap)
    × (channel_of t (part_at t.rounds 2 tuple) ≡ Some (slice_index t.entries (first + place)))
third_in_bucket t problem pair tuple first gap long bucket gap_is is same =
    let thirds : Thirds = record { first = first; count = t.ids - 2 * t.rounds; gap = gap } in
    let own = third_of t problem thirds pair tuple long
    (record { bucket = bucket; count_is = refl; gap_is = gap_is }) is same in
    (own.place, own.inside, own.no_gap, own.channel)
