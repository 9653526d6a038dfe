-- The windows that have the last identifier of a window first.
use Rattle.std.proofs.Common.{◌≡◌, ◌≢◌, ℕ, suc, ◌+◌, ◌*◌, ◌<◌, ◌≤◌, List, [], ◌∷◌, ◌++◌, length, get_or, set, take}
use Rattle.std.proofs.Common.{drop, slice_get, Some, subst, sym, ap, ◌∙◌, arith, refl, ⊎_elim, length-drop}
use Rattle.std.proofs.Math.Seq.{get_or-append_seam}
use Rattle.std.proofs.lemmas.Bool.{cases_eq}
use Rattle.std.proofs.lemmas.Bool.Decides.{nat_tests}
use Rattle.std.proofs.lemmas.List.{get_or-set_same, get_or-set_other, get_or-take, get_or-drop, length-take-le, take_at}
use Rattle.std.proofs.lemmas.Option.{same_Some, slice_get_within}
use Rattle.win_index.specs.Windows.{unused, IsWindow}
use Rattle.win_index.proofs.Windows.{push_window, windows_all, one_number, back_window}
use Rattle.channel_tables.specs.Tables.{ChannelTable, windows_of}
use Rattle.nbhd_check.specs.ChannelsBefore.{AreBefore}
use Rattle.nbhd_check.specs.declared.near.SecondBuckets.{SecondBuckets}
use Rattle.nbhd_check.specs.MiddleBuckets.{AreNextBuckets, in_bucket}
use Rattle.nbhd_check.specs.Buckets.{second_gap, second_bucket, wide}
use Rattle.nbhd_check.proofs.Buckets.{first_is_free}
use Rattle.nbhd_check.proofs.MiddleSteps.{next_place}
use Rattle.nbhd_check.proofs.SecondBuckets.{AtPlace}

-- a list by its first identifier and the others
pub first_and_rest : (list : List ℕ) → 1 ≤ length list → list ≡ get_or list 0 0 ∷ drop 1 list
first_and_rest [] some = absurd (omega arith)
first_and_rest (x ∷ list) some = refl

-- what ends in the same identifier begins with the same ones
pub same_turn : (x y : ℕ) (z u : List ℕ) → length z ≡ length u → z ++ x ∷ [] ≡ u ++ y ∷ [] → x ∷ z ≡ y ∷ u
same_turn x y z u size same =
    let last : x ≡ y =
    sym (get_or-append_seam z x [] 0) ∙ (λ i. get_or (same i) (size i) 0) ∙ get_or-append_seam u y [] 0 in
    let front : z ≡ u =
    sym (take_at z (x ∷ []) (length z) refl) ∙ (λ i. take (size i) (same i)) ∙ take_at u (y ∷ []) (length u) refl in
    λ i. last i ∷ front i

-- the window that has the first identifier of the window at a place last
pub turned_at : (t : ChannelTable) (buckets : SecondBuckets) (place : ℕ) → (own : AtPlace t buckets place)
    → slice_get (windows_of t) (second_bucket buckets place * wide t + second_gap buckets place)
    ≡ Some (drop 1 own.window ++ get_or own.window 0 0 ∷ [])
turned_at t buckets place own =
    let k : ℕ = 2 * t.rounds in
    let w = own.window in
    let x : ℕ = get_or w 0 0 in
    let z = drop 1 w in
    let is = windows_all (k + 1) t.ids _ w own.item in
    let size = is.size in
    let rest = back_window k t.ids w is in
    let rest_size = rest.size in
    let longer : suc k ≡ k + 1 = omega arith in
    let turned : IsWindow (k + 1) t.ids (z ++ x ∷ []) =
    subst (λ l. IsWindow l t.ids (z ++ x ∷ [])) longer
    (push_window k t.ids x z rest (is.below 0 0 (omega arith)) (first_is_free w is.distinct)) in
    let last : get_or (z ++ x ∷ []) k 0 ≡ x =
    ap (λ n. get_or (z ++ x ∷ []) n 0) (sym rest_size) ∙ get_or-append_seam z x [] 0 in
    let number : second_bucket buckets place * wide t + length (unused (get_or (z ++ x ∷ []) k 0) z)
    ≡ second_bucket buckets place * wide t + second_gap buckets place =
    ap (λ y. second_bucket buckets place * wide t + length (unused y z)) last
    ∙ ap (λ n. second_bucket buckets place * wide t + n) (sym own.gap_is) in
    ap (slice_get (windows_of t)) (sym number) ∙ own.starts.each (z ++ x ∷ []) turned (take_at z (x ∷ []) k rest_size)

-- one channel more is written
pub before_more : (t : ChannelTable) (buckets : SecondBuckets) (place channel cell limit : ℕ) (before : List ℕ)
    → AtPlace t buckets place
    → length before ≡ length (windows_of t) → cell ≡ second_bucket buckets place * wide t + second_gap buckets place
    → channel ≡ get_or t.entries (buckets.bucket * wide t + place) 0 → limit ≡ buckets.bucket * wide t + place
    → AreBefore t limit before → AreBefore t (limit + 1) (set before cell channel)
before_more t buckets place channel cell limit before own room cell_is channel_is limit_is are n q x z
    lt item_n item_q =
    let k : ℕ = 2 * t.rounds + 1 in
    let w = own.window in
    let at_w : slice_get (windows_of t) limit ≡ Some w = ap (slice_get (windows_of t)) limit_is ∙ own.item in
    let size_w = (windows_all k t.ids limit w at_w).size in
    let whole = first_and_rest w (omega (arith, size_w)) in
    let turned : slice_get (windows_of t) cell ≡ Some (drop 1 w ++ get_or w 0 0 ∷ []) =
    ap (slice_get (windows_of t)) cell_is ∙ turned_at t buckets place own in
    let size_n = (windows_all k t.ids n (x ∷ z) item_n).size in
    let new = set before cell channel in
    ⊎_elim
    (λ (same : q ≡ cell).
    let lists : z ++ x ∷ [] ≡ drop 1 w ++ get_or w 0 0 ∷ [] =
    same_Some (z ++ x ∷ []) (drop 1 w ++ get_or w 0 0 ∷ []) (sym item_q
    ∙ ap (slice_get (windows_of t)) same ∙ turned) in
    let window : x ∷ z ≡ w =
    same_turn x (get_or w 0 0) z (drop 1 w) (omega (arith, size_n, size_w, length-drop 1 w)) lists
    ∙ sym whole in
    let number : n ≡ limit = one_number k t.ids n limit w (item_n ∙ ap Some window) at_w in
    ap (λ c. get_or new c 0) same
    ∙ get_or-set_same before cell channel 0 (omega (arith, slice_get_within (windows_of t) cell _ turned, room))
    ∙ channel_is ∙ ap (λ c. get_or t.entries c 0) (sym limit_is ∙ sym number))
    (λ (other : q ≢ cell).
    let apart : n ≢ limit = λ number.
    let window : x ∷ z ≡ w = same_Some (x ∷ z) w (sym item_n ∙ ap (slice_get (windows_of t)) number ∙ at_w) in
    let lists : z ++ x ∷ [] ≡ drop 1 w ++ get_or w 0 0 ∷ [] = λ i. drop 1 (window i) ++ get_or (window i) 0 0 ∷ [] in
    other (one_number k t.ids q cell _ item_q (turned ∙ ap Some (sym lists))) in
    get_or-set_other before cell q channel 0 other ∙ are n q x z (omega (arith, lt, apart)) item_n item_q)
    (cases_eq q cell)

-- the cell of the window at a place, and its channel
pub record HasCell (t : ChannelTable) (buckets : SecondBuckets) (place : ℕ) : Type 0 where
  pub at : AtPlace t buckets place
  pub inside : second_bucket buckets place * wide t + second_gap buckets place < length t.entries
  pub first_few : buckets.first + place ≤ second_bucket buckets place

pub has_cell : (t : ChannelTable) (buckets : SecondBuckets) (place : ℕ) → length t.entries ≡ length (windows_of t)
    → AreNextBuckets t buckets → place < wide t
    → HasCell t buckets place
has_cell t buckets place full are lt =
    let own = next_place t buckets place full are lt in
    record { at = own; inside = omega (arith, own.gap_inside, own.next_within); first_few = grind (arith, nat_tests) }

-- a channel of a bucket
pub in_bucket_at : (t : ChannelTable) (channels : List ℕ) (bucket place : ℕ)
    → bucket * wide t + wide t ≤ length channels
    → place < wide t
    → (place < length (in_bucket t channels bucket))
    × (get_or (in_bucket t channels bucket) place 0 ≡ get_or channels (bucket * wide t + place) 0)
in_bucket_at t channels bucket place within lt =
    let rest = drop (bucket * wide t) channels in (
      omega (arith, length-take-le (wide t) rest (omega (arith, length-drop (bucket * wide t) channels)), lt),
      get_or-take (wide t) rest place 0 lt ∙ get_or-drop (bucket * wide t) channels place 0,
    )
