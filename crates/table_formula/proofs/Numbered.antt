-- The clauses of a formula by their numbers.
use Rattle.std.proofs.Common.{◌≡◌, ℕ, zero, suc, ◌+◌, ◌*◌, ◌/◌, ◌%◌, ◌<◌, ◌≤◌, List, [], ◌∷◌, ◌++◌, map, All, length}
use Rattle.std.proofs.Common.{get_or, slice_get, slice_set, take, Some, refl, sym, ap, ◌∙◌, arith, add-one}
use Rattle.std.proofs.Common.{zero-add, length-append}
use Rattle.std.specs.List.{range_with_len, flat_map}
use Rattle.std.proofs.lemmas.List.{length-map, get_or_append_left, get_or-append-add}
use Rattle.std.proofs.lemmas.List.FromFn.{get_or-map-range_with_len, map-range_with_len_more}
use Rattle.std.proofs.lemmas.List.Elements.{All-append, All-map, All-weaker, All-nil, All-cons}
use Rattle.std.proofs.lemmas.Nat.{mul-le, div-add-mod'}
use Rattle.std.proofs.lemmas.Option.{slice_get-get_or}
use Rattle.std.proofs.Math.Seq.{take-suc-set}
use Rattle.table_formula.specs.declared.literal.Literal.{Literal}
use Rattle.table_formula.specs.declared.formula.conflict.Conflict.{Conflict}
use Rattle.table_formula.specs.Problems.{Problem}
use Rattle.table_formula.specs.Formula.{windows_of, tuples_of, variable_of, has_channel, lacks_channel, some_channel}
use Rattle.table_formula.specs.Formula.{close_pairs, conflicts_of, window_in, not_both, not_too_close}
use Rattle.table_formula.specs.Formula.{IsPair, apart_formula}
use Rattle.table_formula.proofs.ClauseLists.{all_below, apart_length, of_windows, of_tuples, as_many_as_windows}
use Rattle.table_formula.proofs.Satisfied.{IsClose, all_close}

-- the variables are below their number
pub variable_below : (p : Problem) (w c : ℕ) → w < length (windows_of p) → c < p.channels →
    variable_of p w c < length (windows_of p) * p.channels
variable_below p w c lt below =
    omega (arith, mul-le (w + 1) p.channels (length (windows_of p)) p.channels (omega arith) (omega arith))

-- one more channel of a window's clause
pub some_more : (p : Problem) (w n : ℕ) →
    map (has_channel p w) (range_with_len 0 (n + 1)) ≡ map (has_channel p w) (range_with_len 0 n)
    ++ has_channel p w n ∷ []
some_more p w n = map-range_with_len_more (has_channel p w) 0 n n (zero-add n)

-- the clause of a window
pub window_clause : (p : Problem) (w : ℕ) → w < length (windows_of p) →
    slice_get (apart_formula p) w ≡ Some (some_channel p w)
unfolding apart_formula
window_clause p w lt =
    let front = of_windows p in
    let back = of_tuples p in
    let size = as_many_as_windows p in
    slice_get-get_or (front ++ back) w [] (omega (arith, length-append front back))
    ∙ ap Some (get_or_append_left front back [] w (omega arith)
    ∙ get_or-map-range_with_len (some_channel p) 0 (length (windows_of p)) w w [] lt (zero-add w))

pub some_within : (p : Problem) (w : ℕ) → w < length (windows_of p) →
    All (λ (l : Literal). l.variable < length (windows_of p) * p.channels) (some_channel p w)
some_within p w lt =
    All-map (λ (l : Literal). l.variable < length (windows_of p) * p.channels) (has_channel p w)
    (range_with_len 0 p.channels)
    (All-weaker (λ c. c < p.channels) (λ c. variable_of p w c < length (windows_of p) * p.channels)
    (λ c below. variable_below p w c lt below)
    (range_with_len 0 p.channels) (all_below p.channels))

-- an item of lists of one length
pub flat_at : {X Y : Type 0} (f : X → List Y) (n : ℕ) → ((x : X) → length (f x) ≡ n) →
    (xs : List X) (i j : ℕ) (e : X) (d : Y) → i < length xs → j < n
    → get_or (flat_map f xs) (i * n + j) d ≡ get_or (f (get_or xs i e)) j d
flat_at f n each [] i j e d lt below = absurd (omega arith)
flat_at f n each (x ∷ xs) zero j e d lt below =
    let at' : zero * n + j ≡ j = omega arith in
    ap (λ k. get_or (f x ++ flat_map f xs) k d) at'
    ∙ get_or_append_left (f x) (flat_map f xs) d j (omega (arith, each x))
flat_at f n each (x ∷ xs) (suc i) j e d lt below =
    let at' : suc i * n + j ≡ length (f x) + (i * n + j) = omega (arith, each x) in
    ap (λ k. get_or (f x ++ flat_map f xs) k d) at' ∙ get_or-append-add (f x) (flat_map f xs) (i * n + j) d
    ∙ flat_at f n each xs i j e d (omega arith) below

get_or_map : {X Y : Type 0} (f : X → Y) (xs : List X) (i : ℕ) (e : X) (d : Y) → i < length xs →
    get_or (map f xs) i d ≡ f (get_or xs i e)
get_or_map f [] i e d lt = absurd (omega arith)
get_or_map f (x ∷ xs) zero e d lt = refl
get_or_map f (x ∷ xs) (suc i) e d lt = get_or_map f xs i e d (omega arith)

-- the clause of a tuple and a pair of channels
pub pair_clause : (p : Problem) (i j index : ℕ) (tuple : List ℕ) (k : Conflict) → i < length (tuples_of p) →
    j < length (conflicts_of p)
    → index ≡ length (windows_of p) + (i * length (conflicts_of p) + j) → get_or (tuples_of p) i [] ≡ tuple →
    get_or (conflicts_of p) j k ≡ k
    → index < length (apart_formula p) → slice_get (apart_formula p) index ≡ Some (not_both p tuple k)
unfolding apart_formula
pair_clause p i j index tuple k i_below j_below is tuple_is k_is within =
    let front = of_windows p in
    let back = of_tuples p in
    let size = as_many_as_windows p in
    let at' : index ≡ length front + (i * length (conflicts_of p) + j) = omega arith in
    slice_get-get_or (front ++ back) index [] within
    ∙ ap Some (ap (λ n. get_or (front ++ back) n []) at'
    ∙ get_or-append-add front back (i * length (conflicts_of p) + j) []
    ∙ flat_at (not_too_close p) (length (conflicts_of p)) (λ t. length-map (conflicts_of p) (not_both p t))
    (tuples_of p) i j [] [] i_below j_below
    ∙ ap (λ t. get_or (not_too_close p t) j []) tuple_is
    ∙ get_or_map (not_both p tuple) (conflicts_of p) j k [] j_below
    ∙ ap (not_both p tuple) k_is)

pub pair_within : (p : Problem) (tuple : List ℕ) (k : Conflict) → window_in p tuple 0 < length (windows_of p) →
    window_in p tuple k.step < length (windows_of p)
    → k.first < p.channels → k.second < p.channels
    → All (λ (l : Literal). l.variable < length (windows_of p) * p.channels) (not_both p tuple k)
pair_within p tuple k here there first second =
    let P : Literal → Type 0 = λ (l : Literal). l.variable < length (windows_of p) * p.channels in
    let a = lacks_channel p (window_in p tuple 0) k.first in
    let b = lacks_channel p (window_in p tuple k.step) k.second in
    All-cons P a (b ∷ []) (variable_below p (window_in p tuple 0) k.first here first)
    (All-cons P b [] (variable_below p (window_in p tuple k.step) k.second there second) (All-nil P))

pub all_pairs : (p : Problem) → All (IsPair p) (conflicts_of p)
all_pairs p =
    All-append (IsPair p) (close_pairs p.channels 1 p.separation.near) (close_pairs p.channels 2 p.separation.far)
    (All-weaker (IsClose p.channels 1 p.separation.near) (IsPair p)
    (λ k is. let step = is.step_is in record { step = omega arith; first = is.first_below; second = is.second_below })
    (close_pairs p.channels 1 p.separation.near) (all_close p.channels 1 p.separation.near))
    (All-weaker (IsClose p.channels 2 p.separation.far) (IsPair p)
    (λ k is. let step = is.step_is in let close = is.close in
    record { step = omega arith; first = is.first_below; second = is.second_below })
    (close_pairs p.channels 2 p.separation.far) (all_close p.channels 2 p.separation.far))

-- one more cell
pub take_set_more : (cells : List Literal) (i : ℕ) (a : Literal) → i < length cells →
    take (i + 1) (slice_set cells i a) ≡ take i cells ++ a ∷ []
take_set_more cells i a within = ap (λ n. take n (slice_set cells i a)) (add-one i) ∙ take-suc-set cells i a within

-- the first two cells
pub two_cells : (cells : List Literal) (a b : Literal) → 2 ≤ length cells →
    take 2 (slice_set (slice_set cells 0 a) 1 b) ≡ a ∷ b ∷ []
two_cells [] a b room = absurd (omega arith)
two_cells (x ∷ []) a b room = absurd (omega arith)
two_cells (x ∷ (y ∷ cells)) a b room = refl

-- a formula with more clauses than windows has tuples
pub some_tuples : (p : Problem) (index : ℕ) → length (windows_of p) + index < length (apart_formula p) →
    0 < length (tuples_of p)
some_tuples p index below =
    let no : ¬ (length (tuples_of p) ≡ 0) =
    λ e. omega (arith, apart_length p, ap (λ t. t * length (conflicts_of p)) e, below) in
    omega arith

-- the index of a clause of a tuple and a pair, cut into the number of the tuple and the index of the pair
pub record Splits (p : Problem) (index count : ℕ) : Type 0 where
  pub some : 0 < count
  pub tuple : index / count < length (tuples_of p)
  pub pair : index % count < length (conflicts_of p)
  pub at' : index ≡ index / count * length (conflicts_of p) + index % count

pub none_left : (t count : ℕ) → count ≡ 0 → t * count ≡ 0
none_left t count e = ap (λ n. t * n) e ∙ (omega arith)

pub splits : (p : Problem) (index count : ℕ) → length (windows_of p) + index < length (apart_formula p) →
    count ≡ length (conflicts_of p) → Splits p index count
splits p index count below is =
    let t : ℕ = length (tuples_of p) in
    let total : index < t * count = omega (arith, apart_length p, ap (λ n. t * n) is) in
    let nonzero : 0 < count = let no : ¬ (count ≡ 0) = λ e. omega (arith, none_left t count e, total) in omega arith in
    let whole : index / count * count + index % count ≡ index = div-add-mod' index count in
    let no : ¬ (t ≤ index / count) = λ h. let more : t * count ≤ index / count * count =
    mul-le t count (index / count) count h (omega arith) in omega
    (arith, more, whole, total) in
    record {
      some = nonzero;
      tuple = omega arith;
      pair = omega arith;
      at' = sym whole ∙ ap (λ n. index / count * n + index % count) is;
    }
