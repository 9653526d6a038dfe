-- Facts about lists of clauses.
use Rattle.std.proofs.Common.{◌≡◌, ℕ, zero, suc, ◌+◌, ◌*◌, ◌<◌, Bool, true, false, ◌||◌, List, [], ◌∷◌, ◌++◌, map, All}
use Rattle.std.proofs.Common.{length, refl, sym, ap, ◌∙◌, arith, add-one, zero-add, ltb, cond, length-append, Option}
use Rattle.std.proofs.Common.{None, Some, IsSome, unwrap_or}
use Rattle.std.specs.List.{list_any, range_with_len, flat_map, filter}
use Rattle.std.specs.Int.{abs_diff}
use Rattle.table_formula.specs.declared.literal.Literal.{Literal}
use Rattle.table_formula.specs.Problems.{Problem}
use Rattle.table_formula.specs.Formula.{windows_of, tuples_of, is_close, close_to, conflicts_of, some_channel, not_both}
use Rattle.table_formula.specs.Formula.{not_too_close, pattern_clauses, apart_formula, formula}
use Rattle.std.proofs.lemmas.List.{flat_map_more, length-map}
use Rattle.std.proofs.lemmas.List.FromFn.{length-map-range_with_len, filter_of_map_range_with_len_more}
use Rattle.std.proofs.lemmas.List.FromFn.{length-range_with_len, get_or-range_with_len}
use Rattle.std.proofs.lemmas.List.Elements.{All-nil, All-cons, All-head, All-tail, All-append}

-- a fact of each element of each list is one of each element of their concatenation
pub all_flat : {X Y : Type 0} (P : Y → Type 0) (f : X → List Y) (xs : List X) → All (λ x. All P (f x)) xs →
    All P (flat_map f xs)
all_flat P f [] h = All-nil P
all_flat P f (x ∷ xs) h = All-append P (f x) (flat_map f xs) (All-head (λ y. All P (f y)) x xs h)
    (all_flat P f xs (All-tail (λ y. All P (f y)) x xs h))

-- the clauses of the windows of a formula, as many as windows, and those of the tuples
abbrev pub of_windows : Problem → List (List Literal)
of_windows p = map (some_channel p) (range_with_len 0 (length (windows_of p)))

abbrev pub of_tuples : Problem → List (List Literal)
of_tuples p = flat_map (not_too_close p) (tuples_of p)

pub as_many_as_windows : (p : Problem) → length (of_windows p) ≡ length (windows_of p)
as_many_as_windows p = length-map-range_with_len (some_channel p) 0 (length (windows_of p))

one_kept : {X : Type 0} (P : X → Type 0) (b : Bool) (x : X) (xs : List X) → (b ≡ true → P x) → All P xs →
    All P (cond b (x ∷ xs) xs)
one_kept P true x xs h rest = All-cons P x xs (h refl) rest
one_kept P false x xs h rest = rest

-- what a filter keeps
pub all_kept : {X : Type 0} (P Q : X → Type 0) (test : X → Bool) (xs : List X) →
    ((x : X) → Q x → test x ≡ true → P x) → All Q xs → All P (filter test xs)
all_kept P Q test [] h all = All-nil P
all_kept P Q test (x ∷ xs) h all =
    one_kept P (test x) x (filter test xs) (h x (All-head Q x xs all)) (all_kept P Q test xs h (All-tail Q x xs all))

-- the numbers of a range
pub all_below : (n : ℕ) → All (λ x. x < n) (range_with_len 0 n)
all_below n k d within =
    let lt : k < n = omega (arith, within, length-range_with_len 0 n) in
    omega (arith, get_or-range_with_len 0 n k d lt)

pub some_value : (o : Option ℕ) → IsSome o → o ≡ Some (unwrap_or o 0)
some_value None h = cc
some_value (Some n) h = refl

pub any_map : {X Y : Type 0} (q : Y → Bool) (f : X → Y) (xs : List X) →
    list_any q (map f xs) ≡ list_any (λ x. q (f x)) xs
any_map q f [] = refl
any_map q f (x ∷ xs) = ap (λ b. q (f x) || b) (any_map q f xs)

pub any_here : (a b : Bool) → a ≡ true → (a || b) ≡ true
any_here true b h = refl
any_here false b h = cc

pub any_there : (a b : Bool) → b ≡ true → (a || b) ≡ true
any_there true b h = refl
any_there false b h = h

-- some number of a range passes
pub any_in_range : (q : ℕ → Bool) (start n k : ℕ) → k < n → q (start + k) ≡ true →
    list_any q (range_with_len start n) ≡ true
any_in_range q start zero k lt h = absurd (omega arith)
any_in_range q start (suc n) zero lt h =
    let e : start + zero ≡ start = omega arith in
    any_here (q start) (list_any q (range_with_len (start + 1) n)) (ap q (sym e) ∙ h)
any_in_range q start (suc n) (suc k) lt h =
    let e : start + 1 + k ≡ start + suc k = omega arith in
    any_there (q start) (list_any q (range_with_len (start + 1) n))
    (any_in_range q (start + 1) n k (omega arith) (ap q e ∙ h))

-- one more number of a range
range_suc : (start n : ℕ) → range_with_len start (suc n) ≡ range_with_len start n ++ (start + n) ∷ []
range_suc start zero = let e : start + zero ≡ start = omega arith in ap (λ (x : ℕ). x ∷ []) (sym e)
range_suc start (suc n) =
    let e : start + 1 + n ≡ start + suc n = omega arith in
    ap (λ (xs : List ℕ). start ∷ xs)
    (range_suc (start + 1) n ∙ ap (λ (x : ℕ). range_with_len (start + 1) n ++ x ∷ []) e)

-- the lists of one more number
pub flat_more : {X : Type 0} (f : ℕ → List X) (n : ℕ) →
    flat_map f (range_with_len 0 (n + 1)) ≡ flat_map f (range_with_len 0 n) ++ f n
flat_more f n =
    ap (λ k. flat_map f (range_with_len 0 k)) (add-one n)
    ∙ ap (flat_map f) (range_suc 0 n ∙ ap (λ (x : ℕ). range_with_len 0 n ++ x ∷ []) (zero-add n))
    ∙ sym (flat_map_more f [] (range_with_len 0 n) n)

-- one more second channel
pub close_more : (n step distance first : ℕ)
    → close_to (n + 1) step distance first
    ≡ close_to n step distance first ++ cond (ltb (abs_diff first n) distance)
    (record { step = step; first = first; second = n } ∷ []) []
close_more n step distance first =
    filter_of_map_range_with_len_more (is_close distance)
    (λ second. record { step = step; first = first; second = second }) 0 n n (zero-add n)

-- lists of one length
pub length_flat : {X Y : Type 0} (f : X → List Y) (n : ℕ) → ((x : X) → length (f x) ≡ n) → (xs : List X) →
    length (flat_map f xs) ≡ length xs * n
length_flat f n each [] = omega arith
length_flat f n each (x ∷ xs) = omega (arith, length-append (f x) (flat_map f xs), each x, length_flat f n each xs)

-- the number of clauses of a separation
pub apart_length : (p : Problem) →
    length (apart_formula p) ≡ length (windows_of p) + length (tuples_of p) * length (conflicts_of p)
unfolding apart_formula
apart_length p =
    omega (
      arith,
      length-append (map (some_channel p) (range_with_len 0 (length (windows_of p))))
          (flat_map (not_too_close p) (tuples_of p)),
      length-map-range_with_len (some_channel p) 0 (length (windows_of p)),
      length_flat (not_too_close p) (length (conflicts_of p))
          (λ tuple. length-map (conflicts_of p) (not_both p tuple)) (tuples_of p),
    )

-- the clauses of the separation, and those of the patterns
pub formula_parts : (p : Problem) → formula p ≡ apart_formula p ++ pattern_clauses p
unfolding formula
formula_parts p = refl

pub formula_length : (p : Problem) → length (formula p) ≡ length (apart_formula p) + length (pattern_clauses p)
formula_length p = ap length (formula_parts p) ∙ length-append (apart_formula p) (pattern_clauses p)
