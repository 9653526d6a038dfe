-- Inclusion and exclusion, and counts over consecutive numbers.
use Rattle.std.proofs.Common.{◌≡◌, ℕ, zero, suc, ◌+◌, ◌-◌, ◌<◌, ◌≤◌, ◌⊎◌, Bool, true, not, ◌&&◌, leb, cond, List, []}
use Rattle.std.proofs.Common.{◌∷◌, count_by, arith, refl}
use Rattle.std.specs.List.{range_with_len}
use Rattle.std.proofs.lemmas.Bool.{cases_Bool}
use Rattle.std.proofs.lemmas.Bool.Decides.{nat_tests}
use Rattle.std.proofs.lemmas.List.FromFn.{get_or-range_with_len, length-range_with_len}
use Rattle.std.proofs.lemmas.List.Sums.{get_or-le-sum_by, sum_by-cons, sum_by_push}
use Rattle.win_index.proofs.Windows.{range_with_len-append}

-- of those that pass: the ones with neither mark, with the first and with the second are as many as all and, once more,
-- those with both
one_included : (p a b : Bool)
    → cond (p && (not a && not b)) 1 0 + cond (p && a) 1 0 + cond (p && b) 1 0 ≡ cond p 1 0 + cond (p && (a && b)) 1 0
one_included p a b = grind (arith, cases_Bool p, cases_Bool a, cases_Bool b)

count_cons : {X : Type 0} (p : X → Bool) (k : X) (list : List X)
    → count_by p (k ∷ list) ≡ cond (p k) 1 0 + count_by p list
count_cons p k list = sum_by-cons (λ x. cond (p x) 1 0) k list

-- two tests, of which each number passes at most one, and a third test that is passed by the numbers that pass one of
-- these
pub count_sum :
    (p q r : ℕ → Bool) (list : List ℕ) → ((k : ℕ) → cond (p k) 1 0 + cond (q k) 1 0 ≡ cond (r k) 1 0)
    → count_by p list + count_by q list ≡ count_by r list
count_sum p q r [] one = refl
count_sum p q r (k ∷ list) one = omega (arith, one k, count_sum p q r list one, count_cons {X = ℕ})

-- the same for a list
pub included :
    {X : Type 0} (p a b : X → Bool) (list : List X)
    → count_by (λ k. p k && (not (a k) && not (b k))) list + count_by (λ k. p k && a k) list + count_by (λ k. p k && b k) list
    ≡ count_by p list + count_by (λ k. p k && (a k && b k)) list
included p a b [] = refl
included {X} p a b (k ∷ list) = omega (arith, one_included (p k) (a k) (b k), included p a b list, count_cons {X = X})

-- one more number
pub count_more : (p : ℕ → Bool) (first n : ℕ)
    → count_by p (range_with_len first (n + 1)) ≡ count_by p (range_with_len first n) + cond (p (first + n)) 1 0
count_more p first n = rw (range_with_len-append first n 1 (first + n) refl)
    (sum_by_push (λ k. cond (p k) 1 0) (range_with_len first n) (first + n))

-- a number that passes is counted
count_some : (p : ℕ → Bool) (first n k : ℕ) → first ≤ k → k < first + n → p k ≡ true
    → 1 ≤ count_by p (range_with_len first n)
count_some p first n k from to is =
    let here : first + (k - first) ≡ k = omega arith in
    let counted = get_or-le-sum_by (λ x. cond (p x) 1 0) (range_with_len first n) (k - first) 0
    (omega (arith, length-range_with_len first n)) in
    rw (get_or-range_with_len first n (k - first) 0 (omega arith), here, is) at counted

-- one number more of those of which only i and j can pass
one_of_two : (passes : Bool) (first i j most_i most_j rest : ℕ) → (passes ≡ true → (first ≡ i) ⊎ (first ≡ j))
    → (passes ≡ true → first ≡ i → 1 ≤ most_i) → (passes ≡ true → first ≡ j → 1 ≤ most_j)
    → rest ≤ cond (leb (first + 1) i) most_i 0 + cond (leb (first + 1) j) most_j 0
    → cond passes 1 0 + rest ≤ cond (leb first i) most_i 0 + cond (leb first j) most_j 0
one_of_two passes first i j most_i most_j rest only of_i of_j few = grind (arith, nat_tests, cases_Bool passes)

count_two :
    (p : ℕ → Bool) (i j most_i most_j first n : ℕ)
    → ((k : ℕ) → first ≤ k → k < first + n → p k ≡ true → (k ≡ i) ⊎ (k ≡ j))
    → (p i ≡ true → 1 ≤ most_i) → (p j ≡ true → 1 ≤ most_j)
    → count_by p (range_with_len first n) ≤ cond (leb first i) most_i 0 + cond (leb first j) most_j 0
count_two p i j most_i most_j first zero only of_i of_j = omega arith
count_two p i j most_i most_j first (suc n) only of_i of_j =
    let rest = count_two p i j most_i most_j (first + 1) n
    (λ k from to. only k (omega arith) (omega arith)) of_i of_j in
    rw (count_cons p first (range_with_len (first + 1) n))
    (one_of_two (p first) first i j most_i most_j _ (only first (omega arith) (omega arith)) (λ is same. of_i (rw (← same) is)) (λ is same. of_j (rw (← same) is)) rest)

at_most : (first i most : ℕ) → cond (leb first i) most 0 ≤ most
at_most first i most = grind (arith, nat_tests)

-- none without a mark passes, if those with one mark are as many as all and those with both
pub none_without :
    (p a b : ℕ → Bool) (first n i j most_i most_j k : ℕ)
    → ((k : ℕ) → first ≤ k → k < first + n → p k && (a k && b k) ≡ true → (k ≡ i) ⊎ (k ≡ j))
    → (p i && (a i && b i) ≡ true → 1 ≤ most_i) → (p j && (a j && b j) ≡ true → 1 ≤ most_j)
    → count_by p (range_with_len first n) + (most_i + most_j)
    ≤ count_by (λ k. p k && a k) (range_with_len first n) + count_by (λ k. p k && b k) (range_with_len first n)
    → first ≤ k → k < first + n → p k && (not (a k) && not (b k)) ≡ true → ⊥
none_without p a b first n i j most_i most_j k only of_i of_j few from to is =
    let all = included p a b (range_with_len first n) in
    let both = count_two (λ k. p k && (a k && b k)) i j most_i most_j first n only of_i of_j in
    let some = count_some (λ k. p k && (not (a k) && not (b k))) first n k from to is in
    omega (arith, at_most first i most_i, at_most first j most_j)
