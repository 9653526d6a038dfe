-- The numbers below a bound that pass a test, in rising order.
use Rattle.std.proofs.Common.{◌≡◌, ℕ, zero, suc, ◌+◌, ◌-◌, ◌<◌, ◌≤◌, Bool, true, false, cond, List, [], ◌∷◌, ◌++◌}
use Rattle.std.proofs.Common.{length, filter, find, slice_get, Some, refl, sym, ap, ◌∙◌, arith, length-append, ⊎_elim}
use Rattle.std.specs.List.{range_with_len}
use Rattle.std.proofs.lemmas.Bool.{cases_lt}
use Rattle.std.proofs.lemmas.List.Elements.{filter-append}
use Rattle.std.proofs.lemmas.Option.{none-some, same_Some, slice_get_within}

-- the numbers below m that pass p
abbrev pub kept : (ℕ → Bool) → ℕ → List ℕ
kept p m = filter p (range_with_len 0 m)

pub range_with_len-append :
    (a n l b : ℕ) → a + n ≡ b → range_with_len a (n + l) ≡ range_with_len a n ++ range_with_len b l
range_with_len-append a zero l b e =
    let same : a ≡ b = omega arith in
    let all : zero + l ≡ l = omega arith in
    rw (all, same)
range_with_len-append a (suc n) l b e =
    let more : suc n + l ≡ suc (n + l) = omega arith in
    rw more (ap (λ t. a ∷ t) (range_with_len-append (a + 1) n l b (omega arith)))

pub slice_get-append_left : {X : Type 0} (xs ys : List X) (n : ℕ) → n < length xs →
    slice_get (xs ++ ys) n ≡ slice_get xs n
slice_get-append_left [] ys n h = absurd (omega arith)
slice_get-append_left (x ∷ xs) ys zero h = refl
slice_get-append_left (x ∷ xs) ys (suc n) h = slice_get-append_left xs ys n (omega arith)

pub slice_get-append_right :
    {X : Type 0} (xs ys : List X) (n i : ℕ) → n ≡ length xs + i → slice_get (xs ++ ys) n ≡ slice_get ys i
slice_get-append_right [] ys n i e =
    let same : n ≡ i = omega arith in
    rw same
slice_get-append_right (x ∷ xs) ys n i e =
    let more : n ≡ suc (length xs + i) = omega arith in
    rw more (slice_get-append_right xs ys (length xs + i) i refl)

-- what holds of each item of a list and of one more at its end
pub each_snoc :
    {W : Type 0} (P : ℕ → W → Type 0) (xs : List W) (w : W) → ((k : ℕ) (x : W) → slice_get xs k ≡ Some x → P k x)
    → P (length xs) w
    → (k : ℕ) (x : W) → slice_get (xs ++ w ∷ []) k ≡ Some x → P k x
each_snoc P xs w before next k x is =
    ⊎_elim (λ (inside : k < length xs). before k x (sym (slice_get-append_left xs (w ∷ []) k inside) ∙ is))
    (λ (past : length xs ≤ k).
    let within = slice_get_within (xs ++ w ∷ []) k x is in
    let last : k ≡ length xs = omega (arith, past, within, length-append xs (w ∷ [])) in
    let same : w ≡ x = same_Some w x (sym (slice_get-append_right xs (w ∷ []) k 0 (omega (arith, last))) ∙ is) in
    rw (last, ← same) next)
    (cases_lt k (length xs))

-- the first element that a filter keeps
pub filter_first : {X : Type 0} (p : X → Bool) (xs : List X) → slice_get (filter p xs) 0 ≡ find p xs
filter_first p [] = refl
filter_first p (x ∷ xs) =
    elim (p x) as (λ b. slice_get (cond b (x ∷ filter p xs) (filter p xs)) 0 ≡ cond b (Some x) (find p xs)) [
      | true ↦ refl
      | false ↦ filter_first p xs
    ]

pub kept_split : (p : ℕ → Bool) (low m : ℕ) → low ≤ m → kept p m ≡ kept p low ++ filter p (range_with_len low (m - low))
kept_split p low m le =
    let whole : low + (m - low) ≡ m = omega arith in
    let split = range_with_len-append 0 low (m - low) low (omega arith) in
    ap (filter p) (rw whole at split) ∙ filter-append p (range_with_len 0 low) (range_with_len low (m - low))

pub kept_suc : (p : ℕ → Bool) (m : ℕ) → kept p (suc m) ≡ kept p m ++ cond (p m) (m ∷ []) []
kept_suc p m =
    let one : suc m - m ≡ 1 = omega arith in
    rw one at (kept_split p m (suc m) (omega arith))

-- after those below low comes the first one from low on
pub kept_at :
    (p : ℕ → Bool) (low m : ℕ) → low ≤ m → slice_get (kept p m) (length (kept p low))
    ≡ find p (range_with_len low (m - low))
kept_at p low m le =
    let rest : List ℕ = filter p (range_with_len low (m - low)) in
    ap (λ l. slice_get l (length (kept p low))) (kept_split p low m le)
    ∙ slice_get-append_right (kept p low) rest (length (kept p low)) 0 (omega arith)
    ∙ filter_first p (range_with_len low (m - low))

-- a number that passes comes after those below it
pub kept_own : (p : ℕ → Bool) (x m : ℕ) → x < m → p x ≡ true → slice_get (kept p m) (length (kept p x)) ≡ Some x
kept_own p x m lt passes =
    let more : m - x ≡ suc (m - x - 1) = omega arith in
    let first = rw more at (kept_at p x m (omega arith)) in
    first ∙ ap (λ b. cond b (Some x) (find p (range_with_len (x + 1) (m - x - 1)))) passes

pub kept_rises : (p : ℕ → Bool) (low m : ℕ) → low ≤ m → length (kept p low) ≤ length (kept p m)
kept_rises p low m le =
    let rest : List ℕ = filter p (range_with_len low (m - low)) in
    omega (arith, ap length (kept_split p low m le), length-append (kept p low) rest)

single : (b : Bool) (m i x : ℕ) → slice_get (cond b (m ∷ []) []) i ≡ Some x → (b ≡ true) × (i ≡ 0) × (m ≡ x)
single true m zero x e = (refl, refl, same_Some m x e)
single b m i x e = absurd (none-some x e)

-- the number at a position: it is below the bound and passes, with as many before it as its position
pub record IsKept (p : ℕ → Bool) (m place x : ℕ) : Type 0 where
  pub below : x < m
  pub passes : p x ≡ true
  pub before : length (kept p x) ≡ place

pub kept_is : (p : ℕ → Bool) (m place x : ℕ) → slice_get (kept p m) place ≡ Some x → IsKept p m place x
kept_is p zero place x e = absurd (none-some x e)
kept_is p (suc m) place x e =
    let split = rw (kept_suc p m) at e in
    ⊎_elim
    (λ lt.
    let below =
    kept_is p m place x (sym (slice_get-append_left (kept p m) (cond (p m) (m ∷ []) []) place lt) ∙ split) in
    record { below = omega (arith, below.below); passes = below.passes; before = below.before })
    (λ le.
    let i : ℕ = place - length (kept p m) in
    let own =
    single (p m) m i x (sym (slice_get-append_right (kept p m) (cond (p m) (m ∷ []) []) place i (omega arith))
    ∙ split) in
    let same : m ≡ x = own.2 in
    let before : length (kept p m) ≡ place = omega (arith, own.1) in
    record { below = omega arith; passes = rw same at own.0; before = rw same at before })
    (cases_lt place (length (kept p m)))

-- a later position has a larger number
pub kept_increases :
    (p : ℕ → Bool) (m i j x y : ℕ) → i < j → slice_get (kept p m) i ≡ Some x → slice_get (kept p m) j ≡ Some y → x < y
kept_increases p m i j x y lt at_i at_j =
    let first = kept_is p m i x at_i in
    let second = kept_is p m j y at_j in
    grind (arith, kept_rises p y x)
