-- What is in a list, by recursion on the list.
use Rattle.std.proofs.Common.{◌≡◌, ℕ, zero, suc, ◌<◌, ◌⊎◌, Bool, true, false, cond, List, [], ◌∷◌, ◌++◌, map, filter}
use Rattle.std.proofs.Common.{flat_map, All, get_or, Some, slice_get, refl, sym, ap, ◌∙◌, subst, inl, inr, ⊎_elim}
use Rattle.std.proofs.Common.{arith, zero-add}
use Rattle.std.specs.List.{range_with_len}
use Rattle.std.proofs.lemmas.List.FromFn.{length-range_with_len, get_or-range_with_len}
use Rattle.std.proofs.lemmas.Option.{none-some, same_Some, slice_get-get_or, slice_get_within, get_or_from_slice_get}

abbrev pub IsIn : {X : Type 0} → X → List X → Type 0
IsIn x [] = ⊥
IsIn x (y ∷ ys) = (y ≡ x) ⊎ IsIn x ys

pub in_of_get : {X : Type 0} (xs : List X) (n : ℕ) (x : X) → slice_get xs n ≡ Some x → IsIn x xs
in_of_get [] n x e = absurd (none-some x e)
in_of_get (y ∷ ys) zero x e = inl (same_Some y x e)
in_of_get (y ∷ ys) (suc n) x e = inr (in_of_get ys n x e)

pub get_of_in : {X : Type 0} (xs : List X) (x : X) → IsIn x xs → (n : ℕ) × (slice_get xs n ≡ Some x)
get_of_in [] x h = absurd h
get_of_in (y ∷ ys) x (inl e) = (0, ap Some e)
get_of_in (y ∷ ys) x (inr h) = let rest = get_of_in ys x h in (suc rest.0, rest.1)

pub all_of_in : {X : Type 0} (P : X → Type 0) (xs : List X) → ((x : X) → IsIn x xs → P x) → All P xs
all_of_in P xs each k d lt = each (get_or xs k d) (in_of_get xs k (get_or xs k d) (slice_get-get_or xs k d lt))

pub in_append_left : {X : Type 0} (xs ys : List X) (x : X) → IsIn x xs → IsIn x (xs ++ ys)
in_append_left [] ys x h = absurd h
in_append_left (y ∷ xs) ys x (inl e) = inl e
in_append_left (y ∷ xs) ys x (inr h) = inr (in_append_left xs ys x h)

pub in_append_right : {X : Type 0} (xs ys : List X) (x : X) → IsIn x ys → IsIn x (xs ++ ys)
in_append_right [] ys x h = h
in_append_right (y ∷ xs) ys x h = inr (in_append_right xs ys x h)

pub append_in : {X : Type 0} (xs ys : List X) (x : X) → IsIn x (xs ++ ys) → IsIn x xs ⊎ IsIn x ys
append_in [] ys x h = inr h
append_in (y ∷ xs) ys x (inl e) = inl (inl e)
append_in (y ∷ xs) ys x (inr h) =
    ⊎_elim (λ (a : IsIn x xs). inl (inr a)) (λ (b : IsIn x ys). inr b) (append_in xs ys x h)

pub in_map : {X Y : Type 0} (f : X → Y) (xs : List X) (x : X) → IsIn x xs → IsIn (f x) (map f xs)
in_map f [] x h = absurd h
in_map f (y ∷ ys) x (inl e) = inl (ap f e)
in_map f (y ∷ ys) x (inr h) = inr (in_map f ys x h)

pub map_in : {X Y : Type 0} (f : X → Y) (xs : List X) (y : Y) → IsIn y (map f xs) → (x : X) × IsIn x xs × (f x ≡ y)
map_in f [] y h = absurd h
map_in f (x ∷ xs) y (inl e) = (x, inl refl, e)
map_in f (x ∷ xs) y (inr h) = let rest = map_in f xs y h in (rest.0, inr rest.1, rest.2)

pub in_flat : {X Y : Type 0} (f : X → List Y) (xs : List X) (x : X) (y : Y) → IsIn x xs → IsIn y (f x)
    → IsIn y (flat_map f xs)
in_flat f [] x y h own = absurd h
in_flat f (z ∷ zs) x y (inl e) own = in_append_left (f z) (flat_map f zs) y (subst (λ w. IsIn y (f w)) (sym e) own)
in_flat f (z ∷ zs) x y (inr h) own = in_append_right (f z) (flat_map f zs) y (in_flat f zs x y h own)

pub flat_in : {X Y : Type 0} (f : X → List Y) (xs : List X) (y : Y) → IsIn y (flat_map f xs)
    → (x : X) × IsIn x xs × IsIn y (f x)
flat_in f [] y h = absurd h
flat_in {X} f (x ∷ xs) y h =
    ⊎_elim (λ (own : IsIn y (f x)). (x, inl refl, own))
    (λ (later : IsIn y (flat_map f xs)). let rest = flat_in f xs y later in (rest.0, inr rest.1, rest.2))
    (append_in (f x) (flat_map f xs) y h)

in_kept : {X : Type 0} (b : Bool) (x y : X) (ys : List X) → IsIn x ys → IsIn x (cond b (y ∷ ys) ys)
in_kept true x y ys h = inr h
in_kept false x y ys h = h

pub in_filter : {X : Type 0} (test : X → Bool) (xs : List X) (x : X) → test x ≡ true → IsIn x xs
    → IsIn x (filter test xs)
in_filter test [] x passes h = absurd h
in_filter test (y ∷ ys) x passes (inl e) =
    subst (λ b. IsIn x (cond b (y ∷ filter test ys) (filter test ys))) (sym (ap test e ∙ passes)) (inl e)
in_filter test (y ∷ ys) x passes (inr h) = in_kept (test y) x y (filter test ys) (in_filter test ys x passes h)

kept_in : {X : Type 0} (b : Bool) (x y : X) (ys : List X) → IsIn x (cond b (y ∷ ys) ys)
    → ((y ≡ x) × (b ≡ true)) ⊎ IsIn x ys
kept_in true x y ys (inl e) = inl (e, refl)
kept_in true x y ys (inr h) = inr h
kept_in false x y ys h = inr h

pub filter_in : {X : Type 0} (test : X → Bool) (xs : List X) (x : X) → IsIn x (filter test xs)
    → IsIn x xs × (test x ≡ true)
filter_in test [] x h = absurd h
filter_in test (y ∷ ys) x h =
    ⊎_elim (λ (own : (y ≡ x) × (test y ≡ true)). (inl own.0, ap test (sym own.0) ∙ own.1))
    (λ (later : IsIn x (filter test ys)). let rest = filter_in test ys x later in (inr rest.0, rest.1))
    (kept_in (test y) x y (filter test ys) h)

pub in_range : (n c : ℕ) → c < n → IsIn c (range_with_len 0 n)
in_range n c lt =
    in_of_get (range_with_len 0 n) c c
    (slice_get-get_or (range_with_len 0 n) c 0 (omega (arith, length-range_with_len 0 n))
    ∙ ap Some (get_or-range_with_len 0 n c 0 lt ∙ zero-add c))
