-- Lists that a loop makes, one element after another.
use Rattle.std.proofs.Common.{◌≡◌, ℕ, ◌+◌, List, [], ◌∷◌, ◌++◌, map, append_assoc, sym, ap, ◌∙◌, arith}
use Rattle.std.specs.List.{range_with_len}
use Rattle.std.proofs.lemmas.List.{map-append}
use Rattle.std.proofs.lemmas.List.FromFn.{map-range_with_len_more}

-- one more element
pub pushed_is : {A B : Type 0} (f : A → B) (before pushed : List A) (x : A) (y : B)
    → pushed ≡ before ++ x ∷ [] → f x ≡ y
    → map f pushed ≡ map f before ++ y ∷ []
pushed_is f before pushed x y push is =
    ap (map f) push ∙ map-append f before (x ∷ []) ∙ ap (λ z. map f before ++ z ∷ []) is

-- the same with what is left
pub pushed_left : {A B : Type 0} (f : A → B) (before pushed : List A) (x : A) (y : B) (left : List B)
    → pushed ≡ before ++ x ∷ [] → f x ≡ y
    → map f pushed ++ left ≡ map f before ++ y ∷ left
pushed_left f before pushed x y left push is =
    ap (λ l. l ++ left) (pushed_is f before pushed x y push is) ∙ append_assoc (map f before) (y ∷ []) left

-- one more element for each number below a bound
pub one_more : {A B : Type 0} (f : A → B) (g : ℕ → B) (before pushed : List A) (x : A) (n : ℕ)
    → pushed ≡ before ++ x ∷ []
    → map f before ≡ map g (range_with_len 0 n) → f x ≡ g n → map f pushed ≡ map g (range_with_len 0 (n + 1))
one_more f g before pushed x n push same is =
    pushed_is f before pushed x (g n) push is ∙ ap (λ l. l ++ g n ∷ []) same
    ∙ sym (map-range_with_len_more g 0 n n (omega arith))
