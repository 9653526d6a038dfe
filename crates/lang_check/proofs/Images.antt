-- Lists whose images are equal, index by index.
use Rattle.std.proofs.Common.{◌≡◌, ℕ, ◌<◌, List, map, length, get_or, sym, ◌∙◌, ap}
use Rattle.std.proofs.lemmas.List.{get_or_default}
use Rattle.std.proofs.Math.ListN.{get_or-map}

-- items at one index have one image
pub same_at :
    {X Y : Type 0} (f : X → Y) (a b : List X) (i : ℕ) (x y : X) → i < length b → x ≡ get_or a i x → y ≡ get_or b i y
    → map f a ≡ map f b → f x ≡ f y
same_at f a b i x y lt p q same =
    ap f p ∙ sym (get_or-map f a i x) ∙ ap (λ l. get_or l i (f x)) same ∙ get_or-map f b i x
    ∙ ap f (get_or_default b i x y lt ∙ sym q)
