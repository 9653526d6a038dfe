-- Workers that are numbered in their order.
use Rattle.std.proofs.Common.{◌≡◌, ℕ, ◌+◌, List, ◌∷◌, Some, suc, refl, subst, arith}
use Rattle.std.specs.Prelude.{slice_get}

-- the items of a list are numbered from n on
abbrev pub AreNumberedFrom : {W : Type 0} → ℕ → List W → (W → ℕ) → Type 0
AreNumberedFrom {W = W} n items number = (k : ℕ) (w : W) → slice_get items k ≡ Some w → number w ≡ n + k

-- the first of them has the number n, and the others are numbered from n + 1 on
pub numbered_rest :
    {W : Type 0} (number : W → ℕ) (n : ℕ) (x : W) (all xs : List W) → all ≡ x ∷ xs → AreNumberedFrom n all number
    → (number x ≡ n) × AreNumberedFrom (n + 1) xs number
numbered_rest number n x all xs is numbered =
    let from : AreNumberedFrom n (x ∷ xs) number = subst (λ l. AreNumberedFrom n l number) is numbered in
    let first = from 0 x refl in
    (omega arith, λ k w e. let more = from (suc k) w e in omega arith)
