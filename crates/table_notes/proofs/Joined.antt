-- Pieces of a note that were written one after another.
use Rattle.std.proofs.Common.{◌≡◌, ℕ, List, [], ◌∷◌, ◌++◌, ap, ◌∙◌, append_assoc, Result, Ok, Err, is_ok, OnOk, cond}

regroup : (a b c d : List ℕ) → (((a ++ b) ++ c) ++ 10 ∷ []) ++ d ≡ a ++ (b ++ (c ++ 10 ∷ d))
regroup a b c d = simp append_assoc

pub four_pieces : {n m l k j a : List ℕ} (b c d : List ℕ) → n ≡ a → m ≡ n ++ b → l ≡ m ++ c →
    k ≡ l ++ 10 ∷ [] → j ≡ k ++ d → j ≡ a ++ (b ++ (c ++ 10 ∷ d))
four_pieces {a = a} b c d p q r s t =
    t ∙ ap (λ x. x ++ d) (s ∙ ap (λ x. x ++ 10 ∷ []) (r ∙ ap (λ x. x ++ c) (q ∙ ap (λ x. x ++ b) p))) ∙ regroup a b c d

regroup_six : (a b c d e f : List ℕ) → ((((a ++ b) ++ c) ++ d) ++ e) ++ f ≡ a ++ (b ++ (c ++ (d ++ (e ++ f))))
regroup_six a b c d e f = simp append_assoc

pub five_pieces : {n m l k j : List ℕ} (o a b c d e : List ℕ) → n ≡ o ++ a → m ≡ n ++ b → l ≡ m ++ c →
    k ≡ l ++ d → j ≡ k ++ e → j ≡ o ++ (a ++ (b ++ (c ++ (d ++ e))))
five_pieces o a b c d e p q r s t =
    t ∙ ap (λ x. x ++ e) (s ∙ ap (λ x. x ++ d) (r ∙ ap (λ x. x ++ c) (q ∙ ap (λ x. x ++ b) p)))
    ∙ regroup_six o a b c d e

-- the last piece of a note
pub pushed : {T E : Type 0} (r : Result T E) (new old added : List ℕ) →
    new ≡ cond (is_ok r) (old ++ added) old → OnOk r (new ≡ old ++ added)
pushed (Ok x) new old added is = is
pushed (Err e) new old added is = tt

pub six_pieces : {n m l k j i a : List ℕ} (b c d e f : List ℕ) → n ≡ a → m ≡ n ++ b → l ≡ m ++ c → k ≡ l ++ d →
    j ≡ k ++ e → i ≡ j ++ f → i ≡ a ++ (b ++ (c ++ (d ++ (e ++ f))))
six_pieces {a = a} b c d e f p q r s t u =
    u ∙ ap (λ x. x ++ f) (t
    ∙ ap (λ x. x ++ e) (s ∙ ap (λ x. x ++ d) (r ∙ ap (λ x. x ++ c) (q ∙ ap (λ x. x ++ b) p))))
    ∙ regroup_six a b c d e f
