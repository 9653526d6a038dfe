-- The facts that a call asks for, in a row and as one tuple.
use Rattle.ring_exec.proofs.Steps.{List, [], ◌∷◌, id⊢}
use seplogic.Ra.Ura.{Ura}
use base.Logic.{SProp, ent, via, sep, emp, emp∗, mono_l, mono∗, comm∗, fst∗, snd∗}
use contract.Monad.{fact, fact_i, fact_use}

-- all facts of a list at once
abbrev pub tuple : List (Type 0) → Type 0
tuple [] = Unit {0}
tuple (φ ∷ φs) = φ × tuple φs

module _ {M : Type 1} (𝓤 : Ura M) where
  -- the facts of a list side by side, as a contract's `requires` has them
  abbrev pub facts : List (Type 0) → SProp 𝓤
  facts [] = emp 𝓤
  facts (φ ∷ []) = fact 𝓤 φ
  facts (φ ∷ ψ ∷ φs) = sep 𝓤 (fact 𝓤 φ) (facts (ψ ∷ φs))

  pub gather : (φs : List (Type 0)) → ent 𝓤 (facts φs) (fact 𝓤 (tuple φs))
  gather [] = fact_i 𝓤 _ _ tt
  gather (φ ∷ []) = fact_use 𝓤 φ (id⊢ 𝓤 _) (λ x. fact_i 𝓤 _ _ (x, tt))
  gather (φ ∷ ψ ∷ φs) =
      fact_use 𝓤 φ (fst∗ 𝓤 (fact 𝓤 φ) (facts (ψ ∷ φs)))
      (λ x.
      fact_use 𝓤 (tuple (ψ ∷ φs)) (via 𝓤 (facts (ψ ∷ φs)) (snd∗ 𝓤 (fact 𝓤 φ) (facts (ψ ∷ φs))) (gather (ψ ∷ φs)))
      (λ t. fact_i 𝓤 _ _ (x, t)))

  pub shown : (φs : List (Type 0)) → tuple φs → ent 𝓤 (emp 𝓤) (facts φs)
  shown [] t = id⊢ 𝓤 _
  shown (φ ∷ []) t = fact_i 𝓤 φ (emp 𝓤) t.0
  shown (φ ∷ ψ ∷ φs) t =
      via 𝓤 (sep 𝓤 (emp 𝓤) (emp 𝓤)) (emp∗ 𝓤 (emp 𝓤)) (mono∗ 𝓤 (fact_i 𝓤 φ (emp 𝓤) t.0) (shown (ψ ∷ φs) t.1))

  -- facts beside those that there are
  pub beside : (P Q : SProp 𝓤) → ent 𝓤 (emp 𝓤) Q → ent 𝓤 P (sep 𝓤 P Q)
  beside P Q x = via 𝓤 (sep 𝓤 (emp 𝓤) P) (emp∗ 𝓤 P) (via 𝓤 (sep 𝓤 Q P) (mono_l 𝓤 P x) (comm∗ 𝓤 Q P))
