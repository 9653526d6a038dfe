-- Each event leads to at most one machine.
use Rattle.std.proofs.Common.{◌≡◌, ℕ, ◌⊎◌, [], ◌∷◌, sym, subst, ap, ◌∙◌, inl, inr, arith}
use Rattle.std.proofs.lemmas.Option.{same_Some}
use Rattle.fill_core.specs.declared.state.FillEvent.{FillEvent}
use Rattle.fill_core.specs.declared.state.FillEvent.TheVariants.{Draw, Look, Install}
use Rattle.fill_core.specs.FillMachine.{Machine, CanLook, looked, CanInstall, installed, Steps, Runs}
use Rattle.fill_core.specs.Laws.{OneRun}

-- an event that is enabled for at most one job
one_change :
    (s t u : Machine) (Can : ℕ → Type 0) (after : ℕ → Machine) → ((i j : ℕ) → Can i → Can j → i ≡ j)
    → ((job : ℕ) × Can job × (t ≡ after job)) ⊎ (((job : ℕ) → ¬ Can job) × (t ≡ s))
    → ((job : ℕ) × Can job × (u ≡ after job)) ⊎ (((job : ℕ) → ¬ Can job) × (u ≡ s)) → t ≡ u
one_change s t u Can after one (inl a) (inl b) = a.2 ∙ ap after (one a.0 b.0 a.1 b.1) ∙ sym b.2
one_change s t u Can after one (inl a) (inr b) = absurd (b.0 a.0 a.1)
one_change s t u Can after one (inr a) (inl b) = absurd (a.0 b.0 b.1)
one_change s t u Can after one (inr a) (inr b) = a.1 ∙ sym b.1

one_step : (e : FillEvent) (s t u : Machine) → Steps s e t → Steps s e u → t ≡ u
one_step (Draw w) s t u (inl a) (inl b) = a.2 ∙ sym b.2
one_step (Draw w) s t u (inl a) (inr (inl b)) = absurd (omega (arith, a.1, b.1))
one_step (Draw w) s t u (inl a) (inr (inr b)) = absurd (b.0 a.0)
one_step (Draw w) s t u (inr (inl a)) (inl b) = absurd (omega (arith, a.1, b.1))
one_step (Draw w) s t u (inr (inl a)) (inr (inl b)) = a.2 ∙ sym b.2
one_step (Draw w) s t u (inr (inl a)) (inr (inr b)) = absurd (b.0 a.0)
one_step (Draw w) s t u (inr (inr a)) (inl b) = absurd (a.0 b.0)
one_step (Draw w) s t u (inr (inr a)) (inr (inl b)) = absurd (a.0 b.0)
one_step (Draw w) s t u (inr (inr a)) (inr (inr b)) = a.1 ∙ sym b.1
one_step (Look w level number) s t u a b =
    one_change s t u (CanLook s w level number) (looked s w) (λ i j x y. same_Some i j (sym x.is_job ∙ y.is_job)) a b
one_step (Install w level number) s t u a b =
    one_change s t u (CanInstall s w level number) (installed s w level number)
    (λ i j x y. same_Some i j (sym x.is_job ∙ y.is_job)) a b

pub one_run : OneRun
one_run s t u [] a b = a ∙ sym b
one_run s t u (e ∷ es) a b =
    one_run a.0 t u es a.2 (subst (λ (m : Machine). Runs m es u) (one_step e s b.0 a.0 b.1 a.1) b.2)
