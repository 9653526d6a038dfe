-- Each event leads to at most one machine.
use Rattle.std.proofs.Common.{◌≡◌, ◌⊎◌, [], ◌∷◌, sym, subst, ◌∙◌, inl, inr}
use Rattle.ring_core.specs.declared.event.RingEvent.{RingEvent}
use Rattle.ring_core.specs.declared.event.RingEvent.TheVariants.{SendRight, SendLeft, Advance}
use Rattle.ring_core.specs.Machine.{Machine, CanSendRight, sent_right, CanSendLeft, sent_left, CanAdvance, advanced}
use Rattle.ring_core.specs.Machine.{Steps, Runs}
use Rattle.ring_core.specs.Laws.{OneRun}

-- an event that changes the machine if it is enabled, and else does not
one_change :
    (m t u after : Machine) (Can : Type 0) → (Can × (t ≡ after)) ⊎ ((¬ Can) × (t ≡ m))
    → (Can × (u ≡ after)) ⊎ ((¬ Can) × (u ≡ m)) → t ≡ u
one_change m t u after Can (inl a) (inl b) = a.1 ∙ sym b.1
one_change m t u after Can (inl a) (inr b) = absurd (b.0 a.0)
one_change m t u after Can (inr a) (inl b) = absurd (a.0 b.0)
one_change m t u after Can (inr a) (inr b) = a.1 ∙ sym b.1

one_step : (e : RingEvent) (m t u : Machine) → Steps m e t → Steps m e u → t ≡ u
one_step (SendRight s) m t u a b = one_change m t u (sent_right m s) (CanSendRight m s) a b
one_step (SendLeft s) m t u a b = one_change m t u (sent_left m s) (CanSendLeft m s) a b
one_step (Advance s) m t u a b = one_change m t u (advanced m s) (CanAdvance m s) a b

pub one_run : OneRun
one_run m t u [] a b = a ∙ sym b
one_run m t u (e ∷ es) a b =
    one_run a.0 t u es a.2 (subst (λ (n : Machine). Runs n es u) (one_step e m b.0 a.0 b.1 a.1) b.2)
