-- Runs of the segment machine.
use Rattle.std.proofs.Common.{◌≡◌, ◌⊎◌, List, [], ◌∷◌, ◌++◌, length, refl, sym, subst, ◌∙◌, inl, inr}
use Rattle.std.proofs.lemmas.List.{length-set}
use Rattle.ring_core.specs.declared.event.RingEvent.{RingEvent}
use Rattle.ring_core.specs.declared.event.RingEvent.TheVariants.{SendRight, SendLeft, Advance}
use Rattle.ring_core.specs.Machine.{Machine, Steps, Runs}

-- a run, and one more event
pub run_more :
    (m u t : Machine) (events : List RingEvent) (e : RingEvent) → Runs m events u → Steps u e t →
    Runs m (events ++ e ∷ []) t
run_more m u t [] e run step = (t, subst (λ (n : Machine). Steps n e t) run step, refl)
run_more m u t (f ∷ events) e run step = (run.0, run.1, run_more run.0 u t events e run.2 step)

-- t is of the plan and of the ring of m, and has as many segments
pub record IsSameRing (m t : Machine) : Type 0 where
  pub plan : t.plan ≡ m.plan
  pub ring : t.ring ≡ m.ring
  pub segments : length t.segments ≡ length m.segments

-- a change that keeps these is a change of the same ring, and so is no change
changed :
    (m t after : Machine) (Can : Type 0) → IsSameRing m after →
    (Can × (t ≡ after)) ⊎ ((¬ Can) × (t ≡ m)) → IsSameRing m t
changed m t after Can same (inl a) = subst (IsSameRing m) (sym a.1) same
changed m t after Can same (inr a) =
    subst (IsSameRing m) (sym a.1) (record { plan = refl; ring = refl; segments = refl })

step_same : (e : RingEvent) (m t : Machine) → Steps m e t → IsSameRing m t
step_same (SendRight s) m t step = changed m t _ _ (record { plan = refl; ring = refl; segments = refl }) step
step_same (SendLeft s) m t step = changed m t _ _ (record { plan = refl; ring = refl; segments = refl }) step
step_same (Advance s) m t step =
    changed m t _ _ (record { plan = refl; ring = refl; segments = length-set m.segments s _ }) step

pub run_same : (events : List RingEvent) (m t : Machine) → Runs m events t → IsSameRing m t
run_same [] m t run = subst (IsSameRing m) (sym run) (record { plan = refl; ring = refl; segments = refl })
run_same (e ∷ events) m t run =
    let first = step_same e m run.0 run.1 in
    let rest = run_same events run.0 t run.2 in
    record {
      plan = rest.plan ∙ first.plan;
      ring = rest.ring ∙ first.ring;
      segments = rest.segments ∙ first.segments;
    }
