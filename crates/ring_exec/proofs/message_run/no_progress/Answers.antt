use Rattle.std.proofs.Common.{◌≡◌, ℕ, zero, suc, List, [], ◌∷◌, All, refl, ap, ◌∙◌, arith}
use Rattle.std.specs.Prelude.{IfSome, slice_get}
use Rattle.border_exchange.specs.Segments.{RingSegment}
use Rattle.ring_exec.proofs.message_run.no_progress.Goals as goal

-- elements that are these have done no round if these have done none
none_done : (f : ℕ → RingSegment) → ((i : ℕ) → (f i).round ≡ 0) → (xs : List RingSegment)
    → ((i : ℕ) → IfSome (slice_get xs i) (λ s. s ≡ f i)) → All (λ (s : RingSegment). s.round ≡ 0) xs
none_done f none [] each k d lt = absurd (omega arith)
none_done f none (x ∷ xs) each zero d lt = ap (λ (s : RingSegment). s.round) (each zero) ∙ none zero
none_done f none (x ∷ xs) each (suc k) d lt =
    none_done (λ i. f (suc i)) (λ i. none (suc i)) xs (λ i. each (suc i)) k d (omega arith)

pub invariant_of-result-clause-unstarted : goal.invariant_of-result-clause-unstarted
invariant_of-result-clause-unstarted c =
    none_done _ (λ _. refl) c.in_ok-waiting.waiting.items c.in_ok-waiting.ensures.opening
