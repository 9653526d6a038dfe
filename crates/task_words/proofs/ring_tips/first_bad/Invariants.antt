use Rattle.std.proofs.Common.{◌≡◌, ℕ, ◌<◌, List, Some, map}
use Rattle.std.specs.Prelude.{slice_get}
use Rattle.task_words.specs.Decimal.{IsNumber}
use Rattle.task_words.proofs.ring_tips.first_bad.Given as goal

abbrev pub invariant-parts : goal.invariant-parts
invariant-parts l = (k : ℕ) (other : List ℕ) → k < l.index → slice_get (map (λ part. part.now) l.parts) k ≡ Some other
    → IsNumber other
