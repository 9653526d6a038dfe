-- The statements of the laws of this crate.
use Rattle.std.specs.Prelude.{◌≡◌, ◌≢◌, ◌⊎◌, ◌↔◌, ℕ, ◌<◌, List, length}
use Rattle.table_formula.specs.Problems.{Problem, IsImpossible}
use Rattle.table_formula.specs.declared.refutation.fault.RefuteError.{RefuteError}
use Rattle.table_formula.specs.declared.refutation.fault.RefuteError.TheVariants.{TooLong, OutOfMemory}
use Rattle.table_formula.specs.declared.limits.TheConstants.{LONGEST_REFUTATION}
use Rattle.table_formula.specs.Refutations.{IsRefutation, IsFault}

-- where the formula of a problem has a refutation, no table solves the problem
abbrev pub RefutationsAreSound : Type 0
RefutationsAreSound = (p : Problem) (text : List ℕ) → IsRefutation p text → IsImpossible p

-- a refutation has no fault besides OutOfMemory
abbrev pub RefutationsAreRight : Type 0
RefutationsAreRight = (p : Problem) (text : List ℕ) (f : RefuteError) → IsRefutation p text → IsFault p text f
    → f ≡ OutOfMemory

-- a text has at most one fault besides OutOfMemory
abbrev pub OneRefutationFault : Type 0
OneRefutationFault =
    (p : Problem) (text : List ℕ) (f g : RefuteError) → f ≢ OutOfMemory → g ≢ OutOfMemory → IsFault p text f
    → IsFault p text g → f ≡ g

-- a text that is too long has that fault alone, and even refused memory does not replace it
abbrev pub LongTextsHaveOneFault : Type 0
LongTextsHaveOneFault =
    (p : Problem) (text : List ℕ) (f : RefuteError) → LONGEST_REFUTATION < length text
    → IsFault p text f ↔ (f ≡ TooLong)

-- each text is a refutation or has a fault besides OutOfMemory
abbrev pub EachTextHasAVerdict : Type 0
EachTextHasAVerdict =
    (p : Problem) (text : List ℕ) → IsRefutation p text ⊎ ((f : RefuteError) × (f ≢ OutOfMemory) × IsFault p text f)
