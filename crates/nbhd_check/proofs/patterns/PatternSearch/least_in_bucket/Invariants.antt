use Rattle.std.proofs.Common.{◌≡◌, ℕ, [], ◌∷◌, ◌++◌, ◌+◌, ◌*◌, ◌<◌, ◌≤◌, List, Some, slice_get}
use Rattle.channel_tables.specs.Tables.{windows_of}
use Rattle.nbhd_check.specs.PatternSearch.{IsFirstClear}
use Rattle.nbhd_check.specs.Buckets.{wide}
use Rattle.nbhd_check.proofs.patterns.PatternSearch.least_in_bucket.Given as goal

-- a window before one of those so far is not below the number, or no three windows with it first are forbidden
abbrev pub invariant-loop-place : goal.invariant-loop-place
invariant-loop-place l =
    (l.least ≤ l.initial.least)
    × ((place number x : ℕ) (z : List ℕ) → place < l.place → number < l.least
    → slice_get (windows_of l.self.table.now) number ≡ Some (x ∷ z)
    → slice_get (windows_of l.self.table.now) (l.next.bucket * wide l.self.table.now + place) ≡ Some (z ++ x ∷ [])
    → IsFirstClear l.self.table.now l.self.problem.now l.self.before.items l.next place)
