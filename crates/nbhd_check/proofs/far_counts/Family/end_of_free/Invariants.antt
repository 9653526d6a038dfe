use Rattle.std.proofs.Common.{◌≢◌, ℕ, ◌<◌, ◌≤◌, Contains, get_or}
use Rattle.nbhd_check.proofs.far_counts.Family.end_of_free.Given as goal

-- the end so far is the least of the first identifier and the shared ones before this place
abbrev pub invariant-loop-place : goal.invariant-loop-place
invariant-loop-place l =
    ((l.low ≤ l.end) × (l.end ≤ l.self.table.now.ids))
    × ((x : ℕ) → l.low ≤ x → x < l.end → l.first ≢ x)
    × ((i x : ℕ) → i < l.place → l.low ≤ x → x < l.end → get_or l.self.shared.now i 0 ≢ x)
    × (l.end < l.self.table.now.ids → l.first ≢ l.end → Contains l.self.shared.now l.end)
