use Rattle.std.proofs.Common.{◌≡◌, ◌==◌, ℕ, ◌+◌, ◌*◌, ◌<◌, ◌≤◌, nat_lt, length, get_or}
use Rattle.nbhd_check.specs.Counts.{held_count}
use Rattle.nbhd_check.proofs.counts.add_rows.Given as goal

-- the cells before this one are sums, and the others are counts
abbrev pub invariant-loop-at : goal.invariant-loop-at
invariant-loop-at l =
    ((v x : ℕ) → x < l.wide → v * l.wide + x < l.at
    → get_or l.cells (v * l.wide + x) 0 ≡ held_count l.table l.fn.first l.fn.count x (λ channel. nat_lt channel v))
    × ((v x : ℕ) → x < l.wide → l.at ≤ v * l.wide + x → (v + 1) * l.wide ≤ length l.cells
    → get_or l.cells (v * l.wide + x) 0 ≡ held_count l.table l.fn.first l.fn.count x (λ channel. v == channel + 1))
