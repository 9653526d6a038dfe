use Rattle.std.proofs.Common.{ℕ, List, ◌+◌, ◌-◌, ◌*◌, ◌<◌, ◌≤◌}
use Rattle.nbhd_check.specs.FarSearch.{IsAtFamily}
use Rattle.nbhd_check.specs.Buckets.{AreFree, BeginsFarTuple, wide}
use Rattle.nbhd_check.proofs.far_masks.FarMasks.first_from.Given as goal

-- the place is that of the next window of the bucket, and none of the bucket before it begins a tuple with a close
-- third window
abbrev pub invariant-loop-number : goal.invariant-loop-number
invariant-loop-number l =
    (l.number < l.bucket * wide l.self.table.now + wide l.self.table.now
    → (window : List ℕ) × IsAtFamily l.self.table.now l.number window l.first l.places l.place)
    × AreFree l.self.table.now (BeginsFarTuple l.self.table.now l.self.distance)
    (l.bucket * wide l.self.table.now) l.number
    × (l.bucket * wide l.self.table.now ≤ l.number)
    × (l.number ≤ l.bucket * wide l.self.table.now + wide l.self.table.now)

abbrev pub decreases-loop-number : goal.decreases-loop-number
decreases-loop-number l = l.bucket * wide l.self.table.now + wide l.self.table.now - l.number
