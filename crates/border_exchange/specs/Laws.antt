-- The statement of the law of this crate.
use Rattle.std.specs.Prelude.{◌≡◌, ℕ, ◌+◌, ◌<◌, ◌≤◌}
use Rattle.border_exchange.specs.SegmentPlaces.{first_place}

-- the first segment begins with the ring, the last one ends with it, and each has a place if there are at most as many
-- segments as places
abbrev pub SegmentsCoverTheRing : Type 0
SegmentsCoverTheRing =
    (n g : ℕ) → 0 < g → g ≤ n
    → (first_place n g 0 ≡ 0) × (first_place n g g ≡ n) × ((s : ℕ) → first_place n g s < first_place n g (s + 1))
