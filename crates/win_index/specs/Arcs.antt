-- Windows at the places of a ring, where places are taken modulo the ring's length, and windows of longer lists.
use Rattle.std.specs.Prelude.{ℕ, ◌+◌, ◌-◌, ◌*◌, ◌%◌, List, map, length, slice_index, take, drop}
use Rattle.std.specs.List.{range_with_len}

-- `count` identifiers of a ring, from the place `start` on to the right, around the ring
abbrev pub arc : List ℕ → ℕ → ℕ → List ℕ
arc x start count = map (λ k. slice_index x ((start + k) % length x)) (range_with_len 0 count)

-- the window of level r at place i: the identifiers of places i-r to i+r
abbrev pub window_around : List ℕ → ℕ → ℕ → List ℕ
window_around x r i = arc x (i + length x - r) (2 * r + 1)

-- the window of level r in a list from an offset on
abbrev pub part_at : ℕ → ℕ → List ℕ → List ℕ
part_at r offset list = take (2 * r + 1) (drop offset list)
