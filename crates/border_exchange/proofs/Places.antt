-- What other crates cite of the places of segments. Of the files here they import this one alone.
use Rattle.std.proofs.Common.{◌≡◌, ℕ, ◌+◌, ◌*◌, ◌/◌, ◌<◌, ◌≤◌, arith, ⊎_elim}
use Rattle.std.proofs.Math.Nat.{mul-div_cancel_left, div-le_of_le-mul}
use Rattle.std.proofs.lemmas.Nat.{mul-le, div-add-mod'}
use Rattle.std.proofs.lemmas.Bool.{cases_lt}
use Rattle.border_exchange.specs.SegmentPlaces.{first_place}

-- each segment has a place of its own if there are at most as many segments as places
pub first_place-grows : (n g s : ℕ) → 0 < g → g ≤ n → first_place n g s < first_place n g (s + 1)
unfolding first_place
first_place-grows n g s some few =
    ⊎_elim
    (λ (lt : s * n / g < (s + 1) * n / g). lt)
    (λ (ge : (s + 1) * n / g ≤ s * n / g).
    let more : (s + 1) * n ≡ s * n + n = grind arith in
    let below : (s + 1) * n / g * g ≤ s * n / g * g = mul-le ((s + 1) * n / g) g (s * n / g) g ge (omega arith) in
    let before = div-add-mod' (s * n) g in
    let after = div-add-mod' ((s + 1) * n) g in
    absurd (omega arith))
    (cases_lt (s * n / g) ((s + 1) * n / g))

-- the last segment ends where the ring ends
pub first_place-all : (n g : ℕ) → 0 < g → first_place n g g ≡ n
unfolding first_place
first_place-all n g some = mul-div_cancel_left n some

-- and the first begins where it begins
pub first_place-none : (n g : ℕ) → first_place n g 0 ≡ 0
unfolding first_place
first_place-none n g = grind arith

-- no segment goes beyond the ring
pub first_place-inside : (n g s : ℕ) → s ≤ g → first_place n g s ≤ n
unfolding first_place
first_place-inside n g s le =
    div-le_of_le-mul g (let small : s * n ≤ g * n = mul-le s n g n le (omega arith) in small)
