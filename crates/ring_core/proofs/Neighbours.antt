-- Segments, the borders beside them, and the places at their ends.
use Rattle.std.proofs.Common.{◌≡◌, ℕ, ◌+◌, ◌-◌, ◌%◌, ◌<◌, ◌≤◌, List, length, arith, sym, ◌∙◌, ap, ⊎_elim}
use Rattle.std.proofs.Math.Nat.{add-mod_left, mod-eq_of_lt, mod-lt}
use Rattle.std.proofs.lemmas.Bool.{cases_lt}
use Rattle.node_program.specs.GlobalRounds.{left_of, right_of}
use Rattle.border_exchange.specs.SegmentPlaces.{first_place}
use Rattle.border_exchange.specs.declared.Side.{Side}
use Rattle.border_exchange.specs.declared.Side.TheVariants.{Rightward, Leftward}
use Rattle.ring_core.specs.Machine.{border_before, segment_after}
use Rattle.ring_core.specs.Progress.{sender_of}
use Rattle.border_exchange.proofs.Places.{first_place-grows, first_place-inside, first_place-all, first_place-none}

self_mod : (g : ℕ) → 0 < g → g % g ≡ 0
self_mod g some = ap (λ k. k % g) (omega arith) ∙ add-mod_left g 0 ∙ mod-eq_of_lt some

-- the predecessor of j, modulo n
before_mod : (n i j : ℕ) → j ≡ i + 1 → j < n → (j + n - 1) % n ≡ i
before_mod n i j e lt =
    let there : j + n - 1 ≡ n + i = omega arith in
    let small : i < n = omega arith in
    ap (λ k. k % n) there ∙ add-mod_left n i ∙ mod-eq_of_lt small

-- the border before segment s: that of segment s-1, and before segment 0 the last one
before_first : (g : ℕ) → 0 < g → border_before g 0 ≡ g - 1
before_first g some = mod-eq_of_lt (let h : 0 + g - 1 < g = omega arith in h) ∙ omega arith

before_other : (g s : ℕ) → 0 < s → s < g → border_before g s ≡ s - 1
before_other g s some lt = before_mod g (s - 1) s (omega arith) lt

-- the segment after border b
after_last : (g b : ℕ) → 0 < g → b + 1 ≡ g → segment_after g b ≡ 0
after_last g b some e = ap (λ k. k % g) e ∙ self_mod g some

after_other : (g b : ℕ) → b + 1 < g → segment_after g b ≡ b + 1
after_other g b lt = mod-eq_of_lt lt

pub before_inside : (g s : ℕ) → 0 < g → border_before g s < g
before_inside g s some = mod-lt (s + g - 1) some

pub after_inside : (g b : ℕ) → 0 < g → segment_after g b < g
after_inside g b some = mod-lt (b + 1) some

pub sender_inside : (g s : ℕ) (side : Side) → 0 < g → sender_of g s side < g
sender_inside g s Rightward some = before_inside g s some
sender_inside g s Leftward some = after_inside g s some

-- each is the inverse of the other
pub after_before : (g s : ℕ) → s < g → segment_after g (border_before g s) ≡ s
after_before g s lt =
    ⊎_elim
    (λ (low : 0 < s).
    ap (segment_after g) (before_other g s low lt)
    ∙ after_other g (s - 1) (omega arith) ∙ omega arith)
    (λ (zero : s ≤ 0).
    let some : 0 < g = omega arith in
    let none : s ≡ 0 = omega arith in
    ap (λ k. segment_after g (border_before g k)) none
    ∙ ap (segment_after g) (before_first g some)
    ∙ after_last g (g - 1) some (omega arith) ∙ sym none)
    (cases_lt 0 s)

pub before_after : (g b : ℕ) → b < g → border_before g (segment_after g b) ≡ b
before_after g b lt =
    ⊎_elim
    (λ (inner : b + 1 < g).
    ap (border_before g) (after_other g b inner) ∙ before_other g (b + 1) (omega arith) inner ∙ omega arith)
    (λ (outer : g ≤ b + 1).
    let some : 0 < g = omega arith in
    ap (border_before g) (after_last g b some (omega arith)) ∙ before_first g some ∙ omega arith)
    (cases_lt (b + 1) g)

-- the left neighbour of a segment's first place is the last place of the segment before it
pub left_end : (x : List ℕ) (g s : ℕ) → s < g → g ≤ length x
    → first_place (length x) g (border_before g s + 1) - 1 ≡ left_of x (first_place (length x) g s)
left_end x g s lt few =
    let n = length x in
    let some : 0 < g = omega arith in
    ⊎_elim
    (λ (low : 0 < s).
    let before : border_before g s + 1 ≡ s = omega (arith, before_other g s low lt) in
    let grows : first_place n g (s - 1) < first_place n g (s - 1 + 1) = first_place-grows n g (s - 1) some few in
    let same : first_place n g (s - 1 + 1) ≡ first_place n g s = ap (first_place n g) (omega arith) in
    let up : first_place n g s < first_place n g (s + 1) = first_place-grows n g s some few in
    let inside : first_place n g (s + 1) ≤ n = first_place-inside n g (s + 1) (omega arith) in
    ap (λ k. first_place n g k - 1) before
    ∙ sym (before_mod n (first_place n g s - 1) (first_place n g s) (omega arith) (omega arith)))
    (λ (zero : s ≤ 0).
    let none : s ≡ 0 = omega arith in
    let before : border_before g s + 1 ≡ g = ap (λ k. border_before g k + 1) none
    ∙ ap (λ k. k + 1) (before_first g some) ∙ omega arith in
    let start : first_place n g s ≡ 0 = ap (first_place n g) none ∙ first_place-none n g in
    let small : 0 + n - 1 < n = omega arith in
    ap (λ k. first_place n g k - 1) before ∙ ap (λ k. k - 1) (first_place-all n g some)
    ∙ (let e : n - 1 ≡ 0 + n - 1 = omega arith in e) ∙ sym (mod-eq_of_lt small) ∙ ap (left_of x) (sym start))
    (cases_lt 0 s)

-- the right neighbour of its last place is the first place of the segment after it
pub right_end : (x : List ℕ) (g s : ℕ) → s < g → g ≤ length x
    → first_place (length x) g (segment_after g s) ≡ right_of x (first_place (length x) g (s + 1) - 1)
right_end x g s lt few =
    let n = length x in
    let some : 0 < g = omega arith in
    let grows : first_place n g s < first_place n g (s + 1) = first_place-grows n g s some few in
    let back : first_place n g (s + 1) - 1 + 1 ≡ first_place n g (s + 1) = omega arith in
    ⊎_elim
    (λ (inner : s + 1 < g).
    let up : first_place n g (s + 1) < first_place n g (s + 1 + 1) = first_place-grows n g (s + 1) some few in
    let inside : first_place n g (s + 1 + 1) ≤ n = first_place-inside n g (s + 1 + 1) (omega arith) in
    let small : first_place n g (s + 1) < n = omega arith in
    ap (first_place n g) (after_other g s inner) ∙ sym (mod-eq_of_lt small) ∙ ap (λ k. k % n) (sym back))
    (λ (outer : g ≤ s + 1).
    let last : s + 1 ≡ g = omega arith in
    ap (first_place n g) (after_last g s some last) ∙ first_place-none n g
    ∙ sym (self_mod n (omega arith))
    ∙ ap (λ k. k % n) (sym (first_place-all n g some) ∙ ap (first_place n g) (sym last) ∙ sym back))
    (cases_lt (s + 1) g)
