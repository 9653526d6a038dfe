-- The windows are in lexicographic order.
use Rattle.std.proofs.Common.{◌≡◌, ℕ, zero, suc, ◌-◌, ◌*◌, ◌<◌, List, [], ◌∷◌, ◌++◌, length, slice_get, Some, refl, sym}
use Rattle.std.proofs.Common.{ap, ◌∙◌, arith, inl, inr}
use Rattle.std.proofs.Math.Nat.{suc-mul}
use Rattle.std.proofs.lemmas.Bool.{cases_order}
use Rattle.std.proofs.lemmas.Nat.{mul-le}
use Rattle.std.proofs.lemmas.Option.{same_Some, slice_get_within}
use Rattle.win_index.specs.Lexicographic.{StandsBefore}
use Rattle.win_index.specs.Windows.{windows}
use Rattle.win_index.proofs.Kept.{kept_increases}
use Rattle.win_index.proofs.Unused.{lacks}
use Rattle.win_index.proofs.Numbers.{window_parts, length-windows}

-- an order of two lists stays with one more number at their ends
before_push :
    (a b : List ℕ) (x y : ℕ) → length a ≡ length b → StandsBefore a b → StandsBefore (a ++ x ∷ []) (b ++ y ∷ [])
before_push [] b x y same before = absurd before
before_push (c ∷ a) [] x y same before = absurd before
before_push (c ∷ a) (d ∷ b) x y same before =
    elim before [ inl lt ↦ inl lt | inr rest ↦ inr (rest.0, before_push a b x y (omega arith) rest.1) ]

before_last : (a : List ℕ) (x y : ℕ) → x < y → StandsBefore (a ++ x ∷ []) (a ++ y ∷ [])
before_last [] x y lt = inl lt
before_last (c ∷ a) x y lt = inr (refl, before_last a x y lt)

pub in_order :
    (k m i j : ℕ) (a b : List ℕ) → i < j → slice_get (windows k m) i ≡ Some a →
    slice_get (windows k m) j ≡ Some b → StandsBefore a b
in_order zero m i j a b lt at_i at_j =
    absurd (omega (arith, slice_get_within (windows zero m) j b at_j, length-windows zero m))
in_order (suc k) m i j a b lt at_i at_j =
    let first = window_parts k m i a at_i in
    let second = window_parts k m j b at_j in
    elim (cases_order first.place second.place) [
      | inl same ↦
          let front : second.front ≡ first.front =
          same_Some second.front first.front (sym second.front_at ∙ rw same at first.front_at) in
          let last_at = rw front at second.last_at in
          let before : first.place * (m - k) ≡ second.place * (m - k) = ap (λ p. p * (m - k)) same in
          let later : first.rest < second.rest = omega (arith, first.number, second.number) in
          let less = kept_increases (lacks first.front) m first.rest second.rest first.last second.last later
          first.last_at last_at in
          rw (first.whole, second.whole, front) (before_last first.front first.last second.last less)
      | inr (inl less) ↦
          let before = in_order k m first.place second.place first.front second.front less first.front_at
          second.front_at in
          rw (first.whole, second.whole) (before_push first.front second.front first.last second.last
          (first.front_is.size ∙ sym second.front_is.size) before)
      | inr (inr more) ↦
          let all = mul-le (suc second.place) (m - k) first.place (m - k) more (omega arith) in
          absurd (omega (arith, first.number, second.number, second.inside, suc-mul second.place (m - k)))
    ]

not_before_itself : (a : List ℕ) → StandsBefore a a → ⊥
not_before_itself [] before = before
not_before_itself (x ∷ a) (inl less) = omega (arith, less)
not_before_itself (x ∷ a) (inr rest) = not_before_itself a rest.1

-- a window has one position
pub one_place :
    (k m i j : ℕ) (list : List ℕ) → slice_get (windows k m) i ≡ Some list →
    slice_get (windows k m) j ≡ Some list → i ≡ j
one_place k m i j list at_i at_j =
    elim (cases_order i j) [
      | inl same ↦ same
      | inr (inl less) ↦ absurd (not_before_itself list (in_order k m i j list list less at_i at_j))
      | inr (inr more) ↦ absurd (not_before_itself list (in_order k m j i list list more at_j at_i))
    ]
