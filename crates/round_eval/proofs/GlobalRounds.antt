-- Global rounds as rows.
use Rattle.std.proofs.Common.{◌≡◌, ℕ, zero, suc, ◌+◌, ◌-◌, ◌%◌, ◌<◌, ◌≤◌, List, [], ◌∷◌, length, arith, refl, sym}
use Rattle.std.proofs.Common.{add-one, ◌∙◌, ap}
use Rattle.std.proofs.Math.Nat.{add-mod_left, mod-eq_of_lt}
use Rattle.node_program.specs.Term.{ProgramTree}
use Rattle.node_program.specs.Node.{to_left, to_right, next}
use Rattle.node_program.specs.GlobalRounds.{left_of, right_of, state}
use Rattle.round_eval.specs.Rows.{row_after, stretch}
use Rattle.round_eval.specs.Laws.{StretchesAreRows}

module _ (p : ProgramTree) (x : List ℕ) (r : ℕ) where
  left_inside : (i : ℕ) → i + 1 < length x → left_of x (i + 1) ≡ i
  left_inside i lt =
      let there : i + 1 + length x - 1 ≡ length x + i = omega arith in
      let small : i < length x = omega arith in
      ap (λ k. k % length x) there ∙ add-mod_left (length x) i ∙ mod-eq_of_lt small

  round_of_stretch :
      (first count left right : ℕ) → first + count ≤ length x → left ≡ to_right p r (state p x r (left_of x first))
      → right ≡ to_left p r (state p x r (right_of x (first + count - 1)))
      → stretch p x (suc r) first count ≡ row_after p r left (stretch p x r first count) right
  round_of_stretch first zero left right inside from_left from_right = refl
  round_of_stretch first (suc zero) left right inside from_left from_right =
      let e : first + suc zero - 1 ≡ first = omega arith in
      let here = from_right ∙ ap (λ j. to_left p r (state p x r (right_of x j))) e in
      λ i. next p r (state p x r first) (sym from_left i) (sym here i) ∷ []
  round_of_stretch first (suc (suc n)) left right inside from_left from_right =
      let after : first + 1 < length x = omega arith in
      let own = ap (λ j. to_right p r (state p x r j)) (sym (left_inside first after)) in
      let e : first + suc (suc n) - 1 ≡ first + 1 + suc n - 1 = omega arith in
      let last = from_right ∙ ap (λ j. to_left p r (state p x r (right_of x j))) e in
      let more = round_of_stretch (first + 1) (suc n) (to_right p r (state p x r first)) right (omega arith) own last in
      λ i. next p r (state p x r first) (sym from_left i) (to_left p r (state p x r (mod-eq_of_lt after i))) ∷ more i

pub stretches : StretchesAreRows
stretches p x r first count inside =
    rw (add-one r) (round_of_stretch p x r first count _ _ inside refl refl)
