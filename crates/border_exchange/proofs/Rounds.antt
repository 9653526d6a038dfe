use Rattle.std.proofs.Common.{◌≡◌, ℕ, ◌<◌, List, [], ◌∷◌, ◌++◌, length, Some, sym, ap, ◌∙◌, subst, arith}
use Rattle.std.proofs.Common.{below_more, length-append}
use Rattle.std.specs.Prelude.{slice_get}
use Rattle.std.proofs.Math.ListN.{get_or-append}
use Rattle.std.proofs.Math.Seq.{get_or-append_seam}
use Rattle.std.proofs.lemmas.Option.{slice_get_within, slice_get-get_or, get_or_from_slice_get}
use Rattle.border_exchange.specs.declared.Side.{Side}
use Rattle.border_exchange.specs.InRounds.{AreInRounds}

module _ {M : Type 0} (side_of : M → Side) (round_of : M → ℕ) (side : Side) where
  -- a message of the next round keeps the list in rounds
  pub rounds_snoc : (xs : List M) (m : M) → AreInRounds side_of round_of side xs → side_of m ≡ side
      → round_of m ≡ length xs → AreInRounds side_of round_of side (xs ++ m ∷ [])
  rounds_snoc xs m before of_side of_round =
      let all = xs ++ m ∷ [] in
      let P : ℕ → Type 0 = λ k. (x : M) → slice_get all k ≡ Some x → (side_of x ≡ side) × (round_of x ≡ k) in
      let low : (k : ℕ) → k < length xs → P k = λ k below x e.
      before.at k x (slice_get-get_or xs k m below
      ∙ ap Some (sym (get_or-append xs (m ∷ []) m k below) ∙ get_or_from_slice_get all k x m e)) in
      let last : P (length xs) = λ x e.
      let same : m ≡ x = sym (get_or-append_seam xs m [] m) ∙ get_or_from_slice_get all (length xs) x m e in
      subst (λ y. (side_of y ≡ side) × (round_of y ≡ length xs)) same (of_side, of_round) in
      record {
        at = λ k x e. below_more P (length xs) low last k
            (let h = slice_get_within all k x e in omega (arith, length-append xs (m ∷ []))) x e;
      }
