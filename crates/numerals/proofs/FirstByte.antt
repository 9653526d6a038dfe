-- The first byte of a value in a text.
use Rattle.std.proofs.Common.{◌≡◌, ◌≢◌, ℕ, ◌+◌, ◌<◌, Option, Some, None, List, ◌∷◌, ◌++◌, length, take, drop, subst}
use Rattle.std.proofs.Common.{sym, ap, ◌∙◌, arith}
use Rattle.std.specs.Prelude.{MatchOption}
use Rattle.std.specs.List.{AllWithin, HoldsAt}
use Rattle.std.proofs.lemmas.List.{drop_more, get_or-take, length-take-le, take-append-drop}
use Rattle.std.proofs.lemmas.List.Elements.{recursion_from_All}
use Rattle.numerals.specs.Bytes.{Lacks, IsFirstByte}

-- what a search for the byte finds
pub first_byte : (text : List ℕ) (end : ℕ) (r : Option ℕ)
    → MatchOption r (AllWithin (λ b. b ≢ end) text 0 (length text))
    (λ i. (i < length text) × HoldsAt (λ b. b ≡ end) text i × AllWithin (λ b. b ≢ end) text 0 i)
    → MatchOption r (Lacks end text) (λ index. IsFirstByte text index end)
first_byte text end None others = recursion_from_All (λ b. b ≢ end) text (λ k d within. others k d (omega arith) within)
first_byte text end (Some index) found =
    record {
      within = found.0;
      cut = sym (take-append-drop index text)
          ∙ ap (λ l. take index text ++ l) (drop_more text index 0 found.0
          ∙ ap (λ b. b ∷ drop (index + 1) text) (found.1 0));
      before = recursion_from_All (λ b. b ≢ end) (take index text) (λ k d within.
          let below : k < index = subst (λ n. k < n) (length-take-le index text (omega (arith, found.0))) within in
          subst (λ b. b ≢ end) (sym (get_or-take index text k d below)) (found.2 k d (omega arith) below));
    }
