-- The first part of a text.
use Rattle.std.proofs.Common.{◌≡◌, ◌==◌, ℕ, zero, suc, ◌+◌, ◌-◌, ◌<◌, true, false, List, [], ◌∷◌, length, get_or, take}
use Rattle.std.proofs.Common.{drop, refl, sym, ap, ◌∙◌, ⊎_elim, arith, add-one, length-drop}
use Rattle.std.specs.List.{onto_first}
use Rattle.std.proofs.lemmas.Bool.Decides.{eqb_tells}
use Rattle.std.proofs.lemmas.List.{take_all}
use Rattle.std.proofs.lemmas.List.Splits.{slice_split-cons_yes, slice_split-cons_no}
use Rattle.table_formula.specs.Split.{parts_of}

differs : (x y : ℕ) → (x ≡ y → ⊥) → (x == y) ≡ false
differs x y other = ⊎_elim (λ (yes : ((x == y) ≡ true) × (x ≡ y)). absurd (other yes.1))
    (λ (no : ((x == y) ≡ false) × (x ≡ y → ⊥)). no.0) (eqb_tells x y)

equals : (x y : ℕ) → x ≡ y → (x == y) ≡ true
equals x y same = ⊎_elim (λ (yes : ((x == y) ≡ true) × (x ≡ y)). yes.0)
    (λ (no : ((x == y) ≡ false) × (x ≡ y → ⊥)). absurd (no.1 same)) (eqb_tells x y)

-- a text without the separator is one part
pub no_split : (c : ℕ) (text : List ℕ) → ((k : ℕ) → k < length text → get_or text k 0 ≡ c → ⊥)
    → parts_of c text ≡ text ∷ []
no_split c [] lacks = refl
no_split c (x ∷ xs) lacks =
    slice_split-cons_no (λ byte. byte == c) x xs (differs x c (lacks 0 (omega arith)))
    ∙ ap (onto_first x) (no_split c xs (λ k within. lacks (suc k) (omega arith)))

-- the first part ends at the first separator
pub split_at : (c : ℕ) (text : List ℕ) (i : ℕ) → i < length text → ((k : ℕ) → k < i → get_or text k 0 ≡ c → ⊥)
    → get_or text i 0 ≡ c
    → parts_of c text ≡ take i text ∷ parts_of c (drop (suc i) text)
split_at c [] i within lacks here = absurd (omega arith)
split_at c (x ∷ xs) zero within lacks here = slice_split-cons_yes (λ byte. byte == c) x xs (equals x c here)
split_at c (x ∷ xs) (suc i) within lacks here =
    slice_split-cons_no (λ byte. byte == c) x xs (differs x c (lacks 0 (omega arith)))
    ∙ ap (onto_first x) (split_at c xs i (omega arith) (λ k less. lacks (suc k) (omega arith)) here)

-- the same of the slices that the program takes
pub split_slices : (c : ℕ) (text : List ℕ) (i : ℕ) → i < length text → ((k : ℕ) → k < i → get_or text k 0 ≡ c → ⊥)
    → get_or text i 0 ≡ c
    → parts_of c text ≡ take i text ∷ parts_of c (take (length text - (i + 1)) (drop (i + 1) text))
split_slices c text i within lacks here =
    split_at c text i within lacks here ∙ ap (λ k. take i text ∷ parts_of c (drop k text)) (sym (add-one i))
    ∙ ap (λ rest. take i text ∷ parts_of c rest)
    (sym (take_all (length text - (i + 1)) (drop (i + 1) text) (omega (arith, length-drop (i + 1) text))))
