-- Entries of pattern texts, and why a text is none.
use Rattle.std.proofs.Common.{◌≡◌, ◌∙◌, ◌≤◌, ◌<◌, ◌^◌, ◌&&◌, ℕ, zero, suc, Bool, true, false, not, cond, inl, inr, refl}
use Rattle.std.proofs.Common.{sym, ap, subst, arith, List, [], ◌∷◌, length, get_or, Option, Some, None, All, codes}
use Rattle.std.specs.Prelude.{nat_lt}
use Rattle.std.specs.Char.{is_ascii_digit}
use Rattle.std.specs.List.{list_all}
use Rattle.std.specs.Option.{option_and_then, option_or}
use Rattle.std.specs.Str.{all_ascii_digits, bytes_eq}
use Rattle.std.specs.Str.Parse.{IsNumeral, digits_value}
use Rattle.std.proofs.lemmas.Bool.{and_parts}
use Rattle.std.proofs.lemmas.Bool.Decides.{Decides-ltb, not_from_Decides}
use Rattle.std.proofs.lemmas.Option.{slice_get-get_or, slice_get_cases}
use Rattle.std.proofs.lemmas.Slice.Eq.{bytes_eq-Decides}
use Rattle.std.proofs.lemmas.Str.Parse.{IsNumeralModel, numerals_by_value, tells_all_ascii_digits}
use Rattle.task_words.specs.Decimal.{IsNumber}
use Rattle.task_words.specs.PatternText.{IsEntry, IsPatternText, entry_fault, fault_at, is_numeral, parts_fault}
use Rattle.task_words.specs.PatternText.{pattern_fault, word_fault}
use Rattle.task_words.specs.RingText.{parts_of}
use Rattle.task_words.specs.declared.demand_fault.PatternFault.{PatternFault}
use Rattle.task_words.specs.declared.demand_fault.PatternFault.TheVariants.{LargeChannel, ManyEntries}

-- ---- decimal digits

same_test : (ds : List ℕ) → list_all is_ascii_digit ds ≡ all_ascii_digits ds
same_test [] = refl
same_test (c ∷ cs) = ap (λ b. is_ascii_digit c && b) (same_test cs)

model : IsNumeralModel (λ ds. all_ascii_digits ds ≡ true) (digits_value 10)
model = numerals_by_value _ tells_all_ascii_digits

numeral_is : (text : List ℕ) → is_numeral text ≡ true → IsNumeral 10 text
numeral_is text is =
    let (some, each) = and_parts (nat_lt 0 (length text)) _ is in
    ((Decides-ltb 0 (length text)).0 some, model.to text (sym (same_test text) ∙ each))

is_numeral_of : (text : List ℕ) → IsNumeral 10 text → is_numeral text ≡ true
is_numeral_of text (some, each) =
    λ i. (Decides-ltb 0 (length text)).1 some i && (same_test text ∙ model.from text each) i

-- ---- entries

module _ (part : List ℕ) where
  is_small : Bool
  is_small = nat_lt (digits_value 10 part) (2 ^ 32)

  small_number : (b : Bool) → nat_lt (digits_value 10 part) (2 ^ 32) ≡ b → IsNumeral 10 part
      → cond b None (Some LargeChannel) ≡ None → IsNumber part
  small_number true is numeral e = (numeral, (Decides-ltb (digits_value 10 part) (2 ^ 32)).0 is)
  small_number false is numeral e = cc

  number_is : (b : Bool) → is_numeral part ≡ b
      → cond (not b) (Some (word_fault part)) (cond (nat_lt (digits_value 10 part) (2 ^ 32)) None (Some LargeChannel))
      ≡ None → IsNumber part
  number_is true is e = small_number (nat_lt (digits_value 10 part) (2 ^ 32)) refl (numeral_is part is) e
  number_is false is e = cc

  -- a part without a fault is an entry
  entry_is : entry_fault part ≡ None → IsEntry part
  entry_is e = go (bytes_eq part (codes "*")) refl e
    where
      go : (b : Bool) → bytes_eq part (codes "*") ≡ b
          → cond b None (cond (not (is_numeral part)) (Some (word_fault part)) (cond (nat_lt (digits_value 10 part) (2 ^ 32)) None (Some LargeChannel))) ≡ None → IsEntry part
      go true is f = inl ((bytes_eq-Decides part (codes "*")).0 is)
      go false is f = inr (number_is (is_numeral part) refl f)

  -- an entry has no fault
  no_fault : IsEntry part → entry_fault part ≡ None
  no_fault (inl star) = subst (λ (p : List ℕ). entry_fault p ≡ None) (sym star) refl
  no_fault (inr (numeral, small)) = go (bytes_eq part (codes "*"))
    where
      go : (b : Bool) → cond b None
          (cond (not (is_numeral part)) (Some (word_fault part))
          (cond (nat_lt (digits_value 10 part) (2 ^ 32)) None (Some LargeChannel))) ≡ None
      go true = refl
      go false = λ i. cond (not (is_numeral_of part numeral i)) (Some (word_fault part))
          (cond ((Decides-ltb (digits_value 10 part) (2 ^ 32)).1 small i) None (Some LargeChannel))

  -- decimal digits that are no number have too large a value
  pub large : bytes_eq part (codes "*") ≡ false → is_numeral part ≡ true → ¬ IsNumber part
      → entry_fault part ≡ Some LargeChannel
  large star numeral none = go (nat_lt (digits_value 10 part) (2 ^ 32)) refl
    where
      go : (b : Bool) → nat_lt (digits_value 10 part) (2 ^ 32) ≡ b → entry_fault part ≡ Some LargeChannel
      go true is = absurd (none (numeral_is part numeral, (Decides-ltb (digits_value 10 part) (2 ^ 32)).0 is))
      go false is = λ i. cond (star i) None
          (cond (not (numeral i)) (Some (word_fault part)) (cond (is i) None (Some LargeChannel)))

-- ---- parts

neither : (a b : Option PatternFault) → option_or a b ≡ None → (a ≡ None) × (b ≡ None)
neither None b e = (refl, e)
neither (Some x) b e = cc

module _ (parts : List (List ℕ)) where
  each_is : length parts ≤ 3 → fault_at parts 0 ≡ None → fault_at parts 1 ≡ None → fault_at parts 2 ≡ None
      → All IsEntry parts
  each_is few first second third =
      λ k d within. entry_is (get_or parts k d)
      (sym (ap (option_and_then entry_fault) (slice_get-get_or parts k d within)) ∙ at k within)
    where
      at : (k : ℕ) → k < length parts → fault_at parts k ≡ None
      at zero within = first
      at (suc zero) within = second
      at (suc (suc zero)) within = third
      at (suc (suc (suc k))) within = absurd (omega (arith, few, within))

  -- parts without a fault are at most three entries
  entries_are : parts_fault parts ≡ None → All IsEntry parts × (length parts ≤ 3)
  entries_are e = go (nat_lt 3 (length parts)) refl e
    where
      go : (b : Bool) → nat_lt 3 (length parts) ≡ b
          → cond b (Some ManyEntries) (option_or (fault_at parts 0) (option_or (fault_at parts 1) (fault_at parts 2)))
          ≡ None
          → All IsEntry parts × (length parts ≤ 3)
      go true is f = cc
      go false is f =
          let (first, rest) = neither (fault_at parts 0) _ f in
          let (second, third) = neither (fault_at parts 1) _ rest in
          let few : length parts ≤ 3 = omega (arith, not_from_Decides _ (Decides-ltb 3 (length parts)) is) in
          (each_is few first second third, few)

  no_fault_at : All IsEntry parts → (k : ℕ) → fault_at parts k ≡ None
  no_fault_at each k = elim ((slice_get_cases parts k).1) [
    | inl (x, within, got, same) ↦ ap (option_and_then entry_fault) got
        ∙ no_fault x (subst IsEntry same (each k x within))
    | inr (past, none) ↦ ap (option_and_then entry_fault) none
  ]

  -- at most three entries have no fault
  no_fault_of : All IsEntry parts → length parts ≤ 3 → parts_fault parts ≡ None
  no_fault_of each few =
      let short : nat_lt 3 (length parts) ≡ false = grind (arith, few) in
      λ i. cond (short i) (Some ManyEntries)
      (option_or (no_fault_at each 0 i) (option_or (no_fault_at each 1 i) (no_fault_at each 2 i)))

-- ---- texts

-- a text is a pattern text if its parts have no fault
pub pattern_text_is : (text : List ℕ) → pattern_fault text ≡ None → IsPatternText text
pattern_text_is text e = let both = entries_are (parts_of text) e in record { each = both.0; few = both.1 }

-- a text with a fault is no pattern text
pub no_pattern_text : (text : List ℕ) (cause : PatternFault) → pattern_fault text ≡ Some cause → ¬ IsPatternText text
no_pattern_text text cause e is =
    let bad : None ≡ Some cause = sym (no_fault_of (parts_of text) is.each is.few) ∙ e in
    cc
