-- Lists of items that are read word by word.
use Rattle.std.proofs.Common.{◌≡◌, ℕ, Bool, true, false, cond, List, [], ◌∷◌, ◌++◌, Option, None, Some, option_map}
use Rattle.std.proofs.Common.{refl, sym, ap, ◌∙◌, append_assoc, append-nil}
use Rattle.table_formula.specs.Words.{is_end}
use Rattle.table_formula.specs.Lines.{with_item, list_in}

module _ {X : Type 0} where
  -- items in front of a list
  abbrev pub with_items : List X → Option (List X × List (List ℕ)) → Option (List X × List (List ℕ))
  with_items items others = option_map (λ r. (items ++ r.0, r.1)) others

  module _ (item_in : List ℕ → Option X) (items : List X) (word : List ℕ) (words : List (List ℕ)) where
    -- what a word does
    word_is : (b : Bool) (o : Option X) → is_end word ≡ b → item_in word ≡ o
        → with_items items (list_in item_in (word ∷ words))
        ≡ with_items items (cond b (Some ([], words)) (with_item o (list_in item_in words)))
    word_is b o end item = λ i. with_items items
        (cond (end i) (Some ([], words)) (with_item (item i) (list_in item_in words)))

    pub at_end : is_end word ≡ true → with_items items (list_in item_in (word ∷ words)) ≡ Some (items, words)
    at_end end = word_is true (item_in word) end refl ∙ ap (λ all. Some (all, words)) (append-nil items)
