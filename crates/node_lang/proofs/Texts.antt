-- What other crates cite of texts and of their printing. Of the files here they import this one alone.
use Rattle.std.proofs.Common.{◌≡◌, ℕ, ◌+◌, ◌<◌, Bool, List, ◌∷◌, length, get_or, drop, map}
use Rattle.node_lang.specs.Lexemes.{blanked}
use Rattle.node_lang.proofs.Spans
use Rattle.node_lang.proofs.Writing

-- a text with blanks in the place of comments is as long
pub length-blanked : (inside : Bool) (text : List ℕ) → length (blanked inside text) ≡ length text
length-blanked = Spans.length-blanked

-- the items from the j-th on are that item and the others
pub next_item : {A B : Type 0} (f : A → B) (xs : List A) (j : ℕ) (x : A) → j < length xs → x ≡ get_or xs j x
    → drop j (map f xs) ≡ f x ∷ drop (j + 1) (map f xs)
next_item f xs j x lt is = Writing.next_item f xs j x lt is
