-- The lexemes of a text that begins with a blank, a comment, a mark or a word.
use Rattle.std.proofs.Common.{◌≡◌, ℕ, suc, ◌+◌, ◌-◌, ◌<◌, ◌≤◌, ◌==◌, Bool, true, false, not, List, [], ◌∷◌, length}
use Rattle.std.proofs.Common.{get_or, take, drop, refl, sym, ap, ◌∙◌, arith, add-one}
use Rattle.std.proofs.Math.Seq.{drop-cons, drop-length}
use Rattle.std.proofs.lemmas.Bool.{cond_both, eqb-true, ne_eqb}
use Rattle.std.proofs.lemmas.Bool.Decides.{nat_tests}
use Rattle.std.proofs.lemmas.List.{drop-drop, length-drop, take_rest}
use Rattle.std.proofs.lemmas.List.Folds.{length-prefix_len}
use Rattle.std.specs.List.{prefix_len}
use Rattle.node_lang.specs.declared.token.Token.{Token}
use Rattle.node_lang.specs.Words.{is_blank, is_word_byte, word_token, mark_token}
use Rattle.node_lang.specs.Lexemes.{Lexeme, blanked, joined, split_of, lexemes_of}

pub length-blanked : (inside : Bool) (text : List ℕ) → length (blanked inside text) ≡ length text
length-blanked inside [] = refl
length-blanked true (b ∷ bs) = grind (arith, length-blanked true bs, length-blanked false bs)
length-blanked false (b ∷ bs) = grind (arith, length-blanked true bs, length-blanked false bs)

-- the lexemes of a text without comments
abbrev lexemes_in : List ℕ → List Lexeme
lexemes_in text = joined (length text) (split_of text).word (split_of text).rest

lexemes_of-blanked : (text : List ℕ) → lexemes_of text ≡ lexemes_in (blanked false text)
unfolding lexemes_of
lexemes_of-blanked text = rw (length-blanked false text) refl

pub blank_in_front : (b : ℕ) (bs : List ℕ) → is_blank b ≡ true → lexemes_of (b ∷ bs) ≡ lexemes_of bs
unfolding lexemes_of
blank_in_front b bs h = grind (arith, nat_tests, length-blanked false bs)

pub mark_in_front : (b : ℕ) (bs : List ℕ) → is_word_byte b ≡ false → is_blank b ≡ false → (b == 35) ≡ false →
    lexemes_of (b ∷ bs) ≡ record { from = suc (length bs); token = mark_token b } ∷ lexemes_of bs
unfolding lexemes_of
mark_in_front b bs no_word no_blank no_comment =
    rw (no_comment, no_word, no_blank, length-blanked false bs, add-one) refl

-- a byte that does not end a comment
abbrev pub in_line : ℕ → Bool
in_line b = not (b == 10)

one-add : (n : ℕ) → 1 + n ≡ suc n
one-add n = omega arith

comment_step : (b : ℕ) (bs : List ℕ) (t : Bool) → (b == 10) ≡ t →
    lexemes_in (blanked true bs) ≡ lexemes_in (blanked false (drop (prefix_len in_line bs) bs)) →
    lexemes_in (blanked true (b ∷ bs)) ≡ lexemes_in (blanked false (drop (prefix_len in_line (b ∷ bs)) (b ∷ bs)))
comment_step b bs true e rest = rw (eqb-true b 10 e) refl
comment_step b bs false e rest =
    rw e (rest ∙ ap (λ n. lexemes_in (blanked false (drop n (b ∷ bs)))) (sym (one-add (prefix_len in_line bs))))

-- inside a comment the lexemes are those after the end of the line
in_comment : (bs : List ℕ) → lexemes_in (blanked true bs) ≡ lexemes_in (blanked false (drop (prefix_len in_line bs) bs))
in_comment [] = refl
in_comment (b ∷ bs) = comment_step b bs (b == 10) refl (in_comment bs)

comment_in_front : (bs : List ℕ) → lexemes_of (35 ∷ bs) ≡ lexemes_of (drop (prefix_len in_line bs) bs)
comment_in_front bs =
    lexemes_of-blanked (35 ∷ bs) ∙ in_comment bs ∙ sym (lexemes_of-blanked (drop (prefix_len in_line bs) bs))

-- a byte of no word begins no word, inside a comment or outside
no_word_first : (b : ℕ) (bs : List ℕ) → is_word_byte b ≡ false → (split_of (blanked false (b ∷ bs))).word ≡ []
no_word_first b bs h = grind (arith, nat_tests)

-- the text after its first word
pub record SplitsWord (text : List ℕ) (n : ℕ) : Type 0 where
  pub word : (split_of (blanked false text)).word ≡ take n text
  pub rest : (split_of (blanked false text)).rest ≡ lexemes_of (drop n text)

splits_byte : (b : ℕ) (bs : List ℕ) (n : ℕ) → is_word_byte b ≡ true → SplitsWord bs n → SplitsWord (b ∷ bs) (suc n)
splits_byte b bs n h after =
    record {
      word = grind (arith, nat_tests, after.word);
      rest = grind (arith, nat_tests, after.rest);
    }

splits_no_byte : (b : ℕ) (bs : List ℕ) → is_word_byte b ≡ false → SplitsWord (b ∷ bs) 0
splits_no_byte b bs h =
    let empty = no_word_first b bs h in
    record {
      word = empty;
      rest = sym (rw empty at (lexemes_of-blanked (b ∷ bs)));
    }

splits_word : (text : List ℕ) → SplitsWord text (prefix_len is_word_byte text)
splits_word [] = record { word = refl; rest = sym (lexemes_of-blanked []) }
splits_word (b ∷ bs) = cond_both (is_word_byte b) (1 + prefix_len is_word_byte bs) 0 (SplitsWord (b ∷ bs))
    (λ e. rw one-add (splits_byte b bs (prefix_len is_word_byte bs) e (splits_word bs))) (λ e. splits_no_byte b bs e)

joined_word : (count : ℕ) (word : List ℕ) (rest : List Lexeme) → 0 < length word →
    joined count word rest ≡ record { from = count; token = word_token word } ∷ rest
joined_word count [] rest h = absurd (omega arith)
joined_word count (b ∷ bs) rest h = refl

-- a text that begins with a word
pub word_token_first : (text : List ℕ) (n : ℕ) → n ≡ prefix_len is_word_byte text → 0 < n →
    lexemes_of text ≡ record { from = length text; token = word_token (take n text) } ∷ lexemes_of (drop n text)
unfolding lexemes_of
word_token_first text n e h =
    let split = rw (← e) at (splits_word text) in
    let size = length-prefix_len is_word_byte text in
    rw (split.word, split.rest) (joined_word (length text) (take n text) _ (rw (e, size) (rw (← e) h)))

-- a text that begins with a mark
pub mark_token_first : (text : List ℕ) → 0 < length text → 0 ≡ prefix_len is_word_byte text →
    is_blank (get_or text 0 0) ≡ false → (get_or text 0 0 ≡ 35 → ⊥) →
    lexemes_of text ≡ record { from = length text; token = mark_token (get_or text 0 0) } ∷ lexemes_of (drop 1 text)
mark_token_first [] h e no_blank no_comment = absurd (omega arith)
mark_token_first (b ∷ bs) h e no_blank no_comment =
    mark_in_front b bs (grind (arith, nat_tests)) no_blank (ne_eqb b 35 no_comment)

-- at a blank, the lexemes are those after it
pub after_blank : (text : List ℕ) (i : ℕ) → i < length text → is_blank (get_or text i 0) ≡ true →
    lexemes_of (drop (i + 1) text) ≡ lexemes_of (drop i text)
after_blank text i h blank =
    rw (add-one, drop-cons text i 0) (sym (blank_in_front (get_or text i 0) (drop (suc i) text) blank))

-- at a comment, the lexemes are those after the line
pub after_comment : (text : List ℕ) (i n : ℕ) → i < length text → get_or text i 0 ≡ 35 →
    n ≡ prefix_len in_line (drop (i + 1) text) →
    lexemes_of (drop (i + (1 + n)) text) ≡ lexemes_of (drop i text)
after_comment text i n h comment e =
    let place : i + (1 + n) ≡ (i + 1) + n = omega arith in
    let front : drop i text ≡ 35 ∷ drop (i + 1) text = rw (add-one, ← comment) (drop-cons text i 0 h) in
    rw (place, ← drop-drop n (i + 1) text, e, front) (sym (comment_in_front (drop (i + 1) text)))

-- blanks and comments alone have no lexemes
pub all_skipped : (text : List ℕ) (n : ℕ) → n ≡ length text → lexemes_of (drop n text) ≡ lexemes_of text →
    lexemes_of text ≡ []
all_skipped text n e same =
    sym same ∙ ap lexemes_of (ap (λ k. drop k text) e ∙ drop-length text) ∙ lexemes_of-blanked []

-- the lexemes from an offset on, from those of a slice in the code
pub spanned_after : (text : List ℕ) (at start end : ℕ) (t : Token) → at ≤ length text → start < end →
    lexemes_of (take (length text - at) (drop at text))
    ≡ record { from = length (take (length text - at) (drop at text)) - start; token = t }
    ∷ lexemes_of (drop end (take (length text - at) (drop at text))) →
    lexemes_of (drop at text) ≡ record { from = length text - (at + start); token = t }
    ∷ lexemes_of (drop (at + end) text)
spanned_after text at start end t h order e =
    let size : length (drop at text) - start ≡ length text - (at + start) = omega (arith, length-drop at text) in
    rw (take_rest text at, drop-drop end at text, size) at e

pub none_after : (text : List ℕ) (at : ℕ) → lexemes_of (take (length text - at) (drop at text)) ≡ [] →
    lexemes_of (drop at text) ≡ []
none_after text at e = rw (take_rest text at) at e
