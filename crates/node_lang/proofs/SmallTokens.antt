-- The numbers of a text are below 2^32, and its registers have one digit.
use Rattle.std.proofs.Common.{◌≡◌, ℕ, ◌^◌, Bool, true, false, nat_lt, List, [], ◌∷◌, length, refl, arith}
use Rattle.std.specs.Prelude.{Option, Some, None, find}
use Rattle.std.specs.List.{list_all}
use Rattle.std.specs.Str.{bytes_eq}
use Rattle.std.proofs.lemmas.Bool.{and_from}
use Rattle.std.proofs.lemmas.Bool.Decides.{nat_tests}
use Rattle.node_lang.specs.declared.token.Token.{Token}
use Rattle.node_lang.specs.declared.token.Token.TheVariants as token
use Rattle.node_lang.specs.Words.{word_token, mark_token, register_named, or_unknown, named, keywords}
use Rattle.node_lang.specs.Words.{operations, word_of}
use Rattle.node_lang.specs.Lexemes.{Lexeme, blanked, joined, split_of, lexemes_of, tokens_in, tokens_of}

abbrev pub is_small : Token → Bool
is_small (token.Number n) = nat_lt n (2 ^ 32)
is_small (token.Register j) = nat_lt j 10
is_small _ = true

abbrev small_if : Option Token → Bool
small_if None = true
small_if (Some t) = is_small t

found : (test : Token → Bool) (ts : List Token) → list_all is_small ts ≡ true → small_if (find test ts) ≡ true
found test [] h = refl
found test (t ∷ ts) h = grind (arith, nat_tests, found test ts)

small_register : (w : List ℕ) → small_if (register_named w) ≡ true
small_register (r ∷ d ∷ []) = grind (arith, nat_tests)
small_register w = refl

first_small : (a b c : Option Token) → small_if a ≡ true → small_if b ≡ true → small_if c ≡ true →
    is_small (or_unknown a b c) ≡ true
first_small (Some t) b c p q r = p
first_small None (Some t) c p q r = q
first_small None None (Some t) p q r = r
first_small None None None p q r = refl

small_word : (w : List ℕ) → is_small (word_token w) ≡ true
unfolding word_token
small_word w =
    let word = first_small (register_named w) (named keywords w) (named operations w) (small_register w)
    (found (λ t. bytes_eq w (word_of t)) keywords refl) (found (λ t. bytes_eq w (word_of t)) operations refl) in
    grind (arith, nat_tests, word)

small_mark : (b : ℕ) → is_small (mark_token b) ≡ true
small_mark b = grind (arith, nat_tests)

abbrev AllSmall : List Lexeme → Type 0
AllSmall ls = list_all is_small (tokens_in ls) ≡ true

small_joined : (count : ℕ) (word : List ℕ) (rest : List Lexeme) → AllSmall rest → AllSmall (joined count word rest)
small_joined count [] rest h = h
small_joined count (b ∷ bs) rest h = and_from (is_small (word_token (b ∷ bs))) _ (small_word (b ∷ bs)) h

small_split : (text : List ℕ) → AllSmall (split_of text).rest
small_split [] = refl
small_split (b ∷ bs) = grind (arith, nat_tests, small_split bs, small_joined, small_mark)

-- the tokens of a text
pub small_tokens : (text : List ℕ) → list_all is_small (tokens_of text) ≡ true
unfolding lexemes_of
small_tokens text = small_joined (length text) (split_of (blanked false text)).word _ (small_split (blanked false text))
