-- The text of a printed program is short and ASCII, and its tokens are the spelling of the program.
use Rattle.std.proofs.Common.{◌≡◌, ℕ, ◌+◌, ◌^◌, ◌<◌, ◌==◌, true, false, nat_lt, List, [], ◌∷◌, ◌++◌, length, refl, sym}
use Rattle.std.proofs.Common.{ap, ◌∙◌, arith, rules, ◌*◌, ◌≤◌, Bool, append_assoc, append-nil, length-append}
use Rattle.std.specs.Prelude.{sum_by, All, codes}
use Rattle.std.specs.List.{list_all, prefix_len, flat_map}
use Rattle.std.specs.Fmt.{decimal}
use Rattle.std.proofs.Math.ListN.{get_or-append}
use Rattle.std.proofs.Math.Seq.{take-append_seam, drop-append_seam}
use Rattle.std.proofs.lemmas.Bool.{lt-ltb, ltb-true}
use Rattle.std.proofs.lemmas.Bool.Decides.{nat_tests}
use Rattle.std.proofs.lemmas.Fmt.{decimal_digit, decimal_nonempty, digits_decimal}
use Rattle.std.proofs.lemmas.Fmt.{digits_value-decimal, length-decimal-le}
use Rattle.std.proofs.lemmas.Str.Parse.{IsNumeralModel, numerals_by_fold}
use Rattle.node_lang.specs.declared.token.Token.{Token}
use Rattle.node_lang.specs.declared.token.Token.TheVariants as token
use Rattle.node_lang.specs.Words.{is_blank, is_digit, is_word_byte, read_on, word_token, mark_token, unary_name}
use Rattle.node_lang.specs.Words.{binary_name, word_of}
use Rattle.node_lang.specs.Lexemes.{tokens_in, tokens_of, lexemes_of}
use Rattle.std.proofs.lemmas.List.Sums.{sum_by-append, sum_by-cons, AllPass-from_list_all}
use Rattle.node_program.specs.Term.{Round, ProgramTree, size, step_terms, terms_of_step, Term, Literal, Identifier}
use Rattle.node_program.specs.Term.{LeftMessage, RightMessage, RegisterValue, One, Two, Choose}
use Rattle.node_program.specs.Term.{largest, largest_register}
use Rattle.std.proofs.lemmas.List.Elements.{All-append, All-cons, All-nil, All-head, All-tail, All-weaker}
use Rattle.node_lang.specs.declared.limits.TheConstants.{LONGEST_TEXT}
use Rattle.node_program.specs.declared.tree.UnOp.{UnOp}
use Rattle.node_program.specs.declared.tree.UnOp.TheVariants.{Not}
use Rattle.node_program.specs.declared.tree.BinOp.{BinOp}
use Rattle.node_program.specs.declared.tree.BinOp.TheVariants as op
use Rattle.node_program.specs.Limits.{IsSmall, IsWithinLimits}
use Rattle.node_lang.specs.Grammar.{Reads, spelled, assigned, block, blocks}
use Rattle.node_lang.specs.Printed.{printed_expression, assignment_line, assignment_lines, send_line, round_lines}
use Rattle.node_lang.specs.Printed.{header_lines, printed}
use Rattle.node_lang.proofs.Spans.{blank_in_front, mark_in_front, word_token_first}

-- this text does not continue a word
abbrev pub EndsWord : List ℕ → Type 0
EndsWord rest = prefix_len is_word_byte rest ≡ 0

letters_in_front : (word rest : List ℕ) → list_all is_word_byte word ≡ true → EndsWord rest →
    prefix_len is_word_byte (word ++ rest) ≡ length word
letters_in_front [] rest h ends = ends
letters_in_front (b ∷ bs) rest h ends = grind (arith, nat_tests, letters_in_front bs rest)

-- a word of letters and digits, and the token that it is
pub record IsWord (word : List ℕ) (t : Token) : Type 0 where
  pub letters : list_all is_word_byte word ≡ true
  pub some : 0 < length word
  pub token : word_token word ≡ t

pub word_first : (word rest : List ℕ) (t : Token) → IsWord word t → EndsWord rest →
    tokens_of (word ++ rest) ≡ t ∷ tokens_of rest
word_first word rest t is ends =
    ap tokens_in (rw (take-append_seam word rest, drop-append_seam word rest, is.token) at
    (word_token_first (word ++ rest) (length word) (sym (letters_in_front word rest is.letters ends)) is.some))

digit_is_letter : (b : ℕ) → is_digit b ≡ true → is_word_byte b ≡ true
digit_is_letter b h = grind (arith, nat_tests)

digits_are_letters : (ds : List ℕ) → list_all is_digit ds ≡ true → list_all is_word_byte ds ≡ true
digits_are_letters [] h = refl
digits_are_letters (d ∷ ds) h = grind (arith, nat_tests, digits_are_letters ds)

-- the standard library's model of digits and their value
numeral : IsNumeralModel (λ ds. list_all is_digit ds ≡ true) (read_on 0)
numeral = numerals_by_fold (λ ds. list_all is_digit ds ≡ true) (search rules) read_on (search rules)

pub number_is_word : (n : ℕ) → n < 2 ^ 32 → IsWord (decimal n) (token.Number n)
unfolding word_token
number_is_word n small =
    let fits : n < 2 ^ 64 = omega (arith, small) in
    let digits = digits_decimal numeral n fits in
    record {
      letters = digits_are_letters (decimal n) digits;
      some = decimal_nonempty n fits;
      token = rw (digits, digits_value-decimal numeral n fits, lt-ltb n (2 ^ 32) small) refl;
    }

pub register_is_word : (j : ℕ) → j < 10 → IsWord (114 ∷ decimal j) (token.Register j)
unfolding word_token
register_is_word j small =
    let digit : is_digit (48 + j) ≡ true = grind (arith, nat_tests) in
    rw (decimal_digit j small) (record {
      letters = grind (arith, nat_tests, digit_is_letter);
      some = omega arith;
      token = rw digit (ap token.Register (omega arith));
    })

known : (word : List ℕ) (t : Token) → list_all is_word_byte word ≡ true → nat_lt 0 (length word) ≡ true →
    word_token word ≡ t → IsWord word t
known word t letters some is = record { letters = letters; some = ltb-true 0 (length word) some; token = is }

-- names of operations have at most six letters, so that with marks and a blank they have ten bytes
binary_word : (o : BinOp) → IsWord (binary_name o) (token.Two o) × (length (binary_name o) ≤ 6)
unfolding word_token
binary_word op.And = (known (binary_name op.And) (token.Two op.And) refl refl refl, omega arith)
binary_word o = (known (binary_name o) (token.Two o) refl refl refl, omega arith)

unary_word : (o : UnOp) → IsWord (unary_name o) (token.One o) × (length (unary_name o) ≤ 6)
unfolding word_token
unary_word Not = (known (unary_name Not) (token.One Not) refl refl refl, omega arith)

-- the words that are not names of operations, and `if`
keyword : (t : Token) → nat_lt 0 (length (word_of t)) ≡ true → IsWord (word_of t) t
unfolding word_token
keyword (token.One o) h = let word = unary_word o in word.0
keyword (token.Two o) h = let word = binary_word o in word.0
keyword t h = known (word_of t) t refl h (cc)

-- ASCII bytes, at most this many, with these tokens: wherever they end a word, the text after them does not continue it
abbrev Follows : Bool → List ℕ → Type 0
Follows true rest = EndsWord rest
Follows false rest = Unit {0}

record Writes (word : Bool) (bytes : List ℕ) (most : ℕ) (spell : List Token → List Token) : Type 0 where
  pub ascii : All (λ b. b < 128) bytes
  pub short : length bytes ≤ most
  pub reads : (rest : List ℕ) → Follows word rest → tokens_of (bytes ++ rest) ≡ spell (tokens_of rest)

-- the concatenation of two texts
glue : {xs ys : List ℕ} {m n : ℕ} {f g : List Token → List Token} {a b : Bool} → Writes a xs m f → Writes b ys n g →
    ((rest : List ℕ) → Follows b rest → Follows a (ys ++ rest)) → Writes b (xs ++ ys) (m + n) (λ ts. f (g ts))
glue {xs} {ys} {f = f} x y follows = record {
  ascii = All-append (λ b. b < 128) xs ys x.ascii y.ascii;
  short = omega (arith, length-append xs ys, x.short, y.short);
  reads = λ rest h. ap tokens_of (append_assoc xs ys rest) ∙ x.reads (ys ++ rest) (follows rest h)
      ∙ ap f (y.reads rest h);
}

-- with more room, or before a text that continues no word
roomy : {xs : List ℕ} {m n : ℕ} {f : List Token → List Token} {a : Bool} → Writes a xs m f → m ≤ n → Writes a xs n f
roomy x le = record { ascii = x.ascii; short = omega (arith, x.short, le); reads = x.reads }

ended : {xs : List ℕ} {m n : ℕ} {f : List Token → List Token} → Writes false xs m f → m ≤ n → Writes true xs n f
ended x le = record { ascii = x.ascii; short = omega (arith, x.short, le); reads = λ rest h. x.reads rest tt }

-- letters and digits are ASCII
letters_are_ascii : (word : List ℕ) → list_all is_word_byte word ≡ true → All (λ b. b < 128) word
letters_are_ascii word h = All-weaker (λ b. is_word_byte b ≡ true) (λ b. b < 128) (λ b p. grind (arith, nat_tests))
    word (AllPass-from_list_all is_word_byte word h)

-- words, numbers, registers, blanks and marks
a_word : {word : List ℕ} {t : Token} (most : ℕ) → IsWord word t → length word ≤ most →
    Writes true word most (λ ts. t ∷ ts)
a_word {word} {t} most is short =
    record {
      ascii = letters_are_ascii word is.letters;
      short = short;
      reads = λ rest ends. word_first word rest t is ends;
    }

a_number : (n : ℕ) → n < 2 ^ 32 → Writes true (decimal n) 10 (λ ts. token.Number n ∷ ts)
a_number n small = a_word 10 (number_is_word n small)
    (length-decimal-le 10 n (omega arith) (omega (arith, small)) (omega (arith, small)))

a_register : (j : ℕ) → j < 10 → Writes true (114 ∷ decimal j) 2 (λ ts. token.Register j ∷ ts)
a_register j small =
    let short = length-decimal-le 1 j (omega arith) (omega (arith, small)) (omega (arith, small)) in
    a_word 2 (register_is_word j small) (omega (arith, short))

one_byte : (b : ℕ) (f : List Token → List Token) → b < 128 →
    ((rest : List ℕ) → tokens_of (b ∷ rest) ≡ f (tokens_of rest)) → Writes false (b ∷ []) 1 f
one_byte b f low reads = record {
  ascii = All-cons (λ b. b < 128) b [] low (All-nil (λ b. b < 128));
  short = omega arith;
  reads = λ rest _. reads rest;
}

a_blank : (b : ℕ) → is_blank b ≡ true → b < 128 → Writes false (b ∷ []) 1 (λ ts. ts)
a_blank b is low = one_byte b _ low (λ rest. ap tokens_in (blank_in_front b rest is))

a_mark : (b : ℕ) → is_word_byte b ≡ false → is_blank b ≡ false → (b == 35) ≡ false → b < 128 →
    Writes false (b ∷ []) 1 (λ ts. mark_token b ∷ ts)
a_mark b word blank comment low = one_byte b _ low (λ rest. ap tokens_in (mark_in_front b rest word blank comment))

-- the fixed texts
space : Writes false (codes " ") 1 (λ ts. ts)
space = a_blank 32 refl (omega arith)

new_line : Writes false (codes "\n") 1 (λ ts. ts)
new_line = a_blank 10 refl (omega arith)

opened : Writes false (codes "(") 1 (λ ts. token.Open ∷ ts)
opened = a_mark 40 refl refl refl (omega arith)

closed : Writes false (codes ")") 1 (λ ts. token.Close ∷ ts)
closed = a_mark 41 refl refl refl (omega arith)

comma : Writes false (codes ", ") 2 (λ ts. token.Comma ∷ ts)
comma = glue (a_mark 44 refl refl refl (omega arith)) space (λ _ _. tt)

equals : Writes false (codes " = ") 3 (λ ts. token.Equals ∷ ts)
equals = glue space (glue (a_mark 61 refl refl refl (omega arith)) space (λ _ _. tt)) (λ _ _. tt)

-- at most ten bytes for each node
an_expression : (e : Term) → largest e < 2 ^ 32 → largest_register e < 10 →
    Writes true (printed_expression e) (10 * size e) (spelled e)
an_expression (Literal n) number register = a_number n number
an_expression Identifier number register = a_word 10 (keyword token.Id refl) (omega arith)
an_expression LeftMessage number register = a_word 10 (keyword token.FromLeft refl) (omega arith)
an_expression RightMessage number register = a_word 10 (keyword token.FromRight refl) (omega arith)
an_expression (RegisterValue j) number register = roomy (a_register j register) (omega arith)
an_expression (One o a) number register =
    let word = unary_word o in
    ended (glue (a_word 6 word.0 word.1)
    (glue opened (glue (an_expression a number register) closed (λ _ _. refl)) (λ _ _. tt)) (λ _ _. refl))
    (omega arith)
an_expression (Two o a b) number register =
    let word = binary_word o in
    let first = an_expression a (omega (arith, number)) (omega (arith, register)) in
    let second = an_expression b (omega (arith, number)) (omega (arith, register)) in
    ended (glue (a_word 6 word.0 word.1)
    (glue opened (glue first (glue comma (glue second closed (λ _ _. refl)) (λ _ _. tt)) (λ _ _. refl))
    (λ _ _. tt)) (λ _ _. refl)) (omega arith)
an_expression (Choose c a b) number register =
    let first = an_expression c (omega (arith, number)) (omega (arith, register)) in
    let second = an_expression a (omega (arith, number)) (omega (arith, register)) in
    let third = an_expression b (omega (arith, number)) (omega (arith, register)) in
    ended (glue (a_word 2 (keyword token.If refl) (omega arith)) (glue opened (glue first (glue comma
    (glue second (glue comma (glue third closed (λ _ _. refl)) (λ _ _. tt)) (λ _ _. refl)) (λ _ _. tt))
    (λ _ _. refl)) (λ _ _. tt)) (λ _ _. refl)) (omega arith)

-- up to the end of the line
a_line : (e : Term) → IsSmall e → Writes false (printed_expression e ++ codes "\n") (10 * size e + 1) (spelled e)
a_line e small = glue (an_expression e small.numbers small.registers) new_line (λ _ _. refl)

an_assignment : (j : ℕ) (e : Term) → j < 10 → IsSmall e →
    Writes false (assignment_line j e) (10 * size e + 6) (λ ts. token.Register j ∷ token.Equals ∷ spelled e ts)
an_assignment j e digit small =
    roomy (glue (a_register j digit) (glue equals (a_line e small) (λ _ _. tt)) (λ _ _. refl)) (omega arith)

assignments : (es : List Term) (j : ℕ) → j + length es ≤ 10 → All IsSmall es →
    Writes false (assignment_lines j es) (10 * sum_by size es + 6 * length es) (assigned j es)
assignments [] j few small = record { ascii = All-nil (λ b. b < 128); short = omega arith; reads = λ rest _. refl }
assignments (e ∷ es) j few small =
    roomy (glue (an_assignment j e (omega (arith, few)) (All-head IsSmall e es small))
    (assignments es (j + 1) (omega (arith, few)) (All-tail IsSmall e es small)) (λ _ _. tt))
    (omega (arith, sum_by-cons size e es))

-- a word and the blank or line end after it
spaced : (t : Token) → nat_lt 0 (length (word_of t)) ≡ true →
    Writes false (word_of t ++ codes " ") (length (word_of t) + 1) (λ ts. t ∷ ts)
spaced t some = glue (a_word (length (word_of t)) (keyword t some) (omega arith)) space (λ _ _. refl)

lined : (t : Token) → nat_lt 0 (length (word_of t)) ≡ true →
    Writes false (word_of t ++ codes "\n") (length (word_of t) + 1) (λ ts. t ∷ ts)
lined t some = glue (a_word (length (word_of t)) (keyword t some) (omega arith)) new_line (λ _ _. refl)

a_send : {side : List ℕ} {t : Token} (e : Term) → Writes true side 5 (λ ts. t ∷ ts) → IsSmall e →
    Writes false (send_line side e) (10 * size e + 12) (λ ts. token.Send ∷ t ∷ spelled e ts)
a_send e side small =
    roomy (glue (spaced token.Send refl) (glue side (glue space (a_line e small) (λ _ _. tt)) (λ _ _. refl))
    (λ _ _. tt)) (omega arith)

-- at most ten bytes for each node, and 90 more
a_round : (s : Round) → length s.next ≤ 10 → All IsSmall (terms_of_step s) →
    Writes false (round_lines s) (10 * sum_by size (terms_of_step s) + 90) (block s)
a_round s few small =
    let small_rest = All-tail IsSmall s.left (s.right ∷ s.next) small in
    let left = a_send s.left (a_word 5 (keyword token.Left refl) (omega arith))
    (All-head IsSmall s.left (s.right ∷ s.next) small) in
    let right = a_send s.right (a_word 5 (keyword token.Right refl) (omega arith))
    (All-head IsSmall s.right s.next small_rest) in
    let next = assignments s.next 0 (omega (arith, few)) (All-tail IsSmall s.right s.next small_rest) in
    roomy (glue (lined token.Round refl) (glue left (glue right next (λ _ _. tt)) (λ _ _. tt)) (λ _ _. tt))
    (omega (arith, few, sum_by-cons size s.left (s.right ∷ s.next), sum_by-cons size s.right s.next))

all_left : (xs ys : List Term) → All IsSmall (xs ++ ys) → All IsSmall xs
all_left xs ys h =
    λ i d below. rw (get_or-append xs ys d i below) at (h i d (omega (arith, below, length-append xs ys)))

all_right : (xs ys : List Term) → All IsSmall (xs ++ ys) → All IsSmall ys
all_right [] ys h = h
all_right (x ∷ xs) ys h = all_right xs ys (All-tail IsSmall x (xs ++ ys) h)

-- at most ten registers
abbrev HasFew : Round → Type 0
HasFew s = length s.next ≤ 10

some_rounds : (ss : List Round) → All HasFew ss → All IsSmall (step_terms ss) →
    Writes false (flat_map round_lines ss) (10 * sum_by size (step_terms ss) + 90 * length ss) (blocks ss)
some_rounds [] few small = record { ascii = All-nil (λ b. b < 128); short = omega arith; reads = λ rest _. refl }
some_rounds (s ∷ ss) few small =
    let one = a_round s (All-head HasFew s ss few) (all_left (terms_of_step s) (step_terms ss) small) in
    let others = some_rounds ss (All-tail HasFew s ss few) (all_right (terms_of_step s) (step_terms ss) small) in
    roomy (glue one others (λ _ _. tt)) (omega (arith, sum_by-append size (terms_of_step s) (step_terms ss)))

-- a number of the header, and the next line
a_count : {ys : List ℕ} {most : ℕ} {g : List Token → List Token} (n : ℕ) → n < 2 ^ 32 → Writes false ys most g →
    Writes false (decimal n ++ (codes "\n" ++ ys)) (10 + (1 + most)) (λ ts. token.Number n ∷ g ts)
a_count n small after = glue (a_number n small) (glue new_line after (λ _ _. tt)) (λ _ _. refl)

abbrev header_tokens : ProgramTree → List Token → List Token
header_tokens p ts = token.Rounds ∷ token.Number (length p.steps) ∷ token.Channels ∷ token.Number p.channels
    ∷ token.Registers ∷ token.Number (length p.start) ∷ token.Start ∷ ts

a_header : (p : ProgramTree) → IsWithinLimits p → Writes false (header_lines p) 70 (header_tokens p)
a_header p limits =
    let registers = a_count (length p.start) (omega (arith, limits.few_registers)) (lined token.Start refl) in
    let channels = a_count p.channels (omega (arith, limits.few_channels))
    (glue (spaced token.Registers refl) registers (λ _ _. tt)) in
    let rounds = a_count (length p.steps) (omega (arith, limits.rounds))
    (glue (spaced token.Channels refl) channels (λ _ _. tt)) in
    roomy (glue (spaced token.Rounds refl) rounds (λ _ _. tt)) (omega arith)

a_program : (p : ProgramTree) → IsWithinLimits p → Writes false (printed p) 65535
    (λ ts. header_tokens p (assigned 0 p.start (blocks p.steps (token.Finish ∷ spelled p.finish ts))))
a_program p limits =
    let after_start = all_right p.start (step_terms p.steps ++ p.finish ∷ []) limits.small in
    let start = assignments p.start 0 (omega (arith, limits.few_registers))
    (all_left p.start (step_terms p.steps ++ p.finish ∷ []) limits.small) in
    let few : All HasFew p.steps = λ i d h. omega (arith, limits.each_register i d h, limits.few_registers) in
    let steps = some_rounds p.steps few (all_left (step_terms p.steps) (p.finish ∷ []) after_start) in
    let finish =
    glue (spaced token.Finish refl)
    (a_line p.finish (All-head IsSmall p.finish []
    (all_right (step_terms p.steps) (p.finish ∷ []) after_start))) (λ _ _. tt) in
    let sizes = sum_by-append size p.start (step_terms p.steps ++ p.finish ∷ []) in
    let others = sum_by-append size (step_terms p.steps) (p.finish ∷ []) in
    roomy (glue (a_header p limits) (glue start (glue steps finish (λ _ _. tt)) (λ _ _. tt)) (λ _ _. tt))
    (omega (arith, sizes, others, sum_by-cons size p.finish [], limits.nodes, limits.rounds, limits.few_registers))

pub printed_length : (p : ProgramTree) → IsWithinLimits p → length (printed p) < LONGEST_TEXT
printed_length p limits = let text = a_program p limits in omega (arith, text.short)

pub printed_reads : (p : ProgramTree) → IsWithinLimits p → Reads (printed p) p
unfolding lexemes_of
printed_reads p limits =
    let text = a_program p limits in
    record {
      short = omega (arith, text.short);
      ascii = text.ascii;
      tokens = ap tokens_of (sym (append-nil (printed p))) ∙ text.reads [] tt;
      limits = limits;
    }
