-- The text of a formula reads as the formula.
use Rattle.std.proofs.Common.{◌≡◌, ◌==◌, ℕ, zero, suc, ◌+◌, ◌-◌, ◌*◌, ◌/◌, ◌%◌, ◌^◌, ◌<◌, Bool, true, false, not, ◌&&◌}
use Rattle.std.proofs.Common.{◌||◌, cond, List, [], ◌∷◌, ◌++◌, map, All, length, get_or, drop, take, codes, Option}
use Rattle.std.proofs.Common.{None, Some, option_map, unwrap_or, ltb, refl, sym, ap, ◌∙◌, subst, arith}
use Rattle.std.proofs.Common.{rules, append_assoc}
use Rattle.std.specs.Fmt.{decimal, digit_glyph, digits, digits_onto}
use Rattle.std.specs.List.{range_with_len, flat_map, filter, position_or_len, after_first, join_with_byte}
use Rattle.std.specs.Str.{all_ascii_digits}
use Rattle.std.specs.Str.Parse.{digits_value}
use Rattle.std.proofs.Math.Seq.{take-append_seam, drop-append-add}
use Rattle.std.proofs.lemmas.Bool.{ne_eqb, lt-ltb, le-leb}
use Rattle.std.proofs.lemmas.Fmt.{decimal_nonempty, digits_decimal, digits_value-decimal}
use Rattle.std.proofs.lemmas.List.Elements.{All-nil, All-cons, All-head, All-tail, All-append, All-map, All-weaker}
use Rattle.std.proofs.lemmas.List.Splits.{slice_split_at, slice_split_none}
use Rattle.std.proofs.lemmas.Option.{slice_get_within, slice_get-get_or, same_Some}
use Rattle.std.proofs.lemmas.Str.Parse.{IsNumeralModel, numerals_by_value, tells_all_ascii_digits, not_in_digits}
use Rattle.win_index.specs.Laws.{WindowOfNumber, PrefixesHaveNumbers}
use Rattle.win_index.specs.Windows.{windows, number_of}
use Rattle.channel_tables.specs.Apart.{extra}
use Rattle.ring_problems.specs.declared.pattern.Entry.{Entry}
use Rattle.ring_problems.specs.declared.pattern.Entry.TheVariants.{Wildcard, Channel}
use Rattle.ring_problems.specs.declared.pattern.Pattern.{Pattern}
use Rattle.ring_problems.specs.PatternTexts.{entries, entry_text, pattern_text, patterns_text}
use Rattle.table_formula.specs.declared.literal.Literal.{Literal}
use Rattle.table_formula.specs.Problems.{Problem}
use Rattle.table_formula.specs.Formula.{windows_of, tuples_of, variable_count, some_channel, conflicts_of, not_both}
use Rattle.table_formula.specs.Formula.{not_too_close, IsPair, pattern_clauses, apart_formula, formula}
use Rattle.table_formula.specs.Texts.{literal_text, clause_text, clauses_text, patterns_line}
use Rattle.table_formula.specs.Dimacs.{is_feed, is_space, words_of, number_in, literal_of, literal_in, is_zero}
use Rattle.table_formula.specs.Dimacs.{with_literal, clauses_in, after_comment, States}
use Rattle.table_formula.specs.Limits.{IsWithinLimits}
use Rattle.table_formula.specs.Laws.{FormulaTextIsRead, OneReading}
use Rattle.table_formula.proofs.ClauseLists.{all_below, all_flat, of_windows, of_tuples, formula_parts}
use Rattle.table_formula.proofs.PatternClauses.{patterns_within}
use Rattle.table_formula.proofs.Numbered.{some_within, pair_within, all_pairs}

-- a word stands alone between spaces
record IsWord (word : List ℕ) : Type 0 where
  some : 0 < length word
  plain : All (λ b. is_space b ≡ false) word

next_word : (word : List ℕ) (space : ℕ) (rest : List ℕ) → IsWord word → is_space space ≡ true →
    words_of (word ++ space ∷ rest) ≡ word ∷ words_of rest
next_word word space rest is ends =
    ap (filter (λ w. ltb 0 (length w))) (slice_split_at is_space word space rest is.plain ends)
    ∙ ap (λ b. cond b (word ∷ words_of rest) (words_of rest)) (lt-ltb 0 (length word) is.some)

last_word : (word : List ℕ) → IsWord word → words_of word ≡ word ∷ []
last_word word is =
    ap (filter (λ w. ltb 0 (length w))) (slice_split_none is_space word is.plain)
    ∙ ap (λ b. cond b (word ∷ []) []) (lt-ltb 0 (length word) is.some)

-- the words of numbers
digits_model : IsNumeralModel (λ ds. all_ascii_digits ds ≡ true) (digits_value 10)
digits_model = numerals_by_value (λ ds. all_ascii_digits ds ≡ true) tells_all_ascii_digits

no_spaces : (word : List ℕ) → all_ascii_digits word ≡ true → All (λ b. is_space b ≡ false) word
no_spaces [] all = All-nil (λ b. is_space b ≡ false)
no_spaces (c ∷ cs) all =
    let parts = tells_all_ascii_digits.parts c cs all in
    All-cons (λ b. is_space b ≡ false) c cs
    (λ i. ne_eqb c 32 (λ e. omega (arith, parts.0.0, e)) i || ne_eqb c 10 (λ e. omega (arith, parts.0.0, e)) i)
    (no_spaces cs parts.1)

number_word : (n : ℕ) → n < 2 ^ 64 → IsWord (decimal n)
number_word n small = record {
  some = decimal_nonempty n small;
  plain = no_spaces (decimal n) (digits_decimal digits_model n small);
}

number_read : (n : ℕ) → n < 2 ^ 64 → number_in (decimal n) ≡ Some n
number_read n small =
    λ i. cond (lt-ltb 0 (length (decimal n)) (decimal_nonempty n small) i && digits_decimal digits_model n small i)
    (Some (digits_value-decimal digits_model n small i)) None

-- the word of a literal
spelled : ℕ → Bool → List ℕ
spelled variable is_positive = cond is_positive [] (codes "-") ++ decimal (variable + 1)

spelled_word : (v : ℕ) (b : Bool) → v + 1 < 2 ^ 64 → IsWord (spelled v b)
unfolding spelled
spelled_word v true small = number_word (v + 1) small
spelled_word v false small =
    let is = number_word (v + 1) small in
    record { some = omega arith; plain = All-cons (λ b. is_space b ≡ false) 45 (decimal (v + 1)) refl is.plain }

counted : (V v : ℕ) (b : Bool) → v < V →
    literal_of V b (Some (v + 1)) ≡ Some (record { variable = v; is_positive = b })
counted V v b below =
    let less : v + 1 - 1 ≡ v = omega arith in
    λ i. cond (le-leb 1 (v + 1) (omega arith) i && le-leb (v + 1) V (omega arith) i)
    (Some (record { variable = less i; is_positive = b })) None

literal_read : (V v : ℕ) (b : Bool) → v < V → V < 2 ^ 64 →
    (is_zero (number_in (spelled v b)) ≡ false)
    × (literal_in V (spelled v b) ≡ Some (record { variable = v; is_positive = b }))
unfolding spelled
literal_read V v true below small =
    let n : ℕ = v + 1 in
    let is = number_read n (omega arith) in
    let digits = digits_decimal digits_model n (omega arith) in
    let unsigned : (get_or (decimal n) 0 0 == 45) ≡ false =
    ne_eqb (get_or (decimal n) 0 0) 45
    (not_in_digits digits_model (decimal n) 45 digits (λ range. omega (arith, range.0)) 0 (decimal_nonempty n (omega arith))) in (
      ap is_zero is ∙ ne_eqb n 0 (λ e. omega arith),
      ap (λ b. cond b (literal_of V false (number_in (drop 1 (decimal n)))) (literal_of V true (number_in (decimal n)))) unsigned
          ∙ ap (literal_of V true) is ∙ counted V v true below,
    )
literal_read V v false below small =
    let n : ℕ = v + 1 in (
      ap (λ b. is_zero (cond (b && false) (Some (digits_value 10 (45 ∷ decimal n))) None))
          (lt-ltb 0 (length (45 ∷ decimal n)) (omega arith)),
      ap (literal_of V false) (number_read n (omega arith)) ∙ counted V v false below,
    )

-- a clause in front of others
clause_with : (l : Literal) (clause : List Literal) (others : Option (List (List Literal))) →
    with_literal (Some l) (option_map (λ cs. clause ∷ cs) others) ≡ option_map (λ cs. (l ∷ clause) ∷ cs) others
clause_with l clause None = refl
clause_with l clause (Some cs) = refl

literal_word : (l : Literal) (rest : List ℕ) → l.variable + 1 < 2 ^ 64 →
    words_of (literal_text l ++ rest) ≡ spelled l.variable l.is_positive ∷ words_of rest
unfolding spelled
literal_word l rest small =
    let sign : List ℕ = cond l.is_positive [] (codes "-") in
    let number : List ℕ = decimal (l.variable + 1) in
    let text : literal_text l ++ rest ≡ (sign ++ number) ++ 32 ∷ rest = simp append_assoc refl in
    ap words_of text ∙ next_word (sign ++ number) 32 rest (spelled_word l.variable l.is_positive small) refl

clause_read : (V : ℕ) (clause : List Literal) (rest : List ℕ) → V < 2 ^ 64 → All (λ l. l.variable < V) clause →
    clauses_in V (words_of (clause_text clause ++ rest))
    ≡ option_map (λ clauses. clause ∷ clauses) (clauses_in V (words_of rest))
clause_read V [] rest small below =
    ap (clauses_in V) (next_word (48 ∷ []) 10 rest (record {
      some = omega arith;
      plain = All-cons (λ b. is_space b ≡ false) 48 [] refl (All-nil (λ b. is_space b ≡ false));
    }) refl)
clause_read V (l ∷ clause) rest small below =
    let P : Literal → Type 0 = λ (l : Literal). l.variable < V in
    let first : l.variable < V = All-head P l clause below in
    let is = literal_read V l.variable l.is_positive first small in
    let after : List ℕ = clause_text clause ++ rest in
    let others = clauses_in V (words_of after) in
    let text : clause_text (l ∷ clause) ++ rest ≡ literal_text l ++ after = simp append_assoc refl in
    ap (λ (t : List ℕ). clauses_in V (words_of t)) text
    ∙ ap (clauses_in V) (literal_word l after (omega arith))
    ∙ ap (λ b. cond b (option_map (λ cs. [] ∷ cs) others) (with_literal (literal_in V (spelled l.variable l.is_positive)) others)) is.0
    ∙ ap (λ o. with_literal o others) is.1
    ∙ ap (with_literal (Some l)) (clause_read V clause rest small (All-tail P l clause below))
    ∙ clause_with l clause (clauses_in V (words_of rest))

clauses_read : (V : ℕ) (clauses : List (List Literal)) → V < 2 ^ 64
    → All (All (λ (l : Literal). l.variable < V)) clauses →
    clauses_in V (words_of (flat_map clause_text clauses)) ≡ Some clauses
clauses_read V [] small below = refl
clauses_read V (clause ∷ clauses) small below =
    let P : List Literal → Type 0 = All (λ (l : Literal). l.variable < V) in
    clause_read V clause (flat_map clause_text clauses) small (All-head P clause clauses below)
    ∙ ap (option_map (λ cs. clause ∷ cs)) (clauses_read V clauses small (All-tail P clause clauses below))

-- the first line of a text
line_len : (line rest : List ℕ) → All (λ b. is_feed b ≡ false) line →
    position_or_len is_feed (line ++ 10 ∷ rest) ≡ length line
line_len [] rest plain = refl
line_len (b ∷ line) rest plain =
    let P : ℕ → Type 0 = λ b. is_feed b ≡ false in
    (λ i. cond (not (All-head P b line plain i)) (1 + line_len line rest (All-tail P b line plain) i) 0) ∙ omega arith

no_feed : (b : ℕ) → is_space b ≡ false → is_feed b ≡ false
no_feed b plain = or_false (b == 32) (is_feed b) plain
  where
    or_false : (x y : Bool) → (x || y) ≡ false → y ≡ false
    or_false false y h = h
    or_false true y h = cc

-- the two numbers of the first line
first_line : ℕ → ℕ → List ℕ
first_line m n = codes "p cnf " ++ (decimal m ++ 32 ∷ decimal n)

first_line_plain : (m n : ℕ) → m < 2 ^ 64 → n < 2 ^ 64 → All (λ b. is_feed b ≡ false) (first_line m n)
unfolding first_line
first_line_plain m n m_small n_small =
    let P : ℕ → Type 0 = λ b. is_feed b ≡ false in
    let number : (k : ℕ) → k < 2 ^ 64 → All P (decimal k) =
    λ k small. All-weaker (λ b. is_space b ≡ false) P no_feed (decimal k) (number_word k small).plain in
    All-append P (codes "p cnf ") (decimal m ++ 32 ∷ decimal n) (search rules)
    (All-append P (decimal m) (32 ∷ decimal n) (number m m_small) (All-cons P 32 (decimal n) refl (number n n_small)))

sizes_read : (m n : ℕ) → m < 2 ^ 64 → n < 2 ^ 64 →
    map number_in (words_of (drop 6 (first_line m n))) ≡ Some m ∷ Some n ∷ []
unfolding first_line
sizes_read m n m_small n_small =
    ap (map number_in) (next_word (decimal m) 32 (decimal n) (number_word m m_small) refl
    ∙ ap (λ ws. decimal m ∷ ws) (last_word (decimal n) (number_word n n_small)))
    ∙ (λ i. number_read m m_small i ∷ number_read n n_small i ∷ [])

-- a text with such a first line
text_read : (text body : List ℕ) (m : ℕ) (clauses : List (List Literal)) → m < 2 ^ 64 → length clauses < 2 ^ 64 →
    text ≡ first_line m (length clauses) ++ 10 ∷ body → clauses_in m (words_of body) ≡ Some clauses →
    States text m clauses
unfolding first_line
text_read text body m clauses m_small n_small is body_read =
    let line : List ℕ = first_line m (length clauses) in
    let plain = first_line_plain m (length clauses) m_small n_small in
    let end : position_or_len is_feed text ≡ length line = ap (position_or_len is_feed) is ∙ line_len line body plain in
    record {
      format = ap (take 6) is;
      sizes = ap (λ (l : List ℕ). map number_in (words_of (drop 6 l)))
          ((λ i. take (end i) (is i)) ∙ take-append_seam line (10 ∷ body))
          ∙ sizes_read m (length clauses) m_small n_small;
      body = ap (λ (l : List ℕ). clauses_in m (words_of l))
          ((λ i. drop (end i + 1) (is i)) ∙ drop-append-add line (10 ∷ body) 1) ∙ body_read;
    }

-- a decimal number has no line feed
glyph_plain : (small : Bool) (d : ℕ) → is_feed (cond small (48 + d) (87 + d)) ≡ false
glyph_plain true d = ne_eqb (48 + d) 10 (λ e. omega arith)
glyph_plain false d = ne_eqb (87 + d) 10 (λ e. omega arith)

abbrev IsPlain : List ℕ → Type 0
IsPlain = All (λ b. is_feed b ≡ false)

either : (b : Bool) (xs ys : List ℕ) → IsPlain xs → IsPlain ys → IsPlain (cond b xs ys)
either true xs ys first second = first
either false xs ys first second = second

digits_plain : (k n : ℕ) (acc : List ℕ) → IsPlain acc → IsPlain (digits_onto k 10 false n acc)
digits_plain zero n acc plain = plain
digits_plain (suc k) n acc plain =
    let P : ℕ → Type 0 = λ b. is_feed b ≡ false in
    let more = All-cons P (digit_glyph false (n % 10)) acc (glyph_plain (ltb (n % 10) 10) (n % 10)) plain in
    either (n / 10 == 0) _ _ more (digits_plain k (n / 10) (digit_glyph false (n % 10) ∷ acc) more)

decimal_plain : (n : ℕ) → IsPlain (decimal n)
unfolding digits
decimal_plain n = digits_plain 64 n [] (All-nil (λ b. is_feed b ≡ false))

-- and so have the texts of patterns
entry_plain : (e : Entry) → IsPlain (entry_text e)
entry_plain Wildcard = All-cons (λ b. is_feed b ≡ false) 42 [] refl (All-nil (λ b. is_feed b ≡ false))
entry_plain (Channel c) = decimal_plain c

of_each : {X : Type 0} (P : X → Type 0) (xs : List X) → ((x : X) → P x) → All P xs
of_each P xs each k d lt = each (get_or xs k d)

joined_plain : (parts : List (List ℕ)) → All IsPlain parts → IsPlain (join_with_byte 44 parts)
joined_plain [] plain = All-nil (λ b. is_feed b ≡ false)
joined_plain (part ∷ []) plain = All-head IsPlain part [] plain
joined_plain (part ∷ other ∷ parts) plain =
    let P : ℕ → Type 0 = λ b. is_feed b ≡ false in
    All-append P part (44 ∷ join_with_byte 44 (other ∷ parts)) (All-head IsPlain part (other ∷ parts) plain)
    (All-cons P 44 (join_with_byte 44 (other ∷ parts)) refl (joined_plain (other ∷ parts) (All-tail IsPlain part (other ∷ parts) plain)))

patterns_plain : (patterns : List Pattern) → IsPlain (patterns_text patterns)
patterns_plain patterns =
    let P : ℕ → Type 0 = λ b. is_feed b ≡ false in
    all_flat P (λ pattern. codes " " ++ pattern_text pattern) patterns (λ k d within.
    let pattern = get_or patterns k d in
    All-cons P 32 (pattern_text pattern) refl
    (joined_plain (map entry_text (entries pattern)) (All-map IsPlain entry_text (entries pattern) (of_each (λ e. IsPlain (entry_text e)) (entries pattern) entry_plain))))

-- the text after the comment
after_line : (line rest : List ℕ) → IsPlain line → after_first is_feed (line ++ 10 ∷ rest) ≡ rest
after_line line rest plain =
    ap (λ n. drop (n + 1) (line ++ 10 ∷ rest)) (line_len line rest plain) ∙ drop-append-add line (10 ∷ rest) 1

without_comment : (patterns : List Pattern) (rest : List ℕ) →
    after_comment (patterns_line patterns ++ (codes "p " ++ rest)) ≡ codes "p " ++ rest
without_comment [] rest = refl
without_comment (x ∷ xs) rest =
    let P : ℕ → Type 0 = λ b. is_feed b ≡ false in
    let line : List ℕ = codes "c forbid" ++ patterns_text (x ∷ xs) in
    let text : patterns_line (x ∷ xs) ++ (codes "p " ++ rest) ≡ line ++ 10 ∷ (codes "p " ++ rest) =
    simp append_assoc refl in
    ap (after_first is_feed) text
    ∙ after_line line (codes "p " ++ rest)
    (All-append P (codes "c forbid") (patterns_text (x ∷ xs)) (search rules) (patterns_plain (x ∷ xs)))

-- the variables of the clauses of a formula
module _ (has_prefix : PrefixesHaveNumbers) (window_at : WindowOfNumber) where
  number_below : (k m : ℕ) (window : List ℕ) (o : Option ℕ) → number_of k m window ≡ o → 0 < length (windows k m) →
      unwrap_or o 0 < length (windows k m)
  number_below k m window None is some = some
  number_below k m window (Some n) is some = slice_get_within (windows k m) n window (window_at k m n window is)

  apart_within : (p : Problem) → All (All (λ (l : Literal). l.variable < variable_count p)) (apart_formula p)
  unfolding apart_formula
  apart_within p =
      let P : List Literal → Type 0 = All (λ (l : Literal). l.variable < variable_count p) in
      let windows_count : ℕ = length (windows_of p) in
      All-append P (of_windows p) (of_tuples p)
      (All-map P (some_channel p) (range_with_len 0 windows_count)
      (All-weaker (λ w. w < windows_count) (λ w. P (some_channel p w)) (λ w below. some_within p w below)
      (range_with_len 0 windows_count) (all_below windows_count)))
      (all_flat P (not_too_close p) (tuples_of p) (λ k d within.
      let tuple = get_or (tuples_of p) k d in
      let prefix = has_prefix (2 * p.rounds + 1) (extra p.separation) p.ids k tuple
      (slice_get-get_or (tuples_of p) k d within) in
      let some : 0 < windows_count = omega (arith, slice_get_within (windows_of p) _ _ prefix) in
      All-map P (not_both p tuple) (conflicts_of p)
      (All-weaker (IsPair p) (λ c. P (not_both p tuple c))
      (λ c is. pair_within p tuple c (number_below _ p.ids _ _ refl some) (number_below _ p.ids _ _ refl some) is.first is.second)
      (conflicts_of p) (all_pairs p))))

  all_within : (p : Problem) → All (All (λ (l : Literal). l.variable < variable_count p)) (formula p)
  all_within p =
      let P : List Literal → Type 0 = All (λ (l : Literal). l.variable < variable_count p) in
      subst (All P) (sym (formula_parts p))
      (All-append P (apart_formula p) (pattern_clauses p) (apart_within p) (patterns_within p))

  states : (p : Problem) → IsWithinLimits p → States (clauses_text p) (variable_count p) (formula p)
  unfolding first_line
  states p limits =
      let small : variable_count p < 2 ^ 64 = omega (arith, limits.few_variables) in
      text_read (clauses_text p) (flat_map clause_text (formula p)) (variable_count p) (formula p) small
      (omega (arith, limits.few_clauses)) (simp append_assoc refl)
      (clauses_read (variable_count p) (formula p) small (all_within p))

  pub read : FormulaTextIsRead
  read p limits =
      subst (λ text. States text (variable_count p) (formula p))
      (sym (without_comment p.forbidden (drop 2 (clauses_text p)))) (states p limits)

pub one_reading : OneReading
one_reading text m n a b first second =
    let body = after_comment text in
    let variables : m ≡ n = same_Some m n (ap (λ xs. get_or xs 0 None) (sym first.sizes ∙ second.sizes)) in (
      variables,
      same_Some a b (sym first.body ∙ ap (λ v. clauses_in v (words_of (after_first is_feed body))) variables
          ∙ second.body),
    )
