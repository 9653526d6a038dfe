-- What a text reads as, and its fault, from how reading it from the left ends: reading stops at the first fault, and
-- returns a program exactly if the tokens spell it within the limits.
use Rattle.std.proofs.Common.{◌≡◌, ℕ, ◌≤◌, List, [], ◌∷◌, ◌++◌, Option, Some, append_assoc, append-nil, refl, sym}
use Rattle.std.proofs.Common.{subst, ap, ◌∙◌, arith, inl, inr, true, ◌≢◌, ◌-◌, ◌<◌, length}
use Rattle.std.specs.Prelude.{All, sum_by, Result, Ok, Err, IfOk, IfErr}
use Rattle.std.specs.List.{list_all}
use Rattle.std.proofs.lemmas.Bool.Decides.{nat_tests}
use Rattle.std.proofs.lemmas.List.{length-take-le, get_or-take}
use Rattle.std.proofs.lemmas.List.Sums.{sum_by-append}
use Rattle.node_program.specs.declared.limits.TheConstants.{MAX_DEPTH, MAX_NODES}
use Rattle.node_lang.specs.declared.limits.TheConstants.{LONGEST_TEXT}
use Rattle.node_lang.specs.declared.expected.Expected.{Expected}
use Rattle.node_lang.specs.declared.fault.FaultKind.{FaultKind}
use Rattle.node_lang.specs.declared.fault.FaultKind.TheVariants as kind
use Rattle.node_lang.specs.declared.fault.Stop.{Stop}
use Rattle.node_lang.specs.declared.parser.Parser.{Parser}
use Rattle.node_lang.specs.declared.token.Token.{Token}
use Rattle.node_lang.specs.declared.token.Token.TheVariants as token
use Rattle.node_program.specs.Term.{ProgramTree, size, terms}
use Rattle.node_program.specs.Limits.{IsWithinLimits}
use Rattle.node_lang.specs.Lexemes.{Lexeme, tokens_in, lexemes_of, lexemes_from}
use Rattle.node_lang.specs.Grammar.{spelling, Reads}
use Rattle.node_lang.specs.Reading.{Read, Got, Fault, expression, program}
use Rattle.node_lang.specs.Viable.{Stands, unknown, large, out_of_range, unexpected, too_deep, too_many, FirstFault}
use Rattle.node_lang.specs.Viable.{Mark, node, one_at, nodes_at}
use Rattle.node_lang.specs.Following.{FollowsAt}
use Rattle.node_lang.specs.Faults.{FaultsAt, IsFirstHighByte, too_long, not_ascii, in_lexemes}
use Rattle.node_lang.specs.Laws.{ReadingStopsAtFirstFault, FirstFaultStopsReading, OneReading, OneTextFault}
use Rattle.node_lang.specs.Laws.{ReadableTextsAreRead, ReadableTextsHaveNoFault, ReadTextsAreReadable}
use Rattle.node_lang.specs.Parsing.{Gives, StopsAt}
use Rattle.node_lang.proofs.Rest.{Rest, Nothing, AnExpression, ANumber, depth_next, expected_of, counted, Met, Stops}
use Rattle.node_lang.proofs.Rest.{Goes, limited, checked, meets, step, a_program, read, went, read_next, program_read}
use Rattle.node_lang.proofs.SmallTokens.{is_small, small_tokens}
use Rattle.node_lang.proofs.Marks.{Shallow, shallow_at, Fine, fine, program_matches}
use Rattle.node_lang.proofs.Expecting.{follows_here, follows_later}
use Rattle.node_lang.proofs.Cursors.{InRange, Cursor, first_cursor, next_of, none_of, next_nodes, whole_marks, whole_nodes}
use Rattle.node_lang.proofs.Cursors.{whole, Says, says, stands_met}

-- reading goes on at a token that can come next, where it is within the limits
goes_within : (w v : Rest) (n : ℕ) (t : Token) → depth_next w ≤ MAX_DEPTH → counted w n ≤ MAX_NODES →
    InRange w t → limited w n t v ≡ Goes v
goes_within (AnExpression d w) v n t shallow few range = grind (arith, nat_tests, shallow, few)
goes_within (ANumber low high w) v n (token.Number k) shallow few range = grind (arith, nat_tests, range.0, range.1)
goes_within w v n t shallow few range = refl

-- so it goes on at each token of a program within the limits
goes_in_program : {before : List Token} {n : ℕ} {w : Rest} (t : Token) (ts : List Token) → Cursor before n w →
    (q : ProgramTree) → IsWithinLimits q → spelling q ≡ before ++ t ∷ ts →
    (v : Rest) × (meets w n t ≡ Goes v)
goes_in_program {n = n} {w = w} t ts p q limits e =
    let next = next_of t ts p q limits.each_register e in
    let matches = program_matches q in
    let here : Mark = node t (depth_next w) in
    let left = next.after.left in
    let shallow : Shallow (p.marks ++ here ∷ left) =
    subst Shallow (next.after.are ∙ append_assoc p.marks (here ∷ []) left) (matches.shallow limits.small) in
    let all = sym (ap nodes_at next.after.are) ∙ matches.nodes in
    let parts = sum_by-append (λ (m : Mark). one_at m.depth) (p.marks ++ here ∷ []) left in
    let few : counted w n ≤ MAX_NODES = omega (arith, all, parts, next_nodes t p, limits.nodes) in (
      next.rest,
      ap (checked w n t) next.steps
          ∙ goes_within w next.rest n t (shallow_at p.marks here left shallow) few (next.range limits),
    )

-- the result is right: a program at whose end reading is, or the first fault
abbrev pub Answers : List Token → List Lexeme → Read ProgramTree → Type 0
Answers before ls (Got p count left) = Cursor (before ++ tokens_in ls) count (Nothing p)
Answers before ls (Fault k e from) = FirstFault before ls k from × FollowsAt before ls from e

-- reading these lexemes after these tokens returns the first fault, or the program within the limits, whichever there
-- is
pub record Judges (before : List Token) (ls : List Lexeme) (r : Read ProgramTree) : Type 0 where
  pub answers : Answers before ls r
  pub first : (k : FaultKind) (from : ℕ) → FirstFault before ls k from → (e : Expected) × (r ≡ Fault k e from)
  pub reads : (p : ProgramTree) → IsWithinLimits p → spelling p ≡ before ++ tokens_in ls →
      r ≡ Got p (sum_by size (terms p)) []

-- where something is left, the end of the text is a fault
at_end : {before : List Token} {n : ℕ} {w : Rest} → Cursor before n w →
    ((p : ProgramTree) → w ≡ Nothing p → ⊥) → Judges before [] (Fault kind.EndOfText (expected_of w) 0)
at_end {before} {w = w} p some = record {
  answers = (
    (refl, refl, λ h. some h.program (none_of p h.program h.each_register (sym h.spells))),
    follows_here p [],
  );
  first = λ k from f. (expected_of w, λ i. Fault (sym f.0 i) (expected_of w) (sym f.1 i));
  reads = λ q limits e. absurd (some q (none_of p q limits.each_register (e ∙ append-nil before)));
}

-- where nothing is left, it is none
all_read : {before : List Token} {n : ℕ} {q : ProgramTree} → Cursor before n (Nothing q) → Judges before [] (Got q n [])
all_read {before} {n} {q} p = record {
  answers = subst (λ ts. Cursor ts n (Nothing q)) (sym (append-nil before)) p;
  first = λ k from f. absurd (f.2 (record { program = q; each_register = p.ends.each_register; spells = whole p }));
  reads = λ r limits e.
      let ends = none_of p r limits.each_register (e ∙ append-nil before) in
      let same : q ≡ r = cc in
      λ i. Got (same i) ((sym (whole_nodes p) ∙ ap (λ p. sum_by size (terms p)) same) i) [];
}

-- a result that is right after a token without a fault is right before it
judged_through : {before : List Token} (l : Lexeme) (ls : List Lexeme) →
    ((k : FaultKind) → Stands before l.token k → ⊥) → (r : Read ProgramTree) →
    Judges (before ++ l.token ∷ []) ls r → Judges before (l ∷ ls) r
judged_through {before} l ls clean r h = record {
  answers = answers r h.answers;
  first = λ k from f. elim f [ inl here ↦ absurd (clean k here.0) | inr there ↦ h.first k from there.1 ];
  reads = λ p limits e. h.reads p limits (e ∙ sym (append_assoc before (l.token ∷ []) (tokens_in ls)));
}
  where
    answers : (r : Read ProgramTree) → Answers (before ++ l.token ∷ []) ls r → Answers before (l ∷ ls) r
    answers (Got p count left) h =
        subst (λ ts. Cursor ts count (Nothing p)) (append_assoc before (l.token ∷ []) (tokens_in ls)) h
    answers (Fault k e from) h = (inr (clean, h.0), follows_later l h.1)

-- at a token, reading stops at the first fault or goes on
judged_met : {before : List Token} {n : ℕ} {w : Rest} (l : Lexeme) (ls : List Lexeme) → Cursor before n w →
    (m : Met) → meets w n l.token ≡ m → Says before (counted w n) l.token m →
    ((v : Rest) → Cursor (before ++ l.token ∷ []) (counted w n) v →
    Judges (before ++ l.token ∷ []) ls (read v (counted w n) ls)) →
    Judges before (l ∷ ls) (went (expected_of w) (counted w n) l.from ls m)
judged_met {w = w} l ls p (Stops k) e here more = record {
  answers = (inl (here, refl), follows_here p (l ∷ ls));
  first = λ j cursor f. elim f [
    | inl there ↦ let met = sym e ∙ stands_met w l.token j p there.0 in let same : k ≡ j = cc in
        (expected_of w, λ i. Fault (same i) (expected_of w) (sym there.1 i))
    | inr there ↦ absurd (there.0 k here)
  ];
  reads = λ q limits spelt.
      let goes = goes_in_program l.token (tokens_in ls) p q limits spelt in
      let met : Stops k ≡ Goes goes.0 = sym e ∙ goes.1 in absurd (cc);
}
judged_met {w = w} l ls p (Goes v) e cursor more =
    judged_through l ls (λ k stands. let met = sym e ∙ stands_met w l.token k p stands in
    cc) (read v _ ls) (more v cursor)

-- so every reading of the rest is right
judged : (ls : List Lexeme) {before : List Token} {n : ℕ} (w : Rest) → Cursor before n w → Judges before ls (read w n ls)
unfolding expression
judged [] (Nothing q) p = all_read p
judged [] w p = at_end p (λ q e. cc)
judged (l ∷ ls) {before} {n} w p =
    subst (Judges before (l ∷ ls)) (sym (read_next w n l.from l.token ls))
    (judged_met l ls p (meets w n l.token) refl (says w l.token p) (λ v cursor. judged ls v cursor))

-- and so is that of a program
program_judged : (ls : List Lexeme) (r : Read ProgramTree) → program 0 ls ≡ r → Judges [] ls r
program_judged ls r e = subst (Judges [] ls) (sym (program_read 0 ls) ∙ e) (judged ls a_program first_cursor)

-- the fault at which reading stops is the first fault
pub first_fault_of : ReadingStopsAtFirstFault
first_fault_of ls k e from read = let judges = program_judged ls (Fault k e from) read in judges.answers

-- and reading stops at every first fault
pub stops_at_first_fault : FirstFaultStopsReading
stops_at_first_fault ls = let judges = program_judged ls (program 0 ls) refl in judges.first

-- reading that goes on after many nodes goes on after fewer
goes_sooner : (w v : Rest) (n m : ℕ) (t : Token) (o : Option Rest) → n ≤ m → checked w m t o ≡ Goes v →
    (checked w n t o ≡ Goes v) × (counted w n ≤ counted w m)
goes_sooner (AnExpression d w) v n m t (Some u) less e = (grind (arith, nat_tests, less, e), omega (arith, less))
goes_sooner (ANumber low high w) v n m (token.Number k) (Some u) less e = (e, less)
goes_sooner w v n m t o less e = (e, omega (arith, less))

-- so a program that is read after many nodes is read after fewer
read_sooner : (ls : List Lexeme) {left : List Lexeme} (w : Rest) (n m : ℕ) {count : ℕ} {p : ProgramTree} →
    n ≤ m → read w m ls ≡ Got p count left →
    (c : ℕ) × (read w n ls ≡ Got p c left)
unfolding expression
read_sooner [] (Nothing q) n m less e = (n, cc)
read_sooner [] w n m less e = absurd (cc)
read_sooner (l ∷ ls) {left} w n m {count} {p} less e =
    elim (meets w m l.token)
    as (λ r. meets w m l.token ≡ r → went (expected_of w) (counted w m) l.from ls r ≡ Got p count left →
    (c : ℕ) × (read w n (l ∷ ls) ≡ Got p c left)) [
      | Stops k ↦ λ met e. absurd (cc)
      | Goes v ↦ λ met e.
          let goes = goes_sooner w v n m l.token (step w l.token) less met in
          let rest = read_sooner ls v (counted w n) (counted w m) goes.1 e in
          (rest.0, read_next w n l.from l.token ls ∙ ap (went (expected_of w) (counted w n) l.from ls) goes.0 ∙ rest.1)
    ] refl (sym (read_next w m l.from l.token ls) ∙ e)

-- these lexemes spell a program within the limits
pub record SpellsProgram (ls : List Lexeme) (p : ProgramTree) : Type 0 where
  pub tokens : tokens_in ls ≡ spelling p
  pub limits : IsWithinLimits p

pub read_is_spelt : (p : ProgramTree) (nodes count : ℕ) (ls left : List Lexeme) →
    list_all is_small (tokens_in ls) ≡ true → program nodes ls ≡ Got p count left →
    SpellsProgram ls p
read_is_spelt p nodes count ls left small e =
    let first = read_sooner ls a_program 0 nodes (omega arith) (sym (program_read nodes ls) ∙ e) in
    let cursor = subst (Answers [] ls) first.1 (judged ls a_program first_cursor).answers in
    let fine = fine cursor.marks cursor.shallow (ap (list_all is_small) cursor.tokens ∙ small) in
    let small = (program_matches p).small (subst Fine (sym (whole_marks cursor)) fine) in
    record { tokens = whole cursor; limits = cursor.ends.limits small (omega (arith, whole_nodes cursor, cursor.few)) }

-- lexemes that spell a program are read as it
pub program_completes : (p : ProgramTree) (ls : List Lexeme) → IsWithinLimits p → tokens_in ls ≡ spelling p →
    program 0 ls ≡ Got p (sum_by size (terms p)) []
program_completes p ls limits e = let judges = program_judged ls (program 0 ls) refl in judges.reads p limits (sym e)

-- no high byte is before the first one
not_before : (text : List ℕ) (m n : ℕ) → IsFirstHighByte text m → IsFirstHighByte text n → m < n → ⊥
not_before text m n a b h =
    let low = b.before m 0 (grind (arith, length-take-le, b.within)) in
    absurd (omega (arith, low, get_or-take n text m 0 h, a.high))

pub one_high_byte : (text : List ℕ) (m n : ℕ) → IsFirstHighByte text m → IsFirstHighByte text n → m ≡ n
one_high_byte text m n a b = omega (arith, not_before text m n a b, not_before text n m b a)

has_no_high_byte : (text : List ℕ) (n : ℕ) → All (λ b. b < 128) text → IsFirstHighByte text n → ⊥
has_no_high_byte text n ascii first = let low = ascii n 0 first.within in omega (arith, first.high)

-- a text has one fault
pub one_fault : OneTextFault
one_fault text k l m n (too_long a) (too_long b) = (refl, refl)
one_fault text k l m n (too_long a) (not_ascii j short first) = absurd (omega arith)
one_fault text k l m n (too_long a) (in_lexemes j i from short ascii at cursor) = absurd (omega arith)
one_fault text k l m n (not_ascii i short first) (too_long b) = absurd (omega arith)
one_fault text k l m n (not_ascii i short a) (not_ascii j _ b) = (refl, one_high_byte text i j a b)
one_fault text k l m n (not_ascii i short a) (in_lexemes j o from _ ascii at cursor) =
    absurd (has_no_high_byte text i ascii a)
one_fault text k l m n (in_lexemes j i from short ascii at cursor) (too_long b) = absurd (omega arith)
one_fault text k l m n (in_lexemes j i from short ascii at cursor) (not_ascii o _ b) =
    absurd (has_no_high_byte text o ascii b)
one_fault text k l m n (in_lexemes j i from short ascii at cursor) (in_lexemes h o since _ _ at' cursor') =
    let a = stops_at_first_fault (lexemes_of text) j from at in
    let b = stops_at_first_fault (lexemes_of text) h since at' in
    let same : Fault j a.0 from ≡ Fault h b.0 since = sym a.1 ∙ b.1 in
    let rest : from ≡ since = cc in
    (cc, omega arith)

-- a fault in the tokens is neither that the text is too long nor a byte over 127
in_tokens : {before : List Token} {met : Token} (k : FaultKind) → Stands before met k →
    (k ≢ kind.TooLong) × (k ≢ kind.NotAscii)
in_tokens k (unknown _) = (λ e. cc, λ e. cc)
in_tokens k (large _) = (λ e. cc, λ e. cc)
in_tokens k (out_of_range _) = (λ e. cc, λ e. cc)
in_tokens k (unexpected _ _ _ _) = (λ e. cc, λ e. cc)
in_tokens k (too_deep _ _ _ _) = (λ e. cc, λ e. cc)
in_tokens k (too_many _ _ _ _ _) = (λ e. cc, λ e. cc)

first_in_tokens : (before : List Token) (ls : List Lexeme) (k : FaultKind) (from : ℕ) → FirstFault before ls k from →
    (k ≢ kind.TooLong) × (k ≢ kind.NotAscii)
first_in_tokens before [] k from first = let is = first.0 in (λ e. cc, λ e. cc)
first_in_tokens before (l ∷ ls) k from first = elim first [
  | inl here ↦ in_tokens k here.0
  | inr there ↦ first_in_tokens (before ++ l.token ∷ []) ls k from there.1
]

-- so is every fault of a short ASCII text
pub short_in_tokens : (text : List ℕ) (k : FaultKind) (n : ℕ) → length text ≤ LONGEST_TEXT → All (λ b. b < 128) text →
    FaultsAt text k n → (k ≢ kind.TooLong) × (k ≢ kind.NotAscii)
short_in_tokens text k n short ascii (too_long long) = absurd (omega (arith, short, long))
short_in_tokens text k n short ascii (not_ascii j _ first) = absurd (has_no_high_byte text j ascii first)
short_in_tokens text k n short ascii (in_lexemes j i from _ _ first cursor) =
    first_in_tokens [] (lexemes_of text) j from first

-- a text that reads as a program is read from the left as it
pub readable_is_read : ReadableTextsAreRead
readable_is_read text p reads = program_completes p (lexemes_of text) reads.limits reads.tokens

-- and as no other
pub one_reading : OneReading
one_reading text p q a b = cc (readable_is_read text p a, readable_is_read text q b)

-- and has no fault
pub no_fault : ReadableTextsHaveNoFault
no_fault text p k m reads (too_long long) = omega (arith, reads.short, long)
no_fault text p k m reads (not_ascii n short first) = has_no_high_byte text n reads.ascii first
no_fault text p k m reads (in_lexemes j n from short ascii at cursor) =
    let stops = stops_at_first_fault (lexemes_of text) j from at in cc (readable_is_read text p reads, stops.1)

-- a text that is read from the left as a program reads as it
pub read_is_readable : ReadTextsAreReadable
read_is_readable text p n left short ascii e =
    let spelt = read_is_spelt p 0 n (lexemes_of text) left (small_tokens text) e in
    record { short = short; ascii = ascii; tokens = spelt.tokens; limits = spelt.limits }

-- what the parser returns of a text: the program that it reads as, or where reading it stops
pub record Outcome (text : List ℕ) (r : Result ProgramTree Stop) : Type 0 where
  pub program : IfOk r (Reads text)
  pub stop : IfErr r (StopsAt text)

pub outcome : (old new : Parser) (r : Result ProgramTree Stop) → old.at ≡ 0 → old.nodes ≡ 0 →
    length old.text.now ≤ LONGEST_TEXT → All (λ b. b < 128) old.text.now →
    Gives (λ p. p) old new r program → Outcome old.text.now r
outcome old new (Ok p) at nodes short ascii h = record {
  program = read_is_readable old.text.now p new.nodes (lexemes_from old.text.now new.at) short ascii
      (rw (at, nodes) at h.1);
  stop = tt;
}
outcome old new (Err f) at nodes short ascii h =
    let from = length old.text.now - f.offset in
    let first : f.kind ≢ kind.OutOfMemory →
    FirstFault [] (lexemes_of old.text.now) f.kind from × FollowsAt [] (lexemes_of old.text.now) from f.expected =
    λ m. let stops = h.1 m in first_fault_of (lexemes_of old.text.now) f.kind f.expected from
    (rw (at, nodes) at stops.1) in
    let fault : f.kind ≢ kind.OutOfMemory → FaultsAt old.text.now f.kind f.offset = λ m.
    let stops = h.1 m in
    in_lexemes f.kind f.offset from short ascii (first m).0 (omega (arith, stops.0)) in
    record {
      program = tt;
      stop = record {
        memory = h.0;
        none = λ m p reads. no_fault old.text.now p f.kind f.offset reads (fault m);
        fault = fault;
        expected = λ m. (first m).1;
      };
    }
