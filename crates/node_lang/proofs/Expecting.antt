-- What can follow the tokens before a cursor, by what is left of the program there.
use Rattle.std.proofs.Common.{◌≡◌, ℕ, suc, ◌+◌, ◌≤◌, List, [], ◌∷◌, ◌++◌, length, Option, Some, None, append_assoc}
use Rattle.std.proofs.Common.{append-nil, refl, sym, subst, ap, ◌∙◌, arith, inl, inr}
use Rattle.std.specs.Prelude.{All, replicate}
use Rattle.std.proofs.lemmas.Bool.{cases_order, cond_both}
use Rattle.std.proofs.lemmas.List.{map-append, length-replicate}
use Rattle.std.proofs.lemmas.List.Elements.{All-cons, All-nil}
use Rattle.node_lang.specs.declared.expected.Expected.{Expected}
use Rattle.node_lang.specs.declared.expected.Expected.TheVariants as expected
use Rattle.node_lang.specs.declared.token.Token.{Token}
use Rattle.node_lang.specs.declared.token.Token.TheVariants as token
use Rattle.node_program.specs.Term.{Term, Literal, Identifier, LeftMessage, RightMessage, RegisterValue, One, Two}
use Rattle.node_program.specs.Term.{Choose, Round, ProgramTree}
use Rattle.node_lang.specs.Lexemes.{Lexeme, tokens_in}
use Rattle.node_lang.specs.Grammar.{body}
use Rattle.node_lang.specs.Reading.{same_token}
use Rattle.node_lang.specs.Viable.{IsProgram, IsViable, IsWhole, Mark, node, marks, unmarked, IsOutside, IsOutOfRange}
use Rattle.node_lang.specs.Viable.{rounds, channels, registers}
use Rattle.node_lang.specs.Following.{IsNumber, BeginsExpression, Means, Follows, from_first, FollowsAt}
use Rattle.node_lang.proofs.Parsing.{same_token_is}
use Rattle.node_lang.proofs.Rest.{Rest, Nothing, AToken, AnExpression, ANumber, following, step, expected_of}
use Rattle.node_lang.proofs.Marks.{program_matches}
use Rattle.node_lang.proofs.Cursors.{Cursor, Ends, Completed, completed, next_of, none_of, whole}

-- the first tokens of some program go on to it
viable_marks : {before : List Token} (t : Token) (p : ProgramTree) (ms more : List Mark) (d : ℕ) → IsProgram p →
    unmarked ms ≡ before → marks p ≡ ms ++ node t d ∷ more →
    IsViable (before ++ t ∷ [])
viable_marks {before} t p ms more d each tokens are = record {
  program = p;
  more = unmarked more;
  each_register = each;
  spells = append_assoc before (t ∷ []) (unmarked more)
      ∙ ap (λ ts. ts ++ t ∷ unmarked more) (sym tokens)
      ∙ sym (map-append (λ (m : Mark). m.token) ms (node t d ∷ more))
      ∙ ap unmarked (sym are)
      ∙ (let m = program_matches p in m.tokens);
}

viable_completed : {before : List Token} {nodes : ℕ} {w : Rest} (t : Token) (d : ℕ) (p : Cursor before nodes w) →
    Completed (λ ms. p.marks ++ node t d ∷ ms) → IsViable (before ++ t ∷ [])
viable_completed t d p c = viable_marks t c.program p.marks c.more d c.each_register p.tokens c.are

-- a program with these numbers of rounds, channels and registers
abbrev plain_program : ℕ → ℕ → ℕ → ProgramTree
plain_program r c k = record {
  channels = c;
  start = replicate k Identifier;
  steps = replicate r (record { left = Identifier; right = Identifier; next = replicate k Identifier });
  finish = Identifier;
}

each_same : (r : ℕ) (s : Round) (k : ℕ) → length s.next ≡ k → All (λ s. length s.next ≡ k) (replicate r s)
each_same ℕ.zero s k e = All-nil (λ (s : Round). length s.next ≡ k)
each_same (suc r) s k e = All-cons (λ (s : Round). length s.next ≡ k) s (replicate r s) e (each_same r s k e)

plain_is_program : (r c k : ℕ) → IsProgram (plain_program r c k)
plain_is_program r c k = each_same r _ _ refl

abbrev plain_step : ℕ → Round
plain_step k = record { left = Identifier; right = Identifier; next = replicate k Identifier }

-- so each number of the header goes on to a program, even out of its range
viable_out : {before : List Token} {t : Token} → IsOutOfRange before t → IsViable (before ++ t ∷ [])
viable_out (rounds r h) =
    let p : ProgramTree = plain_program r 0 0 in
    let rest : List Token = token.Channels ∷ token.Number 0 ∷ token.Registers ∷ token.Number 0 ∷ token.Start ∷ body p in
    record {
      program = p;
      more = rest;
      each_register = plain_is_program r 0 0;
      spells = ap (λ n. token.Rounds ∷ token.Number n ∷ rest) (sym (length-replicate r (plain_step 0)));
    }
viable_out (channels r c h) =
    let p : ProgramTree = plain_program r c 0 in
    let rest : List Token = token.Registers ∷ token.Number 0 ∷ token.Start ∷ body p in
    record {
      program = p;
      more = rest;
      each_register = plain_is_program r c 0;
      spells = ap (λ n. token.Rounds ∷ token.Number n ∷ token.Channels ∷ token.Number c ∷ rest)
          (sym (length-replicate r (plain_step 0)));
    }
viable_out (registers r c k h) =
    let p : ProgramTree = plain_program r c k in
    let rest : List Token = token.Start ∷ body p in
    let all : ℕ → ℕ → List Token = λ m n. token.Rounds ∷ token.Number m ∷ token.Channels ∷ token.Number c
    ∷ token.Registers ∷ token.Number n ∷ rest in
    record {
      program = p;
      more = rest;
      each_register = plain_is_program r c k;
      spells = ap (λ m. all m k) (sym (length-replicate r (plain_step k)))
          ∙ ap (λ n. all (length p.steps) n) (sym (length-replicate k Identifier));
    }

-- a token that can be next goes on to a program
abbrev CompletedIf : (List Mark → List Mark) → Option Rest → Type 0
CompletedIf f None = Unit {0}
CompletedIf f (Some v) = Completed f

completed_term : (f : List Mark → List Mark) (d : ℕ) (w : Term → Rest) (t : Token) →
    Ends f (AnExpression d w) → CompletedIf (λ ms. f (node t (d + 1) ∷ ms)) (following d w t)
completed_term f d w (token.Number n) h = completed (w (Literal n)) _ (h (Literal n))
completed_term f d w token.Id h = completed (w Identifier) _ (h Identifier)
completed_term f d w token.FromLeft h = completed (w LeftMessage) _ (h LeftMessage)
completed_term f d w token.FromRight h = completed (w RightMessage) _ (h RightMessage)
completed_term f d w (token.Register j) h = completed (w (RegisterValue j)) _ (h (RegisterValue j))
completed_term f d w (token.One o) h =
    let e = One o Identifier in let c = completed (w e) _ (h e) in
    record { program = c.program; more = _; each_register = c.each_register; are = c.are }
completed_term f d w (token.Two o) h =
    let e = Two o Identifier Identifier in let c = completed (w e) _ (h e) in
    record { program = c.program; more = _; each_register = c.each_register; are = c.are }
completed_term f d w token.If h =
    let e = Choose Identifier Identifier Identifier in let c = completed (w e) _ (h e) in
    record { program = c.program; more = _; each_register = c.each_register; are = c.are }
completed_term f d w t h = tt

viable_if : {before : List Token} {nodes : ℕ} {w : Rest} (t : Token) (d : ℕ) (p : Cursor before nodes w)
    (o : Option Rest) {v : Rest} → o ≡ Some v →
    CompletedIf (λ ms. p.marks ++ node t d ∷ ms) o → IsViable (before ++ t ∷ [])
viable_if t d p None e c = absurd (cc)
viable_if t d p (Some u) e c = viable_completed t d p c

viable_number : {before : List Token} {nodes low high : ℕ} {w : ℕ → Rest} (n : ℕ) →
    Cursor before nodes (ANumber low high w) → IsViable (before ++ token.Number n ∷ [])
viable_number {before} {low = low} {high = high} {w = w} n p =
    let out : IsOutside low high n → IsViable (before ++ token.Number n ∷ []) =
    λ o. viable_out (subst (λ ts. IsOutOfRange ts (token.Number n)) (ap unmarked (append-nil p.marks) ∙ p.tokens)
    (p.ends.1 n o)) in
    let inside : low ≤ n → n ≤ high → IsViable (before ++ token.Number n ∷ []) =
    λ least most. viable_completed (token.Number n) 0 p (completed (w n) _ (p.ends.2 n least most)) in
    elim (cases_order n low) [
      | inl e ↦ elim (cases_order n high) [
        | inl f ↦ inside (omega arith) (omega arith)
        | inr (inl f) ↦ inside (omega arith) (omega arith)
        | inr (inr f) ↦ out (inr f)
      ]
      | inr (inl e) ↦ out (inl e)
      | inr (inr e) ↦ elim (cases_order n high) [
        | inl f ↦ inside (omega arith) (omega arith)
        | inr (inl f) ↦ inside (omega arith) (omega arith)
        | inr (inr f) ↦ out (inr f)
      ]
    ]

-- a next token of the rest goes on to a program
step_viable : {before : List Token} {nodes : ℕ} (w : Rest) (t : Token) {v : Rest} → Cursor before nodes w →
    step w t ≡ Some v → IsViable (before ++ t ∷ [])
step_viable (Nothing q) t p e = absurd (cc)
step_viable {before} (AToken s w) t {v} p e =
    cond_both (same_token t s) (Some w) None (λ o. o ≡ Some v → IsViable (before ++ t ∷ []))
    (λ is none. subst (λ u. IsViable (before ++ u ∷ [])) (sym (same_token_is t s is))
    (viable_completed s 0 p (completed w _ p.ends))) (λ _ e. absurd (cc)) e
step_viable (AnExpression d w) t p e =
    viable_if t (d + 1) p (following d w t) e (completed_term (λ ms. p.marks ++ ms) d w t p.ends)
step_viable (ANumber low high w) (token.Number n) p e = viable_number n p
step_viable (ANumber low high w) t p e = absurd (cc)

-- and a token that goes on to a program can be next
viable_steps : {before : List Token} {nodes : ℕ} {w : Rest} (t : Token) → Cursor before nodes w →
    IsViable (before ++ t ∷ []) → (v : Rest) × (step w t ≡ Some v)
viable_steps {before} t p v =
    let n = next_of t v.more p v.program v.each_register (sym v.spells ∙ append_assoc before (t ∷ []) v.more) in
    (n.rest, n.steps)

-- the tokens with which an expression can begin are those that can be next
begins_follows : (d : ℕ) (w : Term → Rest) (t : Token) → BeginsExpression t → (v : Rest) × (following d w t ≡ Some v)
begins_follows d w (token.Number n) h = (_, refl)
begins_follows d w token.Id h = (_, refl)
begins_follows d w token.FromLeft h = (_, refl)
begins_follows d w token.FromRight h = (_, refl)
begins_follows d w (token.Register j) h = (_, refl)
begins_follows d w (token.One o) h = (_, refl)
begins_follows d w (token.Two o) h = (_, refl)
begins_follows d w token.If h = (_, refl)
begins_follows d w t h = absurd h

follows_begins : (d : ℕ) (w : Term → Rest) (t : Token) {v : Rest} → following d w t ≡ Some v → BeginsExpression t
follows_begins d w (token.Number n) e = tt
follows_begins d w token.Id e = tt
follows_begins d w token.FromLeft e = tt
follows_begins d w token.FromRight e = tt
follows_begins d w (token.Register j) e = tt
follows_begins d w (token.One o) e = tt
follows_begins d w (token.Two o) e = tt
follows_begins d w token.If e = tt
follows_begins d w t e = absurd (cc)

same_if : (t s : Token) (w : Rest) {v : Rest} → step (AToken s w) t ≡ Some v → t ≡ s
same_if t s w {v} e = cond_both (same_token t s) (Some w) None (λ o. o ≡ Some v → t ≡ s)
    (λ is _. same_token_is t s is) (λ _ e. absurd (cc)) e

number_steps : (low high : ℕ) (w : ℕ → Rest) (t : Token) {v : Rest} → step (ANumber low high w) t ≡ Some v → IsNumber t
number_steps low high w (token.Number n) e = tt
number_steps low high w t e = absurd (cc)

-- the tokens that are meant can follow
means_viable : {before : List Token} {n : ℕ} (w : Rest) (t : Token) → Cursor before n w → Means (expected_of w) t →
    IsViable (before ++ t ∷ [])
means_viable (Nothing q) t p h = absurd h
means_viable {before} (AToken s w) t p e =
    subst (λ u. IsViable (before ++ u ∷ [])) (sym e) (viable_completed s 0 p (completed w _ p.ends))
means_viable (AnExpression d w) t p h = step_viable (AnExpression d w) t p (begins_follows d w t h).1
means_viable (ANumber low high w) (token.Number k) p h = viable_number k p
means_viable (ANumber low high w) t p h = absurd h

-- and no others
steps_means : (w : Rest) (t : Token) {v : Rest} → step w t ≡ Some v → Means (expected_of w) t
steps_means (Nothing q) t e = absurd (cc)
steps_means (AToken s w) t e = same_if t s w e
steps_means (AnExpression d w) t e = follows_begins d w t e
steps_means (ANumber low high w) t e = number_steps low high w t e

-- the end is meant exactly where nothing is left
end_left : {before : List Token} {n : ℕ} (w : Rest) → Cursor before n w → expected_of w ≡ expected.End → IsWhole before
end_left (Nothing q) p e = record { program = q; each_register = p.ends.each_register; spells = whole p }
end_left (AToken s w) p e = absurd (cc)
end_left (AnExpression d w) p e = absurd (cc)
end_left (ANumber low high w) p e = absurd (cc)

follows : {before : List Token} {n : ℕ} (w : Rest) → Cursor before n w → Follows before (expected_of w)
follows w p = record {
  tokens = λ t. (means_viable w t p, λ v. steps_means w t (viable_steps t p v).1);
  ended = (
    end_left w p,
    λ h. ap expected_of (none_of p h.program h.each_register (sym h.spells)),
  );
}

-- so what is left says what can follow, here
pub follows_here : {before : List Token} {n : ℕ} {w : Rest} → Cursor before n w → (ls : List Lexeme) →
    FollowsAt before ls (from_first ls) (expected_of w)
follows_here {before} {w = w} p ls = record {
  earlier = [];
  later = ls;
  are = refl;
  offset = refl;
  follows = subst (λ ts. Follows ts (expected_of w)) (sym (append-nil before)) (follows w p);
}

-- or after one more lexeme
pub follows_later : {before : List Token} {ls : List Lexeme} {from : ℕ} {e : Expected} (l : Lexeme) →
    FollowsAt (before ++ l.token ∷ []) ls from e → FollowsAt before (l ∷ ls) from e
follows_later {before} {e = e} l h = record {
  earlier = l ∷ h.earlier;
  later = h.later;
  are = ap (λ ls. l ∷ ls) h.are;
  offset = h.offset;
  follows = subst (λ ts. Follows ts e) (append_assoc before (l.token ∷ []) (tokens_in h.earlier)) h.follows;
}
