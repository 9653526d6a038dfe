-- A cursor in a program: the tokens before it, and what is left of the program after them. Reading meets at the next
-- token exactly the fault that is there, or none.
use Rattle.std.proofs.Common.{rules, ◌≡◌, ℕ, ◌+◌, ◌<◌, Option, Some, None, List, [], ◌∷◌, ◌++◌, length, take, drop}
use Rattle.std.proofs.Common.{append_assoc, append-nil, refl, sym, subst, ap, ◌∙◌, arith, add-one, ◌≢◌, zero, suc, ◌-◌}
use Rattle.std.proofs.Common.{◌≤◌, ◌==◌, nat_le, ◌&&◌, true, false}
use Rattle.std.specs.Prelude.{All, fold, sum_by}
use Rattle.std.proofs.Math.Seq.{take-append_seam, drop-append_seam}
use Rattle.std.proofs.lemmas.Bool.{cond_both, eq-eqb}
use Rattle.std.proofs.lemmas.Bool.Decides.{nat_tests}
use Rattle.std.proofs.lemmas.List.{map-append, length-map}
use Rattle.std.proofs.lemmas.List.Elements.{All-cons, All-nil, All-head, All-tail}
use Rattle.std.proofs.lemmas.List.Sums.{sum_by-append, fold_push}
use Rattle.node_program.specs.declared.limits.TheConstants.{MAX_CHANNELS, MAX_DEPTH, MAX_NODES}
use Rattle.node_program.specs.declared.limits.TheConstants.{MAX_REGISTERS, MAX_ROUNDS}
use Rattle.node_lang.specs.declared.fault.FaultKind.{FaultKind}
use Rattle.node_lang.specs.declared.fault.FaultKind.TheVariants as kind
use Rattle.node_lang.specs.declared.token.Token.{Token}
use Rattle.node_lang.specs.declared.token.Token.TheVariants as token
use Rattle.node_program.specs.Term.{Term, Literal, Identifier, LeftMessage, RightMessage, RegisterValue, One, Two}
use Rattle.node_program.specs.Term.{Choose, Round, ProgramTree, size, terms}
use Rattle.node_program.specs.Limits.{IsSmall, IsWithinLimits}
use Rattle.node_lang.specs.Grammar.{spelling}
use Rattle.node_lang.specs.Reading.{fault_of, same_token}
use Rattle.node_lang.specs.Viable.{IsProgram, IsViable, Mark, node, plain, marked, marked_assignments, marked_blocks}
use Rattle.node_lang.specs.Viable.{marks, unmarked, one_at, nodes_at, BeginsNode, IsOutside, IsOutOfRange, rounds}
use Rattle.node_lang.specs.Viable.{channels, registers, Stands, unknown, large, out_of_range, unexpected}
use Rattle.node_lang.specs.Viable.{too_deep, too_many}
use Rattle.node_lang.proofs.Parsing.{same_token_is}
use Rattle.node_lang.proofs.Rest.{Rest, Nothing, AToken, AnExpression, ANumber, following, step, depth_next, counted}
use Rattle.node_lang.proofs.Rest.{Met, Stops, Goes, limited, checked, meets, assignments, some_rounds}
use Rattle.node_lang.proofs.Rest.{a_body, a_program}
use Rattle.node_lang.proofs.Marks.{Shallow, shallow_more, program_matches}

-- the next number of the header is in its range
abbrev pub InRange : Rest → Token → Type 0
InRange (ANumber low high w) (token.Number n) = (low ≤ n) × (n ≤ high)
InRange w t = Unit {0}

-- or out of it
abbrev IsOut : Rest → Token → Type 0
IsOut (ANumber low high w) (token.Number n) = IsOutside low high n
IsOut w t = ⊥

-- These marks lead from what is left to the end of a program: each has a token that can come next, and one in its range
-- if the program is within the limits.
pub data Leads (p : ProgramTree) : Rest → List Mark → Type 0 where
  ended : Leads p (Nothing p) []
  led : {w v : Rest} {ms : List Mark} (t : Token) → step w t ≡ Some v →
      (IsWithinLimits p → InRange w t) → Leads p v ms →
      Leads p w (node t (depth_next w) ∷ ms)

-- the same for a token, an expression, assignments, rounds, and a whole program
token_leads : {p : ProgramTree} {w : Rest} {ms : List Mark} (t : Token) → same_token t t ≡ true → Leads p w ms →
    Leads p (AToken t w) (plain t ∷ ms)
token_leads {w = w} t same h = led t (rw same refl) (λ _. tt) h

term_leads : {p : ProgramTree} (e : Term) (d : ℕ) (w : Term → Rest) {ms : List Mark} → Leads p (w e) ms →
    Leads p (AnExpression d w) (marked e (d + 1) ms)
term_leads (One o a) d w h =
    led (token.One o) refl (λ _. tt)
    (token_leads token.Open refl (term_leads a (d + 1) _ (token_leads token.Close refl h)))
term_leads (Two o a b) d w h =
    led (token.Two o) refl (λ _. tt) (token_leads token.Open refl (term_leads a (d + 1) _
    (token_leads token.Comma refl (term_leads b (d + 1) _ (token_leads token.Close refl h)))))
term_leads (Choose c a b) d w h =
    led token.If refl (λ _. tt) (token_leads token.Open refl (term_leads c (d + 1) _ (token_leads token.Comma refl
    (term_leads a (d + 1) _ (token_leads token.Comma refl (term_leads b (d + 1) _ (token_leads token.Close refl h)))))))
term_leads e d w h = led _ refl (λ _. tt) h

assignments_lead : {p : ProgramTree} {ms : List Mark} (es : List Term) (count j : ℕ) (w : List Term → Rest) →
    length es ≡ count → Leads p (w es) ms →
    Leads p (assignments count j w) (marked_assignments j es ms)
assignments_lead [] zero j w many h = h
assignments_lead (e ∷ es) (suc count) j w many h =
    token_leads (token.Register j) (eq-eqb j j refl) (token_leads token.Equals refl (term_leads e 0 _
    (assignments_lead es count (j + 1) (λ es. w (e ∷ es)) (omega (arith, many)) h)))
assignments_lead es count j w many h = absurd (cc)

rounds_lead : {p : ProgramTree} {ms : List Mark} (ss : List Round) (many : ℕ) (w : List Round → Rest) →
    All (λ s. length s.next ≡ many) ss → Leads p (w ss) ms →
    Leads p (some_rounds (length ss) many w) (marked_blocks ss ms)
rounds_lead [] many w each h = h
rounds_lead (s ∷ ss) many w each h =
    let here = All-head (λ (s : Round). length s.next ≡ many) s ss each in
    let others = rounds_lead ss many (λ ss. w (s ∷ ss)) (All-tail (λ (s : Round). length s.next ≡ many) s ss each) h in
    token_leads token.Round refl (token_leads token.Send refl (token_leads token.Left refl (term_leads s.left 0 _
    (token_leads token.Send refl
    (token_leads token.Right refl (term_leads s.right 0 _ (assignments_lead s.next many 0 _ here others)))))))

program_leads : (p : ProgramTree) → IsProgram p → Leads p a_program (marks p)
program_leads p each =
    let finish = token_leads token.Finish refl (term_leads p.finish 0 _ ended) in
    let body =
    assignments_lead p.start (length p.start) 0 _ refl (rounds_lead p.steps (length p.start) _ each finish) in
    token_leads token.Rounds refl (led (token.Number (length p.steps)) refl (λ l. (omega arith, l.rounds))
    (token_leads token.Channels refl (led (token.Number p.channels) refl (λ l. (l.some_channels, l.few_channels))
    (token_leads token.Registers refl
    (led (token.Number (length p.start)) refl (λ l. (l.some_registers, l.few_registers))
    (token_leads token.Start refl body))))))

-- a program with these marks, whose header is in range
pub record IsEnd (p : ProgramTree) (ms : List Mark) : Type 0 where
  pub each_register : IsProgram p
  pub limits : All IsSmall (terms p) → sum_by size (terms p) ≤ MAX_NODES → IsWithinLimits p
  pub are : marks p ≡ ms

-- Whatever comes next, these marks are a prefix of the marks of a program; f prepends them.
abbrev pub Ends : (List Mark → List Mark) → Rest → Type 0
Ends f (Nothing p) = IsEnd p (f [])
Ends f (AToken t w) = Ends (λ ms. f (plain t ∷ ms)) w
Ends f (AnExpression d w) = (e : Term) → Ends (λ ms. f (marked e (d + 1) ms)) (w e)
Ends f (ANumber low high w) =
    (low ≤ high) × ((n : ℕ) → IsOutside low high n → IsOutOfRange (unmarked (f [])) (token.Number n))
    × ((n : ℕ) → low ≤ n → n ≤ high → Ends (λ ms. f (plain (token.Number n) ∷ ms)) (w n))

-- so they are if each list of assignments, and of rounds, that can come next is completed so
assignments_end : (count j : ℕ) (f : List Mark → List Mark) (w : List Term → Rest) →
    ((es : List Term) → length es ≡ count → Ends (λ ms. f (marked_assignments j es ms)) (w es)) →
    Ends f (assignments count j w)
assignments_end zero j f w h = h [] refl
assignments_end (suc count) j f w h = λ e.
    assignments_end count (j + 1) (λ ms. f (plain (token.Register j) ∷ plain token.Equals ∷ marked e 1 ms))
    (λ es. w (e ∷ es)) (λ es many. h (e ∷ es) (ap suc many))

rounds_end : (count many : ℕ) (f : List Mark → List Mark) (w : List Round → Rest) →
    ((ss : List Round) → length ss ≡ count → All (λ s. length s.next ≡ many) ss →
    Ends (λ ms. f (marked_blocks ss ms)) (w ss)) → Ends f (some_rounds count many w)
rounds_end zero many f w h = h [] refl (All-nil (λ (s : Round). length s.next ≡ many))
rounds_end (suc count) many f w h = λ left right.
    let put : List Mark → List Mark = λ ms. f (plain token.Round ∷ plain token.Send ∷ plain token.Left
    ∷ marked left 1 (plain token.Send ∷ plain token.Right ∷ marked right 1 ms)) in
    assignments_end many 0 put _ (λ next full.
    rounds_end count many (λ ms. put (marked_assignments 0 next ms)) _ (λ ss counts each.
    let s : Round = record { left = left; right = right; next = next } in
    h (s ∷ ss) (ap suc counts) (All-cons (λ (s : Round). length s.next ≡ many) s ss full each)))

-- the marks of the header, in front of others
abbrev header : ℕ → ℕ → ℕ → List Mark → List Mark
header i c r ms = plain token.Rounds ∷ plain (token.Number i) ∷ plain token.Channels ∷ plain (token.Number c)
    ∷ plain token.Registers ∷ plain (token.Number r) ∷ plain token.Start ∷ ms

body_ends : (i c r : ℕ) → i ≤ MAX_ROUNDS → 1 ≤ c → c ≤ MAX_CHANNELS → 1 ≤ r →
    r ≤ MAX_REGISTERS → Ends (header i c r) (a_body i c r)
body_ends i c r fits some few least most =
    assignments_end r 0 (header i c r) _
    (λ start many. rounds_end i r (λ ms. header i c r (marked_assignments 0 start ms)) _
    (λ steps counts each finish. record {
      each_register = rw many each;
      limits = λ small nodes.
          let each_register : All (λ (s : Round). length s.next ≡ length start) steps = rw many each in search rules;
      are = rw (many, counts) refl;
    }))

program_ends : Ends (λ ms. ms) a_program
program_ends = (
  omega arith,
  rounds,
  λ i _ fits.
      (omega arith, channels i, λ c some few. (omega arith, registers i c, λ r. body_ends i c r fits some few)),
)

-- the same after one more token
abbrev EndsIf : (List Mark → List Mark) → Option Rest → Type 0
EndsIf f None = Unit {0}
EndsIf f (Some w) = Ends f w

ends_in_term : (f : List Mark → List Mark) (d : ℕ) (w : Term → Rest) (t : Token) → Ends f (AnExpression d w) →
    EndsIf (λ ms. f (node t (d + 1) ∷ ms)) (following d w t)
ends_in_term f d w (token.Number n) h = h (Literal n)
ends_in_term f d w token.Id h = h Identifier
ends_in_term f d w token.FromLeft h = h LeftMessage
ends_in_term f d w token.FromRight h = h RightMessage
ends_in_term f d w (token.Register j) h = h (RegisterValue j)
ends_in_term f d w (token.One o) h = λ a. h (One o a)
ends_in_term f d w (token.Two o) h = λ a b. h (Two o a b)
ends_in_term f d w token.If h = λ c a b. h (Choose c a b)
ends_in_term f d w t h = tt

ends_next : (f : List Mark → List Mark) (w : Rest) (t : Token) → Ends f w → InRange w t →
    EndsIf (λ ms. f (node t (depth_next w) ∷ ms)) (step w t)
ends_next f (Nothing p) t h range = tt
ends_next f (AToken s w) t h range = cond_both (same_token t s) (Some w) None (EndsIf (λ ms. f (plain t ∷ ms)))
    (λ is. subst (λ u. Ends (λ ms. f (plain u ∷ ms)) w) (sym (same_token_is t s is)) h) (λ _. tt)
ends_next f (AnExpression d w) t h range = ends_in_term f d w t h
ends_next f (ANumber low high w) (token.Number n) h range = h.2 n range.0 range.1
ends_next f (ANumber low high w) t h range = tt

-- a program with these marks as a prefix
pub record Completed (f : List Mark → List Mark) : Type 0 where
  pub program : ProgramTree
  pub more : List Mark
  pub each_register : IsProgram program
  pub are : marks program ≡ f more

one_earlier : (f : List Mark → List Mark) (m : Mark) → Completed (λ ms. f (m ∷ ms)) → Completed f
one_earlier f m c = record { program = c.program; more = m ∷ c.more; each_register = c.each_register; are = c.are }

-- some program with this prefix
pub completed : (w : Rest) (f : List Mark → List Mark) → Ends f w → Completed f
completed (Nothing p) f h = record { program = p; more = []; each_register = h.each_register; are = h.are }
completed (AToken t w) f h = one_earlier f (plain t) (completed w _ h)
completed (AnExpression d w) f h = one_earlier f (node token.Id (d + 1)) (completed (w Identifier) _ (h Identifier))
completed (ANumber low high w) f h =
    one_earlier f (plain (token.Number low)) (completed (w low) _ (h.2 low (omega arith) h.0))

unmarked_program : (p : ProgramTree) → unmarked (marks p) ≡ spelling p
unmarked_program p = let m = program_matches p in m.tokens

-- A program with these marks as a prefix goes on with others, which have these tokens.
pub record GoesOn (p : ProgramTree) (before : List Mark) (ts : List Token) (w : Rest) : Type 0 where
  pub left : List Mark
  pub are : marks p ≡ before ++ left
  pub tokens : unmarked left ≡ ts
  pub leads : Leads p w left

-- what is left after this token
abbrev pub after : Option Rest → Token → Option Rest
after None t = None
after (Some w) t = step w t

-- The tokens before a cursor lead to what is left, with this number of nodes, none of them too deep. Whatever comes next
-- can be completed to a program, and each program with this prefix goes on from here.
pub record Cursor (before : List Token) (nodes : ℕ) (w : Rest) : Type 0 where
  pub reached : fold after (Some a_program) before ≡ Some w
  pub marks : List Mark
  pub tokens : unmarked marks ≡ before
  pub nodes_are : nodes_at marks ≡ nodes
  pub few : nodes ≤ MAX_NODES
  pub shallow : Shallow marks
  pub ends : Ends (λ ms. marks ++ ms) w
  pub goes_on : (p : ProgramTree) (ts : List Token) → IsProgram p → spelling p ≡ before ++ ts → GoesOn p marks ts w

-- the cursor before all tokens
pub first_cursor : Cursor [] 0 a_program
first_cursor = record {
  reached = refl;
  marks = [];
  tokens = refl;
  nodes_are = refl;
  few = omega arith;
  shallow = tt;
  ends = program_ends;
  goes_on = λ p ts each e. record {
    left = marks p;
    are = refl;
    tokens = unmarked_program p ∙ e;
    leads = program_leads p each;
  };
}

-- a program in which this token comes next
pub record HasNext (p : ProgramTree) (before : List Mark) (t : Token) (ts : List Token) (w : Rest) : Type 0 where
  pub rest : Rest
  pub steps : step w t ≡ Some rest
  pub range : IsWithinLimits p → InRange w t
  pub after : GoesOn p (before ++ node t (depth_next w) ∷ []) ts rest

has_next : {p : ProgramTree} {before left : List Mark} {ts : List Token} {w : Rest} (t : Token) → Leads p w left →
    marks p ≡ before ++ left → unmarked left ≡ t ∷ ts →
    HasNext p before t ts w
has_next t ended are e = absurd (cc)
has_next {p} {before} {ts = ts} {w = w} t (led {ms = ms} u s range h) are e =
    let same : u ≡ t = cc in
    subst (λ u. HasNext p before u ts w) same (record {
      rest = _;
      steps = s;
      range = range;
      after = record {
        left = ms;
        are = are ∙ sym (append_assoc before (node u (depth_next w) ∷ []) ms);
        tokens = cc;
        leads = h;
      };
    })

-- a program in which none comes next
has_none : {p : ProgramTree} {w : Rest} {left : List Mark} → Leads p w left → unmarked left ≡ [] → w ≡ Nothing p
has_none ended e = refl
has_none (led u s range h) e = absurd (cc)

-- so a program with the tokens before a cursor as its prefix
pub next_of : {before : List Token} {nodes : ℕ} {w : Rest} (t : Token) (ts : List Token) (p : Cursor before nodes w)
    (q : ProgramTree) → IsProgram q → spelling q ≡ before ++ t ∷ ts →
    HasNext q p.marks t ts w
next_of t ts p q each e = let g = p.goes_on q (t ∷ ts) each e in has_next t g.leads g.are g.tokens

pub none_of : {before : List Token} {nodes : ℕ} {w : Rest} → Cursor before nodes w → (q : ProgramTree) →
    IsProgram q → spelling q ≡ before → w ≡ Nothing q
none_of {before} p q each e = let g = p.goes_on q [] each (e ∙ sym (append-nil before)) in has_none g.leads g.tokens

counted_is : (w : Rest) (n : ℕ) (t : Token) → n + nodes_at (node t (depth_next w) ∷ []) ≡ counted w n
counted_is (AnExpression d w) n t = rw (add-one d) (omega arith)
counted_is w n t = omega arith

-- the number of nodes after one more token, and the cursor there
pub next_nodes : {before : List Token} {nodes : ℕ} {w : Rest} (t : Token) (p : Cursor before nodes w) →
    nodes_at (p.marks ++ node t (depth_next w) ∷ []) ≡ counted w nodes
next_nodes {nodes = nodes} {w = w} t p =
    let here : Mark = node t (depth_next w) in
    sum_by-append (λ (m : Mark). one_at m.depth) p.marks (here ∷ [])
    ∙ ap (λ n. n + nodes_at (here ∷ [])) p.nodes_are ∙ counted_is w nodes t

-- the tokens of these marks, then of others
unmarked_next : (xs : List Mark) (before : List Token) (ms : List Mark) → unmarked xs ≡ before →
    unmarked (xs ++ ms) ≡ before ++ unmarked ms
unmarked_next xs before ms e = map-append (λ (x : Mark). x.token) xs ms ∙ ap (λ ts. ts ++ unmarked ms) e

pub next_cursor : {before : List Token} {nodes : ℕ} {w v : Rest} (t : Token) → Cursor before nodes w → step w t ≡ Some v →
    counted w nodes ≤ MAX_NODES → depth_next w ≤ MAX_DEPTH → InRange w t → Cursor (before ++ t ∷ []) (counted w nodes) v
next_cursor {before} {nodes} {w} {v} t p s few shallow range =
    let here = node t (depth_next w) in
    record {
      reached = fold_push after (Some a_program) before t ∙ ap (λ o. after o t) p.reached ∙ s;
      marks = p.marks ++ here ∷ [];
      tokens = unmarked_next p.marks before (here ∷ []) p.tokens;
      nodes_are = next_nodes t p;
      few = few;
      shallow = shallow_more p.marks here p.shallow shallow;
      ends = subst (λ f. Ends f v) (λ i ms. sym (append_assoc p.marks (here ∷ []) ms) i)
          (subst (EndsIf (λ ms. p.marks ++ here ∷ ms)) s (ends_next (λ ms. p.marks ++ ms) w t p.ends range));
      goes_on = λ q ts each e.
          let n = next_of t ts p q each (e ∙ append_assoc before (t ∷ []) ts) in
          let same : n.rest ≡ v = cc in
          subst (GoesOn q (p.marks ++ here ∷ []) ts) same n.after;
    }

-- a list is split in two at one element in one way
same_front : {A : Type 0} (xs ys vs ws : List A) (v w : A) → length xs ≡ length ys →
    xs ++ v ∷ vs ≡ ys ++ w ∷ ws → (xs ≡ ys) × (v ≡ w)
same_front xs ys vs ws v w n e =
    let after = sym (drop-append_seam xs (v ∷ vs)) ∙ (λ i. drop (n i) (e i)) ∙ drop-append_seam ys (w ∷ ws) in
    (sym (take-append_seam xs (v ∷ vs)) ∙ (λ i. take (n i) (e i)) ∙ take-append_seam ys (w ∷ ws), cc (after))

-- a node that begins in some program is the one that is expected, after this number of nodes
record IsWanted (t : Token) (depth count nodes : ℕ) (w : Rest) : Type 0 where
  pub rest : Rest
  pub steps : step w t ≡ Some rest
  pub depth_is : depth ≡ depth_next w
  pub count_is : count ≡ nodes

wanted : {before : List Token} {nodes depth count : ℕ} {t : Token} {w : Rest} → Cursor before nodes w →
    BeginsNode before t depth count → IsWanted t depth count nodes w
wanted {before} {depth = depth} {t = t} {w = w} p b =
    let here : Mark = node t depth in
    let tokens = unmarked_next b.marks_before before (here ∷ b.marks_after) b.tokens_before in
    let n = next_of t (unmarked b.marks_after) p b.program b.each_register
    (sym (unmarked_program b.program) ∙ ap unmarked b.are ∙ tokens) in
    let lengths = simp length-map at (ap length (p.tokens ∙ sym b.tokens_before)) in
    let there : Mark = node t (depth_next w) in
    let same = same_front p.marks b.marks_before n.after.left b.marks_after there here lengths
    (sym (n.after.are ∙ append_assoc p.marks (there ∷ []) n.after.left) ∙ b.are) in
    record {
      rest = n.rest;
      steps = n.steps;
      depth_is = ap (λ m. m.depth) (sym same.1);
      count_is = sym b.nodes_are ∙ ap nodes_at (sym same.0) ∙ p.nodes_are;
    }

-- tokens that are a prefix of some program
viable_marks : {before : List Token} (p : ProgramTree) (ms more : List Mark) → IsProgram p →
    unmarked ms ≡ before → marks p ≡ ms ++ more → IsViable before
viable_marks {before} p ms more each tokens are =
    record {
      program = p;
      more = unmarked more;
      each_register = each;
      spells = sym (unmarked_next ms before more tokens)
          ∙ ap unmarked (sym are) ∙ unmarked_program p;
    }

-- so are those before a cursor, and those up to a node of some program
viable : {before : List Token} {nodes : ℕ} {w : Rest} → Cursor before nodes w → IsViable before
viable {w = w} p = let c = completed w (λ ms. p.marks ++ ms) p.ends in
    viable_marks c.program p.marks c.more c.each_register p.tokens c.are

viable_node : {before : List Token} {t : Token} {depth count : ℕ} → BeginsNode before t depth count →
    IsViable (before ++ t ∷ [])
viable_node {before} {t} {depth} b =
    let here : Mark = node t depth in
    viable_marks b.program (b.marks_before ++ here ∷ []) b.marks_after b.each_register
    (unmarked_next b.marks_before before (here ∷ []) b.tokens_before)
    (b.are ∙ sym (append_assoc b.marks_before (here ∷ []) b.marks_after))

-- at the end of a program the marks are the program's, with its nodes and its spelling
pub whole_marks : {before : List Token} {nodes : ℕ} {q : ProgramTree} (p : Cursor before nodes (Nothing q)) →
    marks q ≡ p.marks
whole_marks p = p.ends.are ∙ append-nil p.marks

pub whole_nodes : {before : List Token} {nodes : ℕ} {q : ProgramTree} (p : Cursor before nodes (Nothing q)) →
    sum_by size (terms q) ≡ nodes
whole_nodes {q = q} p = let m = program_matches q in sym m.nodes ∙ ap nodes_at (whole_marks p) ∙ p.nodes_are

pub whole : {before : List Token} {nodes : ℕ} {q : ProgramTree} → Cursor before nodes (Nothing q) → before ≡ spelling q
whole {q = q} p = sym p.tokens ∙ ap unmarked (sym (whole_marks p)) ∙ unmarked_program q

-- a node that can come next begins in some program
begins_node : {before : List Token} {nodes d : ℕ} {w : Term → Rest} {v : Rest} (t : Token) →
    Cursor before nodes (AnExpression d w) → following d w t ≡ Some v →
    BeginsNode before t (d + 1) nodes
begins_node {d = d} {w = w} {v = v} t p s =
    let f : List Mark → List Mark = λ ms. p.marks ++ node t (d + 1) ∷ ms in
    let c = completed v f (subst (EndsIf f) s (ends_in_term (λ ms. p.marks ++ ms) d w t p.ends)) in
    record {
      program = c.program;
      marks_before = p.marks;
      marks_after = c.more;
      each_register = c.each_register;
      are = c.are;
      tokens_before = p.tokens;
      is_node = omega arith;
      nodes_are = p.nodes_are;
    }

-- the number of the header that is out of range after these tokens is the next one
abbrev IsOutIf : Option Rest → Token → Type 0
IsOutIf None t = ⊥
IsOutIf (Some w) t = IsOut w t

next_out : {before : List Token} {t : Token} {w : Rest} → IsOutOfRange before t →
    fold after (Some a_program) before ≡ Some w → IsOut w t
next_out (rounds n h) e = subst (λ o. IsOutIf o (token.Number n)) e h
next_out (channels i n h) e = subst (λ o. IsOutIf o (token.Number n)) e h
next_out (registers i c n h) e = subst (λ o. IsOutIf o (token.Number n)) e h

-- a number out of range can come next, and is refused
out_met : (w : Rest) (n : ℕ) (t : Token) → IsOut w t → meets w n t ≡ Stops kind.HeaderRange
out_met (ANumber low high w) n (token.Number k) o =
    grind (arith, nat_tests, o)
out_met w n t o = absurd o

out_steps : (w : Rest) (t : Token) → IsOut w t → step w t ≡ None → ⊥
out_steps (ANumber low high w) (token.Number k) o none = cc
out_steps w t o none = o

-- a number that fails the test is out of range
outside : (low high n : ℕ) → (nat_le low n && nat_le n high) ≡ false → IsOutside low high n
outside low high n h = grind (arith, nat_tests)

-- the fault at a token where reading meets this; or none, and the cursor after it
abbrev pub Says : List Token → ℕ → Token → Met → Type 0
Says before count t (Stops k) = Stands before t k
Says before count t (Goes v) = Cursor (before ++ t ∷ []) count v

says_limited : {before : List Token} {n : ℕ} (w v : Rest) (t : Token) → Cursor before n w → step w t ≡ Some v →
    Says before (counted w n) t (limited w n t v)
says_limited (Nothing q) v t p s = absurd (cc)
says_limited (AToken u w) v t p s = next_cursor t p s p.few (omega arith) tt
says_limited {before} {n} (AnExpression d w) v t p s =
    cond_both ((MAX_DEPTH - d) == 0) (Stops kind.TooDeep) _ (Says before (n + 1) t)
    (λ none. too_deep (d + 1) n (grind (arith, nat_tests)) (begins_node t p s)) (λ some.
    cond_both (nat_le MAX_NODES n) (Stops kind.TooManyNodes) (Goes v) (Says before (n + 1) t)
    (λ full. too_many (d + 1) n (grind (arith, nat_tests)) (grind (arith, nat_tests)) (begins_node t p s))
    (λ room. next_cursor t p s (grind (arith, nat_tests)) (grind (arith, nat_tests)) tt))
says_limited {before} {n} (ANumber low high w) v (token.Number k) p s =
    cond_both (nat_le low k && nat_le k high) (Goes v) (Stops kind.HeaderRange) (Says before n (token.Number k))
    (λ both. next_cursor (token.Number k) p s p.few (omega arith) (grind (arith, nat_tests), grind (arith, nat_tests)))
    (λ neither. out_of_range
    (subst (λ ts. IsOutOfRange ts (token.Number k)) (ap unmarked (append-nil p.marks) ∙ p.tokens)
    (p.ends.1 k (outside low high k neither))))
says_limited (ANumber low high w) v t p s = absurd (cc)

-- the fault of a token that can't come next
stands_none : {before : List Token} (t : Token) → (IsOutOfRange before t → ⊥) →
    (IsViable (before ++ t ∷ []) → ⊥) → Stands before t (fault_of t)
stands_none token.Unknown r v = unknown refl
stands_none token.LargeNumber r v = large refl
stands_none t r v = unexpected (λ e. cc) (λ e. cc) r v

-- what reading meets is the fault that is there
pub says : {before : List Token} {n : ℕ} (w : Rest) (t : Token) → Cursor before n w →
    Says before (counted w n) t (meets w n t)
says {before} {n} w t p = checks (step w t) refl
  where
    checks : (o : Option Rest) → step w t ≡ o → Says before (counted w n) t (checked w n t o)
    checks (Some v) s = says_limited w v t p s
    checks None none = stands_none t
        (λ out. out_steps w t (next_out out p.reached) none)
        (λ v.
        let next = next_of t v.more p v.program v.each_register (sym v.spells ∙ append_assoc before (t ∷ []) v.more) in
        let both : None ≡ Some next.rest = sym none ∙ next.steps in cc)

-- a token that can't come next is unexpected
stops_unexpected : {before : List Token} {t : Token} (n : ℕ) (m : Met) → Says before n t m →
    t ≢ token.Unknown → t ≢ token.LargeNumber → (IsOutOfRange before t → ⊥) →
    (IsViable (before ++ t ∷ []) → ⊥) → m ≡ Stops kind.Unexpected
stops_unexpected n (Goes w) cursor u l r v = absurd (v (viable cursor))
stops_unexpected n (Stops k) (unknown e) u l r v = absurd (u e)
stops_unexpected n (Stops k) (large e) u l r v = absurd (l e)
stops_unexpected n (Stops k) (out_of_range o) u l r v = absurd (r o)
stops_unexpected n (Stops k) (unexpected _ _ _ _) u l r v = refl
stops_unexpected n (Stops k) (too_deep _ _ _ b) u l r v = absurd (v (viable_node b))
stops_unexpected n (Stops k) (too_many _ _ _ _ b) u l r v = absurd (v (viable_node b))

-- a node that is too deep, and one too many
limited_deep : (w v : Rest) (n : ℕ) (t : Token) → MAX_DEPTH < depth_next w → limited w n t v ≡ Stops kind.TooDeep
limited_deep (AnExpression d w) v n t deep = grind (arith, nat_tests, deep)
limited_deep w v n t deep = absurd (omega (arith, deep))

limited_many : (w v : Rest) (n : ℕ) (t : Token) → 0 < depth_next w → depth_next w ≤ MAX_DEPTH →
    MAX_NODES ≤ n → limited w n t v ≡ Stops kind.TooManyNodes
limited_many (AnExpression d w) v n t some shallow many = grind (arith, nat_tests, shallow, many)
limited_many w v n t some shallow many = absurd (omega (arith, some))

-- tokens that are not of the language
unknown_met : (w : Rest) (n : ℕ) →
    (meets w n token.Unknown ≡ Stops kind.BadWord) × (meets w n token.LargeNumber ≡ Stops kind.NumberTooLarge)
unknown_met (Nothing p) n = (refl, refl)
unknown_met w n = (refl, refl)

-- and a fault that is there is what reading meets
pub stands_met : {before : List Token} {n : ℕ} (w : Rest) (t : Token) (k : FaultKind) → Cursor before n w →
    Stands before t k → meets w n t ≡ Stops k
stands_met {n = n} w t k p s = elim s as (λ k _. meets w n t ≡ Stops k) [
  | unknown e ↦ ap (meets w n) e ∙ (unknown_met w n).0
  | large e ↦ ap (meets w n) e ∙ (unknown_met w n).1
  | out_of_range o ↦ out_met w n t (next_out o p.reached)
  | unexpected u l r v ↦ stops_unexpected _ (meets w n t) (says w t p) u l r v
  | too_deep depth count deep b ↦
      let i = wanted p b in
      ap (checked w n t) i.steps ∙ limited_deep w i.rest n t (omega (arith, deep, i.depth_is))
  | too_many depth count shallow many b ↦
      let i = wanted p b in
      ap (checked w n t) i.steps
      ∙ limited_many w i.rest n t (omega (arith, b.is_node, i.depth_is)) (omega (arith, shallow, i.depth_is))
      (omega (arith, many, i.count_is))
]
