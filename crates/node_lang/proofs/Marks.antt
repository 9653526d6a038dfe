-- The marks of a program: their tokens are its spelling, and their nodes are those of its expressions.
use Rattle.std.proofs.Common.{◌≡◌, ℕ, ◌+◌, ◌^◌, ◌<◌, ◌≤◌, true, List, [], ◌∷◌, ◌++◌, append_assoc, refl, sym, ap, ◌∙◌}
use Rattle.std.proofs.Common.{arith, add-one}
use Rattle.std.specs.Prelude.{All, sum_by}
use Rattle.std.specs.List.{list_all}
use Rattle.std.proofs.lemmas.Bool.{and_parts, ltb-true}
use Rattle.std.proofs.lemmas.List.Elements.{All-cons, All-nil, All-head, All-tail}
use Rattle.std.proofs.lemmas.List.Sums.{sum_by-cons}
use Rattle.node_program.specs.declared.limits.TheConstants.{MAX_DEPTH}
use Rattle.node_lang.specs.declared.token.Token.{Token}
use Rattle.node_lang.specs.declared.token.Token.TheVariants as token
use Rattle.node_program.specs.Term.{Term, Literal, RegisterValue, One, Two, Choose, depth, size, largest}
use Rattle.node_program.specs.Term.{largest_register, Round, ProgramTree, terms, step_terms}
use Rattle.node_program.specs.Limits.{IsSmall}
use Rattle.node_lang.specs.Grammar.{spelled, assigned, blocks, spelling}
use Rattle.node_lang.specs.Viable.{Mark, node, plain, marked, marked_assignments, marked_blocks, marks, unmarked}
use Rattle.node_lang.specs.Viable.{one_at, nodes_at}
use Rattle.node_lang.proofs.SmallTokens.{is_small}

unmarked_expression : (e : Term) (d : ℕ) (more : List Mark) → unmarked (marked e d more) ≡ spelled e (unmarked more)
unmarked_expression (One o a) d more = simp (unmarked_expression a)
unmarked_expression (Two o a b) d more = simp (unmarked_expression a, unmarked_expression b)
unmarked_expression (Choose c a b) d more = simp (unmarked_expression c, unmarked_expression a, unmarked_expression b)
unmarked_expression e d more = refl

-- no node is too deep
abbrev pub Shallow : List Mark → Type 0
Shallow [] = Unit {0}
Shallow (m ∷ ms) = (m.depth ≤ MAX_DEPTH) × Shallow ms

pub shallow_more : (ms : List Mark) (m : Mark) → Shallow ms → m.depth ≤ MAX_DEPTH → Shallow (ms ++ m ∷ [])
shallow_more [] m h less = (less, tt)
shallow_more (l ∷ ms) m h less = (h.0, shallow_more ms m h.1 less)

pub shallow_at : (ms : List Mark) (m : Mark) (more : List Mark) → Shallow (ms ++ m ∷ more) → m.depth ≤ MAX_DEPTH
shallow_at [] m more h = h.0
shallow_at (l ∷ ms) m more h = shallow_at ms m more h.1

-- and its tokens are small
abbrev pub Fine : List Mark → Type 0
Fine [] = Unit {0}
Fine (m ∷ ms) = (m.depth ≤ MAX_DEPTH) × (is_small m.token ≡ true) × Fine ms

pub fine : (ms : List Mark) → Shallow ms → list_all is_small (unmarked ms) ≡ true → Fine ms
fine [] h small = tt
fine (m ∷ ms) h small = let parts = and_parts (is_small m.token) _ small in (h.0, parts.0, fine ms h.1 parts.1)

-- one more node is counted, whatever its token
node_counts : (d : ℕ) (ms : List Mark) (n : ℕ) → nodes_at ms ≡ n → nodes_at (node token.Id (d + 1) ∷ ms) ≡ 1 + n
node_counts d ms n h = sum_by-cons (λ (m : Mark). one_at m.depth) (node token.Id (d + 1)) ms ∙ rw (add-one d, h) refl

-- the marks of an expression under d others, and its nodes
nodes_marked : (e : Term) (d : ℕ) (ms : List Mark) (n : ℕ) → nodes_at ms ≡ n →
    nodes_at (marked e (d + 1) ms) ≡ size e + n
nodes_marked (One o a) d ms n h =
    let close = plain token.Close ∷ ms in
    node_counts d (plain token.Open ∷ marked a (d + 1 + 1) close) _ (nodes_marked a (d + 1) close n h) ∙ omega arith
nodes_marked (Two o a b) d ms n h =
    let close = plain token.Close ∷ ms in
    let second = plain token.Comma ∷ marked b (d + 1 + 1) close in
    node_counts d (plain token.Open ∷ marked a (d + 1 + 1) second) _
    (nodes_marked a (d + 1) second _ (nodes_marked b (d + 1) close n h)) ∙ omega arith
nodes_marked (Choose c a b) d ms n h =
    let close = plain token.Close ∷ ms in
    let third = plain token.Comma ∷ marked b (d + 1 + 1) close in
    let second = plain token.Comma ∷ marked a (d + 1 + 1) third in
    let operands = nodes_marked a (d + 1) third _ (nodes_marked b (d + 1) close n h) in
    node_counts d (plain token.Open ∷ marked c (d + 1 + 1) second) _ (nodes_marked c (d + 1) second _ operands)
    ∙ omega arith
nodes_marked e d ms n h = node_counts d ms n h

fine_marked : (e : Term) (d : ℕ) (ms : List Mark) → Fine (marked e (d + 1) ms) →
    (depth e + d ≤ MAX_DEPTH) × (largest e < 2 ^ 32) × (largest_register e < 10) × Fine ms
fine_marked (Literal n) d ms h = (omega (arith, h.0), ltb-true n (2 ^ 32) h.1, omega arith, h.2)
fine_marked (RegisterValue j) d ms h = (omega (arith, h.0), omega arith, ltb-true j 10 h.1, h.2)
fine_marked (One o a) d ms h = let p = fine_marked a (d + 1) _ h.2.2 in (omega (arith, p.0), p.1, p.2, p.3.2)
fine_marked (Two o a b) d ms h =
    let p = fine_marked a (d + 1) _ h.2.2 in
    let q = fine_marked b (d + 1) _ p.3.2 in
    (omega (arith, p.0, q.0), omega (arith, p.1, q.1), omega (arith, p.2, q.2), q.3.2)
fine_marked (Choose c a b) d ms h =
    let p = fine_marked c (d + 1) _ h.2.2 in
    let q = fine_marked a (d + 1) _ p.3.2 in
    let r = fine_marked b (d + 1) _ q.3.2 in
    (omega (arith, p.0, q.0, r.0), omega (arith, p.1, q.1, r.1), omega (arith, p.2, q.2, r.2), r.3.2)
fine_marked e d ms h = (omega (arith, h.0), omega arith, omega arith, h.2)

shallow_marked : (e : Term) (d : ℕ) (ms : List Mark) → depth e + d ≤ MAX_DEPTH → Shallow ms →
    Shallow (marked e (d + 1) ms)
shallow_marked (One o a) d ms less h =
    (omega (arith, less), (omega arith, shallow_marked a (d + 1) _ (omega (arith, less)) (omega arith, h)))
shallow_marked (Two o a b) d ms less h = (
  omega (arith, less),
  (
    omega arith,
    shallow_marked a (d + 1) _ (omega (arith, less))
        (omega arith, shallow_marked b (d + 1) _ (omega (arith, less)) (omega arith, h)),
  ),
)
shallow_marked (Choose c a b) d ms less h = (
  omega (arith, less),
  (
    omega arith,
    shallow_marked c (d + 1) _ (omega (arith, less)) (
      omega arith,
      shallow_marked a (d + 1) _ (omega (arith, less))
          (omega arith, shallow_marked b (d + 1) _ (omega (arith, less)) (omega arith, h)),
    ),
  ),
)
shallow_marked e d ms less h = (omega (arith, less), h)

-- these marks have these tokens, and the nodes of these expressions
pub record Matches (ms : List Mark) (es : List Term) (ts : List Token) : Type 0 where
  pub tokens : unmarked ms ≡ ts
  pub nodes : nodes_at ms ≡ sum_by size es
  pub small : Fine ms → All IsSmall es
  pub shallow : All IsSmall es → Shallow ms

plain_matches : {ms : List Mark} {es : List Term} {ts : List Token} {t : Token} → Matches ms es ts →
    Matches (plain t ∷ ms) es (t ∷ ts)
plain_matches {t = t} h =
    record {
      tokens = ap (λ ts. t ∷ ts) h.tokens;
      nodes = h.nodes;
      small = λ f. h.small f.2;
      shallow = λ s. (omega arith, h.shallow s);
    }

term_matches : {ms : List Mark} {es : List Term} {ts : List Token} (e : Term) → Matches ms es ts →
    Matches (marked e 1 ms) (e ∷ es) (spelled e ts)
term_matches {ms} {es} e h = record {
  tokens = unmarked_expression e 1 ms ∙ ap (spelled e) h.tokens;
  nodes = nodes_marked e 0 ms _ h.nodes ∙ sym (sum_by-cons size e es);
  small = λ f.
      let p = fine_marked e 0 ms f in
      All-cons IsSmall e es (record { depth = omega (arith, p.0); numbers = p.1; registers = p.2 }) (h.small p.3);
  shallow = λ s. shallow_marked e 0 ms (let here = All-head IsSmall e es s in
      omega (arith, here.depth)) (h.shallow (All-tail IsSmall e es s));
}

assignments_match : (j : ℕ) (es : List Term) {ms : List Mark} {more : List Term} {ts : List Token} →
    Matches ms more ts →
    Matches (marked_assignments j es ms) (es ++ more) (assigned j es ts)
assignments_match j [] h = h
assignments_match j (e ∷ es) h = plain_matches (plain_matches (term_matches e (assignments_match (j + 1) es h)))

blocks_match : (ss : List Round) {ms : List Mark} {more : List Term} {ts : List Token} → Matches ms more ts →
    Matches (marked_blocks ss ms) (step_terms ss ++ more) (blocks ss ts)
blocks_match [] h = h
blocks_match (s ∷ ss) {more = more} h =
    rw (append_assoc s.next (step_terms ss) more)
    (plain_matches (plain_matches (plain_matches (term_matches s.left
    (plain_matches (plain_matches (term_matches s.right (assignments_match 0 s.next (blocks_match ss h)))))))))

pub program_matches : (p : ProgramTree) → Matches (marks p) (terms p) (spelling p)
program_matches p =
    let none : Matches [] [] [] =
    record { tokens = refl; nodes = refl; small = λ _. All-nil IsSmall; shallow = λ _. tt } in
    plain_matches (plain_matches (plain_matches (plain_matches (plain_matches (plain_matches (plain_matches
    (assignments_match 0 p.start (blocks_match p.steps (plain_matches (term_matches p.finish none))))))))))
