-- What is left of a program after some tokens, how one token leads on, and that a program is read so. A whole program
-- is left before its first token.
use Rattle.std.proofs.Common.{ℕ, zero, suc, ◌+◌, ◌-◌, ◌==◌, nat_le, ◌&&◌, List, [], ◌∷◌, Option, Some, None, ◌≡◌, ◌<◌}
use Rattle.std.proofs.Common.{◌++◌, refl, ap, ◌∙◌, arith, append_assoc, append-nil}
use Rattle.std.specs.Prelude.{if◌then◌else◌}
use Rattle.std.proofs.lemmas.Bool.Decides.{nat_tests}
use Rattle.node_program.specs.declared.limits.TheConstants.{MAX_DEPTH, MAX_NODES, MAX_CHANNELS}
use Rattle.node_program.specs.declared.limits.TheConstants.{MAX_REGISTERS, MAX_ROUNDS}
use Rattle.node_lang.specs.declared.expected.Expected.{Expected}
use Rattle.node_lang.specs.declared.expected.Expected.TheVariants as expected
use Rattle.node_lang.specs.declared.fault.FaultKind.{FaultKind}
use Rattle.node_lang.specs.declared.fault.FaultKind.TheVariants as kind
use Rattle.node_lang.specs.declared.token.Token.{Token}
use Rattle.node_lang.specs.declared.token.Token.TheVariants as token
use Rattle.node_program.specs.Term.{Term, Literal, Identifier, LeftMessage, RightMessage, RegisterValue, One, Two}
use Rattle.node_program.specs.Term.{Choose, Round, ProgramTree}
use Rattle.node_lang.specs.Reading.{same_token, fault_of, Read, Reader, Fault, go_on, done, ◌>>=◌, ◌>>◌, exactly, node}
use Rattle.node_lang.specs.Reading.{one_of, two_of, three_of, operand, expression, number, end, each, assign, assigns}
use Rattle.node_lang.specs.Reading.{round, rounds, header, program}
use Rattle.node_lang.specs.Lexemes.{Lexeme}
use Rattle.node_lang.proofs.Parsing.{go_on_assoc, operand_is, same_after}

-- Nothing, with the program that was read; or a token, an expression under this many others, or a number of the header,
-- and then the rest.
pub data Rest : Type 0 where
  Nothing : ProgramTree → Rest
  AToken : Token → Rest → Rest
  AnExpression : ℕ → (Term → Rest) → Rest
  ANumber : ℕ → ℕ → (ℕ → Rest) → Rest

-- a token, then an operand of an expression under d others
abbrev an_operand : Token → ℕ → (Term → Rest) → Rest
an_operand t d w = AToken t (AnExpression (d + 1) w)

-- the end of an operation, then the rest
abbrev closed : Rest → Rest
closed w = AToken token.Close w

-- the rest after a token that begins an expression
abbrev pub following : ℕ → (Term → Rest) → Token → Option Rest
following d w (token.Number n) = Some (w (Literal n))
following d w token.Id = Some (w Identifier)
following d w token.FromLeft = Some (w LeftMessage)
following d w token.FromRight = Some (w RightMessage)
following d w (token.Register j) = Some (w (RegisterValue j))
following d w (token.One o) = Some (an_operand token.Open d (λ a. closed (w (One o a))))
following d w (token.Two o) =
    Some (an_operand token.Open d (λ a. an_operand token.Comma d (λ b. closed (w (Two o a b)))))
following d w token.If =
    Some (an_operand token.Open d
    (λ c. an_operand token.Comma d (λ a. an_operand token.Comma d (λ b. closed (w (Choose c a b))))))
following d w _ = None

-- the rest after a token, if it can come next
abbrev pub step : Rest → Token → Option Rest
step (Nothing p) t = None
step (AToken s w) t = if same_token t s then Some w else None
step (AnExpression d w) t = following d w t
step (ANumber low high w) (token.Number n) = Some (w n)
step (ANumber low high w) _ = None

-- the depth of the node that begins next, or 0 where none does
abbrev pub depth_next : Rest → ℕ
depth_next (AnExpression d w) = d + 1
depth_next _ = 0

-- what can come next
abbrev pub expected_of : Rest → Expected
expected_of (Nothing p) = expected.End
expected_of (AToken t w) = expected.This t
expected_of (AnExpression d w) = expected.Expression
expected_of (ANumber low high w) = expected.Number

-- the number of nodes after one more token
abbrev pub counted : Rest → ℕ → ℕ
counted (AnExpression d w) nodes = nodes + 1
counted _ nodes = nodes

-- the effect of a token: reading stops, or goes on
pub data Met : Type 0 where
  Stops : FaultKind → Met
  Goes : Rest → Met

-- a token that can come next, checked against the limits
abbrev pub limited : Rest → ℕ → Token → Rest → Met
limited (AnExpression d w) nodes t v =
    if (MAX_DEPTH - d) == 0 then Stops kind.TooDeep else if nat_le MAX_NODES nodes then Stops
    kind.TooManyNodes else Goes v
limited (ANumber low high w) nodes (token.Number n) v =
    if nat_le low n && nat_le n high then Goes v else Stops kind.HeaderRange
limited w nodes t v = Goes v

-- a token that may come next or not
abbrev pub checked : Rest → ℕ → Token → Option Rest → Met
checked w nodes t None = Stops (fault_of t)
checked w nodes t (Some v) = limited w nodes t v

-- a token after so many nodes
abbrev pub meets : Rest → ℕ → Token → Met
meets w nodes t = checked w nodes t (step w t)

-- assignments to `count` registers from j on
abbrev pub assignments : ℕ → ℕ → (List Term → Rest) → Rest
assignments zero j w = w []
assignments (suc count) j w =
    AToken (token.Register j) (AToken token.Equals (AnExpression 0 (λ e. assignments count (j + 1) (λ es. w (e ∷ es)))))

-- `count` rounds of this many registers
abbrev pub some_rounds : ℕ → ℕ → (List Round → Rest) → Rest
some_rounds zero registers w = w []
some_rounds (suc count) registers w = AToken token.Round (AToken token.Send (AToken token.Left (AnExpression 0 (λ left.
    AToken token.Send (AToken token.Right (AnExpression 0 (λ right. assignments registers 0 (λ next.
    some_rounds count registers (λ ss. w (record { left = left; right = right; next = next } ∷ ss))))))))))

-- the rest after the header
abbrev pub a_body : ℕ → ℕ → ℕ → Rest
a_body rounds channels registers = assignments registers 0 (λ start. some_rounds rounds registers (λ steps.
    AToken token.Finish (AnExpression 0
    (λ finish. Nothing (record { channels = channels; start = start; steps = steps; finish = finish })))))

-- a whole program
abbrev pub a_program : Rest
a_program =
    AToken token.Rounds (ANumber 0 MAX_ROUNDS (λ rounds. AToken token.Channels (ANumber 1 MAX_CHANNELS (λ channels.
    AToken token.Registers (ANumber 1 MAX_REGISTERS
    (λ registers. AToken token.Start (a_body rounds channels registers)))))))

-- reads the rest
abbrev pub read : Rest → Reader ProgramTree
read (Nothing p) nodes left = go_on (end nodes left) (λ _. done p)
read (AToken t w) nodes left = go_on (exactly t nodes left) (λ _ n ls. read w n ls)
read (AnExpression d w) nodes left = go_on (expression (MAX_DEPTH - d) nodes left) (λ e n ls. read (w e) n ls)
read (ANumber low high w) nodes left = go_on (number low high nodes left) (λ k n ls. read (w k) n ls)

-- continues reading after a token where this was expected
abbrev pub went : Expected → ℕ → ℕ → List Lexeme → Met → Read ProgramTree
went e nodes from ls (Stops k) = Fault k e from
went e nodes from ls (Goes v) = read v nodes ls

-- a node that is expected
node_next : (d : ℕ) (w : Term → Rest) (n from : ℕ) (t : Token) (ls : List Lexeme) (more : Reader Term) (v : Rest) →
    (0 < MAX_DEPTH - d → go_on (more (n + 1) ls) (λ e. read (w e)) ≡ read v (n + 1) ls) →
    go_on (go_on (node (MAX_DEPTH - d) from n ls) (λ _. more)) (λ e. read (w e))
    ≡ went expected.Expression (n + 1) from ls (limited (AnExpression d w) n t v)
node_next d w n from t ls more v h = grind (arith, nat_tests, h)

below : (d : ℕ) → 0 < MAX_DEPTH - d → operand (MAX_DEPTH - d) ≡ expression (MAX_DEPTH - (d + 1))
below d some = operand_is (MAX_DEPTH - d) some ∙ ap expression (omega arith)

term_next : (d : ℕ) (w : Term → Rest) (n from : ℕ) (t : Token) (ls : List Lexeme) →
    read (AnExpression d w) n (record { from = from; token = t } ∷ ls)
    ≡ went expected.Expression (n + 1) from ls (meets (AnExpression d w) n t)
unfolding expression one_of two_of three_of
term_next d w n from (token.One o) ls =
    node_next d w n from (token.One o) ls _ _ (λ some. rw (below d some) (simp go_on_assoc))
term_next d w n from (token.Two o) ls =
    node_next d w n from (token.Two o) ls _ _ (λ some. rw (below d some) (simp go_on_assoc))
term_next d w n from token.If ls = node_next d w n from token.If ls _ _ (λ some. rw (below d some) (simp go_on_assoc))
term_next d w n from t ls = grind (arith, nat_tests)

-- reading the rest is reading one token, then what is left after it
pub read_next : (w : Rest) (n from : ℕ) (t : Token) (ls : List Lexeme) →
    read w n (record { from = from; token = t } ∷ ls) ≡
    went (expected_of w) (counted w n) from ls (meets w n t)
read_next (Nothing p) n from t ls = refl
read_next (AToken s w) n from token.Unknown ls = refl
read_next (AToken s w) n from token.LargeNumber ls = refl
read_next (AToken s w) n from t ls = grind (arith, nat_tests)
read_next (AnExpression d w) n from t ls = term_next d w n from t ls
read_next (ANumber low high w) n from (token.Number k) ls = grind (arith, nat_tests)
read_next (ANumber low high w) n from t ls = refl

-- assignments, and then the rest
assigns_read : (count j : ℕ) (parts : List Term) (w : List Term → Rest) (n : ℕ) (ls : List Lexeme) →
    go_on (each assign count j parts n ls) (λ es. read (w es)) ≡ read (assignments count j (λ es. w (parts ++ es))) n ls
unfolding assign
assigns_read zero j parts w n ls = simp append-nil
assigns_read (suc count) j parts w n ls =
    simp (go_on_assoc, λ (e : Term). assigns_read count (j + 1) (parts ++ (e ∷ [])) w, append_assoc)

-- rounds, and then the rest
rounds_read : (count many j : ℕ) (parts : List Round) (w : List Round → Rest) (n : ℕ) (ls : List Lexeme) →
    go_on (each (λ _. round many) count j parts n ls) (λ ss. read (w ss))
    ≡ read (some_rounds count many (λ ss. w (parts ++ ss))) n ls
unfolding round assigns
rounds_read zero many j parts w n ls = simp append-nil
rounds_read (suc count) many j parts w n ls =
    let after : Term → Term → List Term → Rest =
    λ a b es. some_rounds count many (λ ss. w (parts ++ (record { left = a; right = b; next = es } ∷ ss))) in
    simp (
      go_on_assoc,
      λ (s : Round). rounds_read count many (j + 1) (parts ++ (s ∷ [])) w,
      append_assoc,
      λ (a b : Term). assigns_read many 0 [] (after a b),
    )

-- what follows the header
body_read : (c i r n : ℕ) (ls : List Lexeme) →
    go_on (assigns r n ls) (λ start. rounds i r >>= λ steps. exactly token.Finish >> (expression MAX_DEPTH >>= λ finish.
    end >> done (record { channels = c; start = start; steps = steps; finish = finish })))
    ≡ read (a_body i c r) n ls
unfolding assigns rounds
body_read c i r n ls =
    let last : List Term → List Round → Rest =
    λ es ss. AToken token.Finish
    (AnExpression 0 (λ e. Nothing (record { channels = c; start = es; steps = ss; finish = e }))) in
    same_after (assigns r n ls) _ _ (λ es m left. rounds_read i r 0 [] (last es) m left)
    ∙ assigns_read r 0 [] (λ es. some_rounds i r (last es)) n ls

-- reading a program is reading the rest before its first token
pub program_read : (n : ℕ) (ls : List Lexeme) → program n ls ≡ read a_program n ls
unfolding program header
program_read n ls =
    same_after (header n ls) _ (λ c m left. read (a_body c.rounds c.channels c.registers) m left)
    (λ c m left. body_read c.channels c.rounds c.registers m left)
    ∙ simp go_on_assoc
