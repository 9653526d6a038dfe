-- Lemmas on the readers, for the methods of the parser.
use Rattle.std.proofs.Common.{◌≡◌, ℕ, zero, suc, ◌+◌, ◌-◌, ◌<◌, true, List, [], ◌∷◌, ◌++◌, map, Some, Result, Err, Ok}
use Rattle.std.proofs.Common.{refl, sym, ap, subst, length, ◌≤◌, ◌∙◌, arith}
use Rattle.std.proofs.lemmas.Bool.{eqb-true}
use Rattle.std.proofs.lemmas.List.{map-append}
use Rattle.node_lang.specs.declared.expected.Expected.TheVariants as expected
use Rattle.node_lang.specs.declared.fault.Stop.{Stop}
use Rattle.node_lang.specs.declared.parser.Parser.{Parser}
use Rattle.node_lang.specs.declared.token.Token.{Token}
use Rattle.node_lang.specs.declared.token.Token.TheVariants as token
use Rattle.node_lang.specs.Lexemes.{Lexeme, lexemes_from}
use Rattle.node_lang.specs.Reading.{Read, Reader, Got, Fault, ◌>>=◌, ◌>>◌, after, assigns, done, each, exactly}
use Rattle.node_lang.specs.Reading.{expression, go_on, header, next, node, number, operand, round, same_token}
use Rattle.node_lang.specs.Parsing.{Gives, expression_after, field, opened}
use Rattle.node_program.specs.declared.limits.TheConstants.{MAX_CHANNELS, MAX_DEPTH, MAX_REGISTERS, MAX_ROUNDS}
use Rattle.node_program.specs.declared.tree.Expr.{Expr}
use Rattle.node_program.specs.Term.{Term, term_of}

-- tokens that are the same are equal
pub same_token_is : (s t : Token) → same_token s t ≡ true → s ≡ t
same_token_is (token.Register i) (token.Register j) h = ap token.Register (eqb-true i j h)
same_token_is (token.Register i) t h = cc
same_token_is s token.Rounds h = cc
same_token_is s t h = cc

-- an operand has one level less than its expression
pub operand_is : (levels : ℕ) → 0 < levels → operand levels ≡ expression (levels - 1)
unfolding expression
operand_is zero h = absurd (omega (arith, h))
operand_is (suc n) h = rw (let e : suc n - 1 ≡ n = omega arith in e) refl

-- the parts below j were read, with these values, and the others follow
pub record HasRead {T A : Type 0} (tree : T → A) (part : ℕ → ℕ → List Lexeme → Read A) (high j : ℕ)
    (parts : List T) (old now : Parser) : Type 0 where
  pub text_is : now.text.now ≡ old.text.now
  pub reads : each part high 0 [] old.nodes (lexemes_from old.text.now old.at)
      ≡ each part (high - j) j (map tree parts) now.nodes (lexemes_from old.text.now now.at)

next_read : {A : Type 0} (part : ℕ → ℕ → List Lexeme → Read A) (high j : ℕ) (parts : List A) (nodes : ℕ)
    (left : List Lexeme) (r : Read A) → j < high → part j nodes left ≡ r →
    each part (high - j) j parts nodes left
    ≡ go_on r (λ a n l. each part (high - (j + 1)) (j + 1) (parts ++ (a ∷ [])) n l)
next_read part high j parts nodes left r h e =
    rw (let step : high - j ≡ suc (high - (j + 1)) = omega arith in step, e) refl

pub one_read : {T A : Type 0} {tree : T → A} {part : ℕ → ℕ → List Lexeme → Read A} {high j : ℕ}
    {parts longer : List T} {old now new : Parser} (v : T) → j < high →
    HasRead tree part high j parts old now → Gives tree now new (Ok v) (part j) → longer ≡ parts ++ (v ∷ []) →
    HasRead tree part high (j + 1) longer old new
one_read {tree = tree} {part} {high} {j} {parts} {now = now} v h done read more = record {
  text_is = read.0 ∙ done.text_is;
  reads = rw (more, map-append tree parts (v ∷ []))
      (done.reads ∙ next_read part high j (map tree parts) now.nodes _ _ h (rw done.text_is at read.1));
}

pub stops_there : {T A : Type 0} {tree : T → A} {part : ℕ → ℕ → List Lexeme → Read A} {high j : ℕ}
    {parts : List T} {old now : Parser} (f : Stop) → j < high →
    HasRead tree part high j parts old now → Gives tree now now (Err f) (part j) →
    Gives (λ xs. xs) old old (Err f) (each part high 0 [])
stops_there {tree = tree} {part} {high} {j} {parts} {now = now} f h done stopped = (
  stopped.0,
  λ m.
      let at = rw done.text_is at (stopped.1 m) in
      (at.0, done.reads ∙ next_read part high j (map tree parts) now.nodes _ _ h at.1),
)

-- readers in a row in two groupings, if they behave the same after the first
pub same_after : {A B : Type 0} (first : Read A) (second other : A → ℕ → List Lexeme → Read B) →
    ((a : A) (n : ℕ) (l : List Lexeme) → second a n l ≡ other a n l) →
    go_on first second ≡ go_on first other
same_after (Got a n l) second other same = same a n l
same_after (Fault k e from) second other same = refl

regrouped : {A B C : Type 0} (first : Read A) (second : A → ℕ → List Lexeme → Read B)
    (third : B → ℕ → List Lexeme → Read C) (other : A → ℕ → List Lexeme → Read C) →
    ((a : A) (n : ℕ) (l : List Lexeme) → go_on (second a n l) third ≡ other a n l) →
    go_on (go_on first second) third ≡ go_on first other
regrouped (Got a n l) second third other same = same a n l
regrouped (Fault k e from) second third other same = refl

-- going on and going on again
pub go_on_assoc : {A B C : Type 0} (r : Read A) (f : A → ℕ → List Lexeme → Read B) (g : B → ℕ → List Lexeme → Read C) →
    go_on (go_on r f) g ≡ go_on r (λ a n ls. go_on (f a n ls) g)
go_on_assoc (Got a n ls) f g = refl
go_on_assoc (Fault k e from) f g = refl

-- the header, field by field
pub header_is : (nodes : ℕ) (left : List Lexeme) → header nodes left ≡ (do
  rounds ← field token.Rounds 0 MAX_ROUNDS
  channels ← field token.Channels 1 MAX_CHANNELS
  registers ← field token.Registers 1 MAX_REGISTERS
  exactly token.Start
  done (record { rounds = rounds; channels = channels; registers = registers })) nodes left
unfolding header
header_is nodes left =
    sym (regrouped (exactly token.Rounds nodes left) _ _ _
    (λ _ n l. same_after (number 0 MAX_ROUNDS n l) _ _ (λ rounds n l.
    regrouped (exactly token.Channels n l) _ _ _ (λ _ n l. same_after (number 1 MAX_CHANNELS n l) _ _ (λ channels n l.
    regrouped (exactly token.Registers n l) _ _ _ (λ _ n l. refl))))))

-- a round, part by part
pub round_is : (registers nodes : ℕ) (left : List Lexeme) → round registers nodes left ≡ (do
  exactly token.Round
  left ← expression_after token.Send token.Left
  right ← expression_after token.Send token.Right
  next ← assigns registers
  done (record { left = left; right = right; next = next })) nodes left
unfolding round expression_after
round_is registers nodes left =
    sym (same_after (exactly token.Round nodes left) _ _ (λ _ n l.
    regrouped (exactly token.Send n l) _ _ _
    (λ _ n l. regrouped (exactly token.Left n l) _ _ _
    (λ _ n l. same_after (expression MAX_DEPTH n l) _ _ (λ left n l.
    regrouped (exactly token.Send n l) _ _ _ (λ _ n l. regrouped (exactly token.Right n l) _ _ _ (λ _ n l. refl)))))))

-- a method whose last step behaves as the rest of its reader
pub gives_rest : {T A : Type 0} (tree : T → A) (old now new : Parser) (r : Result T Stop)
    (whole rest : ℕ → List Lexeme → Read A) → now.text.now ≡ old.text.now →
    whole old.nodes (lexemes_from old.text.now old.at) ≡ rest now.nodes (lexemes_from now.text.now now.at) →
    Gives tree now new r rest → Gives tree old new r whole
gives_rest tree old now new (Ok v) whole rest same begins given =
    (given.0 ∙ same, begins ∙ given.1 ∙ ap (λ t. Got (tree v) new.nodes (lexemes_from t new.at)) same)
gives_rest tree old now new (Err f) whole rest same begins given = (
  given.0,
  λ m.
      let at = given.1 m in (
        subst (λ t. f.offset ≤ length t) same at.0,
        begins ∙ at.1
            ∙ ap (λ t. Fault f.kind f.expected (length t - f.offset)) same,
      ),
)

-- a method that reads one part and then behaves as the reader of the next
pub gives_next : {T U A B : Type 0} (tree : T → A) (tree' : U → B) (old now new : Parser) (v : T)
    (r : Result U Stop) (first : ℕ → List Lexeme → Read A)
    (second : A → ℕ → List Lexeme → Read B) → Gives tree old now (Ok v) first →
    Gives tree' now new r (second (tree v)) → Gives tree' old new r (λ n l. go_on (first n l) second)
gives_next tree tree' old now new v r first second given more =
    gives_rest tree' old now new r (λ n l. go_on (first n l) second) (second (tree v)) given.0
    (ap (λ x. go_on x second) given.1 ∙ ap (λ t. second (tree v) now.nodes (lexemes_from t now.at)) (sym given.0)) more

-- a method that reads the first token of an operation and then behaves as the rest of its reader
pub gives_operation : {A : Type 0} (old now new : Parser) (levels : ℕ) (first : Token × ℕ) (r : Result Expr Stop)
    (inner : Reader A) (f : A → Reader Term) (rest : Reader Term) →
    Gives (λ (t : Token × ℕ). record { from = length old.text.now - t.1; token = t.0 }) old now (Ok first)
    (next expected.Expression) →
    after (operand levels) first.0 ≡ Some ((exactly token.Open >> inner) >>= f) →
    ((nodes : ℕ) (left : List Lexeme) → go_on (inner nodes left) f ≡ rest nodes left) →
    Gives term_of now new r (opened levels (length now.text.now - first.1) >> rest) →
    Gives term_of old new r (expression levels)
unfolding expression
gives_operation old now new levels first r inner f rest read begins same given =
    gives_rest term_of old now new r (expression levels) (opened levels (length now.text.now - first.1) >> rest) read.0
    (rw (read.0, read.1, begins) (sym (regrouped
    (node levels (length old.text.now - first.1) now.nodes (lexemes_from old.text.now now.at)) _ _ _
    (λ _ n l. sym (regrouped (exactly token.Open n l) _ _ _ (λ _ n l. same n l)))))) given
