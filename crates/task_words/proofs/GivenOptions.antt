-- The values of the options of the command that is called, if `clap` accepts the words.
use Rattle.std.proofs.Common.{◌≡◌, ℕ, Bool, true, false, true≢false, not, List, [], ◌∷◌, Option, Some, None, Result}
use Rattle.std.proofs.Common.{inl, inr, pos, refl, sym, ◌∙◌, ap, subst, arith, codes, ◌<◌, ◌^◌}
use Rattle.std.specs.Prelude.{◌||◌, ◌&&◌, ◌==◌, cond, find, is_none, option_and_then, slice_get, if◌then◌else◌}
use Rattle.std.proofs.lemmas.Bool.{and_parts, or_left, or_right}
use Rattle.std.proofs.lemmas.Bool.Decides.{Decides-ltb, Decides-eqb}
use Rattle.std.proofs.lemmas.Slice.Eq.{bytes_eq-Decides}
use Rattle.std.specs.List.{list_all, list_any}
use Rattle.std.specs.Option.{IsSomeAnd}
use Rattle.std.specs.Str.{bytes_eq}
use Rattle.std.specs.Str.Parse.{ParsesUnsigned, ExplainsUnsignedError, HasUnsignedDigitsIfOk}
use Rattle.std.specs.declared.num.ParseIntError.{ParseIntError}
use Rattle.clap.specs.Facts.{parser_of_value}
use Rattle.clap.specs.declared.parser.matches.Found.{Found}
use Rattle.clap.specs.Words.{Accepts, IsSignedIn, ReadsOne, Row, Rule, Shape, Text, fault_of, first_of, one_of}
use Rattle.clap.specs.Words.{one_text, read_as, reading_of, rows_of, subcommand_of, without_minus}
use Rattle.clap.specs.Simple.{built}
use Rattle.clap.specs.Walk.{arg_by_id}
use Rattle.clap.proofs.CallerReads.{signed_reads}
use Rattle.clap.proofs.WalkLemmas.{one_text-rows}
use Rattle.clap.specs.declared.builder.value_parser.ValueParser.{ValueParser}
use Rattle.clap.specs.declared.builder.value_parser.ValueParser.TheVariants.{Signed}
use Rattle.task_words.specs.OptionLines.{HasValue, HaveValues, IsOneOf, is_always_given, is_option_line}
use Rattle.task_words.proofs.OptionRows.{AreRowsOf}
use Rattle.task_words.proofs.OwnSubcommands.{IsMet, options_have_values}
use Rattle.task_words.specs.CommandLine.{command_line}
use Rattle.task_words.specs.Options.{IsBetween, IsNamed, IsTaken, is_parser_of, is_rule_of, names_with}
use Rattle.task_words.specs.Words.{HasNumber, IsRingName}
use Rattle.task_words.specs.declared.option_rows.OptionRow.{OptionRow}
use Rattle.task_words.specs.declared.option_rows.Values.{Values}
use Rattle.task_words.specs.declared.option_rows.Values.TheVariants as values

-- ---- an option of the command that is called

-- whether one of the commands has this name
abbrev is_name : List Shape → Text → Bool
is_name commands name = list_any (λ command. bytes_eq command.name name) commands

-- no two commands have one name
abbrev have_own_names : List Shape → Bool
have_own_names [] = true
have_own_names (command ∷ commands) = not (is_name commands command.name) && have_own_names commands

first_is_name : (command : Shape) (commands : List Shape) (name : Text) → name ≡ command.name
    → is_name (command ∷ commands) name ≡ true
first_is_name command commands name is = or_left _ _ ((bytes_eq-Decides command.name name).1 (sym is))

called_is_name : (commands : List Shape) (name : Text) (values : List Row) → IsOneOf commands name values
    → is_name commands name ≡ true
called_is_name [] name values one = absurd one
called_is_name (command ∷ commands) name values (inl (is, have)) = first_is_name command commands name is
called_is_name (command ∷ commands) name values (inr one) =
    or_right (bytes_eq command.name name) _ (called_is_name commands name values one)

named_is_name : (test : Rule → Bool) (commands : List Shape) (name : Text) → IsNamed (names_with test commands) name
    → is_name commands name ≡ true
named_is_name test [] name named = absurd named
named_is_name test (command ∷ commands) name named =
    go (list_any test command.rules) named (named_is_name test commands name)
  where
    go : (b : Bool) → IsNamed (if b then command.name ∷ names_with test commands else names_with test commands) name
        → (IsNamed (names_with test commands) name → is_name commands name ≡ true)
        → is_name (command ∷ commands) name ≡ true
    go true (inl is) rest = first_is_name command commands name is
    go true (inr more) rest = or_right (bytes_eq command.name name) _ (rest more)
    go false more rest = or_right (bytes_eq command.name name) _ (rest more)

-- an option that passes a test has a value
abbrev IsGiven : (Rule → Bool) → List Row → Type 0
IsGiven test values = (rule : Rule) × (test rule ≡ true) × (is_always_given rule ≡ true → HasValue rule values)

one_given : (test : Rule → Bool) (rules : List Rule) (values : List Row) → list_any test rules ≡ true
    → HaveValues rules values → IsGiven test values
one_given test [] values some have = absurd (true≢false (sym some))
one_given test (rule ∷ rules) values some have =
    go (test rule) refl some (λ more. one_given test rules values more have.1)
  where
    go : (b : Bool) → test rule ≡ b → (b || list_any test rules) ≡ true
        → (list_any test rules ≡ true → IsGiven test values) → IsGiven test values
    go true is some rest = (rule, is, have.0)
    go false is some rest = rest some

-- a command that has an option that passes a test is called with it
given : (test : Rule → Bool) (commands : List Shape) (name : Text) (values : List Row) → have_own_names commands ≡ true
    → IsOneOf commands name values → IsNamed (names_with test commands) name → IsGiven test values
given test [] name values own one named = absurd one
given test (command ∷ commands) name values own one named =
    let (apart, rest) = and_parts (not (is_name commands command.name)) _ own in
    go (list_any test command.rules) refl one named apart (given test commands name values rest)
  where
    other : not (is_name commands command.name) ≡ true → is_name commands name ≡ true → ¬ (name ≡ command.name)
    other apart among is =
        let among' : is_name commands command.name ≡ true = subst (λ n. is_name commands n ≡ true) is among in
        true≢false (sym apart ∙ ap not among')

    go : (b : Bool) → list_any test command.rules ≡ b → IsOneOf (command ∷ commands) name values
        → IsNamed (if b then command.name ∷ names_with test commands else names_with test commands) name
        → not (is_name commands command.name) ≡ true
        → (IsOneOf commands name values → IsNamed (names_with test commands) name → IsGiven test values)
        → IsGiven test values
    go true has (inl (is, have)) named apart rest = one_given test command.rules values has have
    go false has (inl (is, have)) named apart rest = absurd (other apart (named_is_name test commands name named) is)
    go true has (inr one) (inl is) apart rest = absurd (other apart (called_is_name commands name values one) is)
    go true has (inr one) (inr named) apart rest = rest one named
    go false has (inr one) named apart rest = rest one named

-- ---- the number that a value is

-- the option has a value
abbrev pub IsTextGiven : Text → List Row → Type 0
IsTextGiven option rows = (text : Text) × (first_of option rows ≡ Some text)

-- the option has a value, which is one of these numbers
abbrev IsNumberGiven : Values → Text → List Row → Type 0
IsNumberGiven values.Text option rows = ⊥
IsNumberGiven (values.Numbers low high) option rows =
    (high < 2 ^ 32) × (text : Text) × (one_of option rows ≡ Some (without_minus text))
    × IsSignedIn (pos low) (pos high) text

-- a value that a parser of these numbers accepts is one of them
by_parser : (v : Values) (parser : ValueParser) (ignore_case : Bool) (id option : Text) (rows : List Row) → id ≡ option
    → is_parser_of v parser ≡ true
    → (text : Text) × (first_of id rows ≡ Some text) × (one_of id rows ≡ Some (read_as (reading_of parser) text))
    × Accepts ignore_case parser text
    → IsNumberGiven v option rows
by_parser (values.Numbers low high) (Signed (pos first) (pos last)) ignore_case id option rows same is
    (text, found, one, accepted) =
    let (low_is, rest) = and_parts (low == first) _ is in
    let (high_is, small) = and_parts (high == last) _ rest in
    let low_same : low ≡ first = (Decides-eqb low first).0 low_is in
    let high_same : high ≡ last = (Decides-eqb high last).0 high_is in
    ((Decides-ltb high (2 ^ 32)).0 small, text, subst (λ (o : Text). one_of o rows ≡ Some (without_minus text)) same one, rw (low_same, high_same) accepted)
by_parser _ _ ignore_case id option rows same is value = absurd (true≢false (sym is))

-- a command is called with the option of each row that it takes
pub number_given : (row : OptionRow) (name : Text) (rows : List Row) → IsOneOf command_line.subs name rows
    → IsTaken row name
    → IsNumberGiven row.values row.name.now rows
number_given row name rows one taken =
    let (rule, is, value) = given (is_rule_of row) command_line.subs name rows refl one taken in
    let (named, rest) = and_parts (bytes_eq rule.id row.name.now) _ is in
    let (parser, always) = and_parts (is_parser_of row.values (parser_of_value rule.parser)) _ rest in
    by_parser row.values (parser_of_value rule.parser) rule.ignore_case rule.id row.name.now rows
    ((bytes_eq-Decides rule.id row.name.now).0 named) parser
    (value always)

-- what `u32` reads from a text
abbrev Reads32 : List ℕ → Result ℕ ParseIntError → Type 0
Reads32 text r = ParsesUnsigned 32 10 text r × ExplainsUnsignedError 10 text r × HasUnsignedDigitsIfOk text r

-- the number that the value of an option is
pub number_read : (f : Found) (row : OptionRow) (r : Option ℕ)
    → ((text : Text) → one_text f row.name.now ≡ Some text → ReadsOne Reads32 text r)
    → IsNumberGiven row.values row.name.now (rows_of f) → (n : ℕ) × (r ≡ Some n) × HasNumber (rows_of f) row.name.now n
    × IsBetween row.values n
number_read f row r reads value = go row.values value
  where
    read_is : (o : Option ℕ) (n : ℕ) (text : Text)
        → one_of row.name.now (rows_of f) ≡ Some (without_minus text) → o ≡ Some n
        → ReadsOne Reads32 (without_minus text) o → HasNumber (rows_of f) row.name.now n
    read_is (Some m) n text found is read =
        let same : n ≡ m = grind arith in
        (without_minus text, found, read.0.0, same ∙ read.0.1)
    read_is None n text found is read = absurd (grind arith)

    go : (v : Values) → IsNumberGiven v row.name.now (rows_of f)
        → (n : ℕ) × (r ≡ Some n) × HasNumber (rows_of f) row.name.now n × IsBetween v n
    go values.Text none = absurd none
    go (values.Numbers low high) (fits, text, found, passed) =
        let read = reads (without_minus text) (one_text-rows f row.name.now ∙ found) in
        let number = signed_reads ParseIntError Reads32 32 low high text r read (λ u x g. g.0) fits passed in
        (number.0, number.1, read_is r number.0 text found number.1 read, (number.2, number.3))

-- ---- the ring

-- a rule is a required option `--ring`
abbrev is_ring_rule : Rule → Bool
is_ring_rule rule = bytes_eq rule.id (codes "ring") && is_always_given rule

-- a command that takes a ring is called with one
pub ring_given : (name : Text) (rows : List Row) → IsOneOf command_line.subs name rows → IsRingName name
    → IsTextGiven (codes "ring") rows
ring_given name rows one on_ring =
    let (rule, is, value) = given is_ring_rule command_line.subs name rows refl one (named on_ring) in
    let (ring, always) = and_parts (bytes_eq rule.id (codes "ring")) _ is in
    let (text, found, one_is, accepted) = value always in
    (text, subst (λ (o : Text). first_of o rows ≡ Some text) ((bytes_eq-Decides rule.id (codes "ring")).0 ring) found)
  where
    named : IsRingName name → IsNamed (names_with is_ring_rule command_line.subs) name
    named (inl is) = inl is
    named (inr (inl is)) = inr (inl is)
    named (inr (inr (inl is))) = inr (inr (inl is))
    named (inr (inr (inr (inl is)))) = inr (inr (inr (inl is)))
    named (inr (inr (inr (inr is)))) = inr (inr (inr (inr (inl is))))

-- ---- the command that is called

is_line : is_option_line command_line ≡ true
is_line = refl

-- whether a command has another name than `formula`, or no option `--format`
abbrev lacks_format : Shape → Bool
lacks_format s = not (bytes_eq s.name (codes "formula")) || is_none (arg_by_id s.rules (codes "format"))

each_lacks : list_all lacks_format (built command_line).subs ≡ true
each_lacks = refl

-- if `clap` accepts the words, they name one of the commands, whose options have their values
abbrev IsMetHere : Text × List Row → Type 0
IsMetHere met = IsMet lacks_format command_line.subs met.0 met.1

taken : (words : List Text) → fault_of command_line words ≡ [] → IsSomeAnd (subcommand_of command_line words) IsMetHere
taken words clean = options_have_values command_line words is_line clean lacks_format each_lacks

met_here : (words : List Text) (name : Text) (values : List Row) → fault_of command_line words ≡ []
    → subcommand_of command_line words ≡ Some (name, values)
    → IsMetHere (name, values)
met_here words name values clean met = subst (λ o. IsSomeAnd o IsMetHere) met (taken words clean)

pub command_given : (words : List Text) (name : Text) (values : List Row) → fault_of command_line words ≡ []
    → subcommand_of command_line words ≡ Some (name, values) → IsOneOf command_line.subs name values
command_given words name values clean met = (met_here words name values clean met).0

pub some_command : (words : List Text) → fault_of command_line words ≡ [] → subcommand_of command_line words ≡ None → ⊥
some_command words clean met = subst (λ o. IsSomeAnd o IsMetHere) met (taken words clean)

-- ---- the form of a report

-- an option that a command lacks has no row
no_row : (rules : List Rule) (id : Text) (rows : List Row) → arg_by_id rules id ≡ None → AreRowsOf rules rows
    → find (λ row. bytes_eq row.id id) rows ≡ None
no_row rules id [] none are = refl
no_row rules id (row ∷ rows) none are = go (bytes_eq row.id id) refl (no_row rules id rows none are.1)
  where
    no_rule : (rule : Rule) → None ≡ Some rule → ⊥
    no_rule rule is = cc

    go : (b : Bool) → bytes_eq row.id id ≡ b → find (λ other. bytes_eq other.id id) rows ≡ None
        → cond b (Some row) (find (λ other. bytes_eq other.id id) rows) ≡ None
    go true is next = absurd
        (no_rule are.0.0 (sym none ∙ ap (arg_by_id rules) (sym ((bytes_eq-Decides row.id id).0 is)) ∙ are.0.1))
    go false is next = next

lacking : (s : Shape) → lacks_format s ≡ true → s.name ≡ codes "formula" → arg_by_id s.rules (codes "format") ≡ None
lacking s test named = none_is (arg_by_id s.rules (codes "format"))
    (go (bytes_eq s.name (codes "formula")) ((bytes_eq-Decides s.name (codes "formula")).1 named) test)
  where
    none_is : (o : Option Rule) → is_none o ≡ true → o ≡ None
    none_is None is = refl
    none_is (Some rule) is = absurd (true≢false (sym is))

    go : (b : Bool) → b ≡ true → (not b || is_none (arg_by_id s.rules (codes "format"))) ≡ true
        → is_none (arg_by_id s.rules (codes "format")) ≡ true
    go true is passes = passes
    go false is passes = absurd (true≢false (sym is))

-- a formula is called without `--format`
pub no_format_given : (words : List Text) (name : Text) (values : List Row) → fault_of command_line words ≡ []
    → subcommand_of command_line words ≡ Some (name, values) → name ≡ codes "formula"
    → first_of (codes "format") values ≡ None
no_format_given words name values clean met is =
    let (s, passes, named, are) = (met_here words name values clean met).1 in
    ap (option_and_then (λ (row : Row). slice_get row.values 0))
    (no_row s.rules (codes "format") values (lacking s passes (named ∙ is)) are)
