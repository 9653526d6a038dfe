-- A command's own subcommands after building, and the options of the one that a parse entered.
use Rattle.std.proofs.Common.{◌≡◌, ◌∙◌, ◌&&◌, ◌||◌, ℕ, Bool, cond, true, false, not, refl, sym, ap, subst, inl, inr}
use Rattle.std.proofs.Common.{arith, List, [], ◌∷◌, ◌++◌, map, append-nil, append_assoc, Option, Some, None}
use Rattle.std.proofs.Common.{is_some, true≢false}
use Rattle.std.specs.Prelude.{option_map, unwrap_or}
use Rattle.std.specs.List.{find, list_all, list_any}
use Rattle.std.specs.Option.{IsSomeAnd, option_map_or}
use Rattle.std.specs.Str.{bytes_eq}
use Rattle.std.proofs.lemmas.Slice.Eq.{bytes_eq-Decides}
use Rattle.std.proofs.lemmas.Bool.Decides.{nat_tests}
use Rattle.clap.specs.Facts.{parser_of_value}
use Rattle.clap.specs.Values.{Accepts, read_as, reading_of}
use Rattle.clap.specs.Walk.{Row, Rule, Text, answers_to, finished, first_of, is_empty, nothing_held, one_of, rows_after}
use Rattle.clap.specs.Walk.{settled, stop_after, walk, walk_from}
use Rattle.clap.specs.Simple.{App, Shape, argument_words, built, built_leaf, entered, filled, filled_from, help_rule}
use Rattle.clap.specs.Simple.{help_shape, index_after, inherited, label_of, marked_built, names_of, parser_for, rows_at}
use Rattle.clap.specs.Simple.{subcommand_of, version_rule, with_filled_rules, with_help_flag, with_index}
use Rattle.clap.specs.Simple.{with_leaf_noted, with_version_flag}
use Rattle.clap.specs.Kinds.{check_kinds, or_else}
use Rattle.clap.specs.Faults.{built_fault, check_fault, defaults_fault, entered_fault, fault_of, level_fault}
use Rattle.clap.specs.Faults.{settle_fault, walk_fault}
use Rattle.clap.specs.declared.builder.action.ArgAction.{ArgAction}
use Rattle.clap.specs.declared.builder.action.ArgAction.TheVariants as action
use Rattle.clap.specs.declared.builder.value_parser.ValueParser.{ValueParser}
use Rattle.clap.proofs.WalkLemmas.{both}
use Rattle.clap.proofs.SimpleLemmas.{is_false}
use Rattle.task_words.specs.OptionLines.{HasValue, HaveValues, IsOneOf, gets_help, has_plain_options, is_always_given}
use Rattle.task_words.specs.OptionLines.{is_option_line, is_made_of_options, is_made_with_values, is_named_help}
use Rattle.task_words.specs.OptionLines.{is_plain_subcommand, has_values}
use Rattle.task_words.proofs.OptionRows.{AreRowsOf, same_some, split_or}
use Rattle.task_words.proofs.OptionLevels.{level_values, or_more}
use Rattle.task_words.proofs.Stops.{IsNotHelp, StopsAtNoHelp, walk_stops}

-- ---- an option as building fills it in

valued_parser : (x : ArgAction) → has_values x ≡ true → parser_for x ≡ parser_of_value None
valued_parser action.Set e = refl
valued_parser action.Append e = refl
valued_parser action.SetTrue e = absurd (true≢false (sym e))
valued_parser action.SetFalse e = absurd (true≢false (sym e))
valued_parser action.Count e = absurd (true≢false (sym e))
valued_parser action.Help e = absurd (true≢false (sym e))
valued_parser action.HelpShort e = absurd (true≢false (sym e))
valued_parser action.HelpLong e = absurd (true≢false (sym e))
valued_parser action.Version e = absurd (true≢false (sym e))

made_parser : (o : Option ArgAction) (other : ArgAction) → option_map_or has_values o false ≡ true
    → parser_for (unwrap_or o other) ≡ parser_of_value None
made_parser None other e = absurd (true≢false (sym e))
made_parser (Some x) other e = valued_parser x e

filled_parser : (p : Option ValueParser) (x : ArgAction) → parser_for x ≡ parser_of_value None
    → unwrap_or p (parser_for x) ≡ parser_of_value p
filled_parser None x e = e
filled_parser (Some q) x e = refl

value_back : (i : ℕ) (r : Rule) (rows : List Row) → is_made_with_values r ≡ true
    → HasValue (with_index i (filled r)) rows → HasValue r rows
value_back i r rows made h =
    subst (λ q. (text : Text) × (first_of r.id rows ≡ Some text)
    × (one_of r.id rows ≡ Some (read_as (reading_of q) text)) × Accepts r.ignore_case q text)
    (filled_parser r.parser _ (made_parser r.action _ made)) h

always_filled : (i : ℕ) (r : Rule) → is_always_given r ≡ true → is_always_given (with_index i (filled r)) ≡ true
always_filled i r e = or_more r.required (not (is_empty r.defaults)) _
    (λ some. let none : is_empty r.defaults ≡ false = is_false (is_empty r.defaults) some in rw none some) e

values_back : (i : ℕ) (rules added : List Rule) (rows : List Row) → list_all is_made_with_values rules ≡ true
    → HaveValues (filled_from i (rules ++ added)) rows → HaveValues rules rows
values_back i [] added rows made h = tt
values_back i (r ∷ rest) added rows made h =
    let parts = both (is_made_with_values r) (list_all is_made_with_values rest) made in
    (λ always. value_back i r rows parts.0 (h.0 (always_filled i r always)), values_back (index_after i r) rest added rows parts.1 h.1)

-- ---- a subcommand as building fills it in

-- added arguments come last
added_behind : (a b : Bool) (rules : List Rule) (x y : Rule)
    → (added : List Rule) × (cond b (cond a rules (rules ++ x ∷ [])) (cond a rules (rules ++ x ∷ []) ++ y ∷ [])
    ≡ rules ++ added)
added_behind true true rules x y = ([], sym (append-nil rules))
added_behind true false rules x y = (y ∷ [], refl)
added_behind false true rules x y = (x ∷ [], refl)
added_behind false false rules x y = (x ∷ y ∷ [], append_assoc rules (x ∷ []) (y ∷ []))

module _ (above : Shape) where
  -- the subcommand as it is built
  abbrev made : Shape → Shape
  made s = built_leaf (inherited above s)

  made_is : (s : Shape) → s.is_built ≡ false
      → made s ≡ with_filled_rules
      (with_version_flag (with_help_flag (with_leaf_noted (marked_built (inherited above s)))))
  made_is s fresh = rw fresh refl

  own_values : (s : Shape) (rows : List Row) → is_made_of_options s ≡ true → HaveValues (made s).rules rows
      → HaveValues s.rules rows
  own_values s rows options h =
      let parts = both (not s.is_built) (list_all is_made_with_values s.rules) options in
      let is = made_is s (is_false s.is_built parts.0) in
      let behind = added_behind _ _ s.rules help_rule version_rule in
      values_back 1 s.rules behind.0 rows parts.1
      (subst (λ rules. HaveValues (filled_from 1 rules) rows) behind.1
      (subst (λ x. HaveValues x.rules rows) is h))

  own_name : (s : Shape) → is_made_of_options s ≡ true → (made s).name ≡ s.name
  own_name s options =
      let parts = both (not s.is_built) (list_all is_made_with_values s.rules) options in
      ap (λ x. x.name) (made_is s (is_false s.is_built parts.0))

  -- the subcommands of the built command
  abbrev pub all : List Shape → List Shape
  all own = map built_leaf (map (inherited above) own ++ help_shape ∷ [])

  -- one that is not named `help` is made of the caller's own
  own_found : (own : List Shape) (test : Shape → Bool) (s : Shape) (rows : List Row) → find test (all own) ≡ Some s
      → IsNotHelp s.name → list_all is_made_of_options own ≡ true
      → HaveValues s.rules rows → IsOneOf own s.name rows
  own_found [] test s rows found named options h = go (test (built_leaf help_shape)) found
    where
      go : (b : Bool) → cond b (Some (built_leaf help_shape)) None ≡ Some s → ⊥
      go true e = true≢false (subst (λ x. IsNotHelp x.name) (sym (same_some (built_leaf help_shape) s e)) named)
      go false e = cc
  own_found (x ∷ rest) test s rows found named options h =
      go (test (made x)) (λ e. own_found rest test s rows e named parts.1 h) found
    where
      parts : (is_made_of_options x ≡ true) × (list_all is_made_of_options rest ≡ true)
      parts = both (is_made_of_options x) (list_all is_made_of_options rest) options

      go : (b : Bool) → (find test (all rest) ≡ Some s → IsOneOf rest s.name rows)
          → cond b (Some (made x)) (find test (all rest)) ≡ Some s → IsOneOf (x ∷ rest) s.name rows
      go true next e =
          let same = sym (same_some (made x) s e) in
          inl (
            ap (λ y. y.name) same
                ∙ own_name x parts.0,
            own_values x rows parts.0 (subst (λ y. HaveValues y.rules rows) same h),
          )
      go false next e = inr (next e)

-- ---- the subcommand that was entered

found_passes : {X : Type 0} (all_do test : X → Bool) (xs : List X) (x : X) → list_all all_do xs ≡ true
    → find test xs ≡ Some x → (all_do x ≡ true) × (test x ≡ true)
found_passes all_do test [] x each found = cc
found_passes all_do test (y ∷ ys) x each found =
    let parts = both (all_do y) (list_all all_do ys) each in
    go (test y) refl parts.0 (found_passes all_do test ys x parts.1) found
  where
    go : (b : Bool) → test y ≡ b → all_do y ≡ true → (find test ys ≡ Some x → (all_do x ≡ true) × (test x ≡ true))
        → cond b (Some y) (find test ys) ≡ Some x
        → (all_do x ≡ true) × (test x ≡ true)
    go true is here next e = subst (λ z. (all_do z ≡ true) × (test z ≡ true)) (same_some y x e) (here, is)
    go false is here next e = next e

-- a subcommand without other names answers to its name alone
only_name : (s : Shape) (word : Text) → is_empty s.aliases ≡ true → answers_to word (label_of s) ≡ true → s.name ≡ word
only_name s word alone e = go (bytes_eq s.name word) refl s.aliases alone e
  where
    go : (b : Bool) → bytes_eq s.name word ≡ b → (others : List Text) → is_empty others ≡ true
        → (b || list_any (λ other. bytes_eq other word) others) ≡ true → s.name ≡ word
    go true is others none f = (bytes_eq-Decides s.name word).0 is
    go false is [] none f = absurd (true≢false (sym f))
    go false is (x ∷ xs) none f =
        let some : is_empty (x ∷ xs) ≡ false = grind (arith, nat_tests) in absurd (true≢false (sym none ∙ some))

wants_no_subcommand : (a b c : Bool) → check_kinds a b c ≡ [] → b ≡ false
wants_no_subcommand true b c e = cc
wants_no_subcommand false true c e = cc
wants_no_subcommand false false c e = refl

there_where_required : (a b : Bool) → (not a && b) ≡ false → b ≡ true → a ≡ true
there_where_required true b e required = refl
there_where_required false b e required = absurd (true≢false (sym required ∙ e))

-- the rows are of options of a built subcommand with this name that passes a test
abbrev pub AreRowsWith : (Shape → Bool) → Text → List Row → Type 0
AreRowsWith test name rows = (s : Shape) × (test s ≡ true) × (s.name ≡ name) × AreRowsOf s.rules rows

-- the subcommand of this name is the caller's own, and its options have their values in the rows, which are those
-- of one that passes a test
abbrev pub IsMet : (Shape → Bool) → List Shape → Text → List Row → Type 0
IsMet test own name rows = IsOneOf own name rows × AreRowsWith test name rows

module _ (own : List Shape) (above : Shape) (a : App) (same : a.subs ≡ all above own)
    (options : list_all is_made_of_options own ≡ true)
    (plain : list_all is_plain_subcommand a.subs ≡ true) (test : Shape
    → Bool) (each : list_all test a.subs ≡ true) where
  found_one : (p : Text × List Text) (s : Shape) → IsNotHelp p.0
      → find (λ x. answers_to p.0 (label_of x)) a.subs ≡ Some s → level_fault s [] nothing_held p.1 false [] ≡ []
      → IsMet test own s.name (rows_after s.rules [] p.1)
  found_one p s named found e =
      let passes = found_passes is_plain_subcommand (λ x. answers_to p.0 (label_of x)) a.subs s plain found in
      let parts = both (is_empty s.aliases) (is_named_help s || has_plain_options s) passes.0 in
      let other : IsNotHelp s.name = subst IsNotHelp (sym (only_name s p.0 parts.0 passes.1)) named in
      let own_options : has_plain_options s ≡ true = rw other at parts.1 in
      let level = level_values s p.1 own_options e in
      let rows = rows_after s.rules [] p.1 in (
        own_found above own (λ x. answers_to p.0 (label_of x)) s rows
            (sym (ap (find (λ x. answers_to p.0 (label_of x))) same) ∙ found) other options level.0,
        (s, (found_passes test (λ x. answers_to p.0 (label_of x)) a.subs s each found).0, refl, level.1),
      )

  entered_one : (stop : Option (Text × List Text)) → StopsAtNoHelp stop → entered_fault a stop ≡ []
      → is_some (entered a stop) ≡ true → IsSomeAnd (entered a stop) (λ met. IsMet test own met.0 met.1)
  entered_one None named e some = absurd (true≢false (sym some))
  entered_one (Some p) named e some = go (find (λ x. answers_to p.0 (label_of x)) a.subs) refl e some
    where
      go : (o : Option Shape) → find (λ x. answers_to p.0 (label_of x)) a.subs ≡ o
          → option_map_or (λ s. level_fault s [] nothing_held p.1 false []) o [] ≡ []
          → is_some (option_map (λ s. rows_at s p.1) o) ≡ true
          → IsSomeAnd (option_map (λ s. rows_at s p.1) o) (λ met. IsMet test own met.0 met.1)
      go None found f has = absurd (true≢false (sym has))
      go (Some s) found f has = found_one p s named found f

  -- the parse of the built command, if it has no fault
  met_one : a.top.disable_help_subcommand ≡ false → a.top.subcommand_required ≡ true → (words : List Text)
      → built_fault a nothing_held words ≡ []
      → IsSomeAnd (entered a (stop_after a.top.rules (names_of a) words)) (λ met. IsMet test own met.0 met.1)
  met_one enabled required words e =
      let stop = (walk a.top.rules (names_of a) nothing_held words).stopped in
      let last = (walk a.top.rules (names_of a) nothing_held words).held in
      let again = a.top.args_override_self in
      let checks = check_fault a.top (finished a.top.rules last) (is_some (entered a stop)) in
      let defaults = or_else (defaults_fault (settled a.top.rules last).rows a.top.rules) checks in
      let settles = or_else (settle_fault a.top.rules again last) defaults in
      let b = split_or (walk_fault a.top (names_of a) (walk_from nothing_held) words)
      (or_else (entered_fault a stop) settles) e in
      let c = split_or (entered_fault a stop) settles b.1 in
      let d = split_or (settle_fault a.top.rules again last) defaults c.1 in
      let f = split_or (defaults_fault (settled a.top.rules last).rows a.top.rules) checks d.1 in
      let there = there_where_required (is_some (entered a stop)) a.top.subcommand_required
      (wants_no_subcommand _ _ _ f.1) required in
      entered_one stop (walk_stops a.top (names_of a) enabled (walk_from nothing_held) words b.0 tt) c.0 there

-- ---- the command line

built_subs : (app : App) → app.top.is_built ≡ false → (app.top.is_leaf || app.top.disable_help_subcommand) ≡ false
    → (built app).subs ≡ all (with_leaf_noted (marked_built app.top)) app.subs
built_subs app fresh helps = rw (fresh, helps) refl

built_helps : (app : App) → app.top.is_built ≡ false → (app.top.is_leaf || app.top.disable_help_subcommand) ≡ false
    → (built app).top.disable_help_subcommand ≡ false
built_helps app fresh helps = rw (fresh, helps) refl

built_requires : (app : App) → app.top.is_built ≡ false → (app.top.is_leaf || app.top.disable_help_subcommand) ≡ false
    → (built app).top.subcommand_required ≡ app.top.subcommand_required
built_requires app fresh helps = rw (fresh, helps) refl

-- If the words have no fault, a subcommand of the caller's was given, and each of its options that is required or has a
-- default has a value that its parser accepts. It has no other options, so it passes a test that all subcommands pass.
pub options_have_values : (app : App) (words : List Text) → is_option_line app ≡ true → fault_of app words ≡ []
    → (test : Shape → Bool)
    → list_all test (built app).subs ≡ true
    → IsSomeAnd (subcommand_of app words) (λ met. IsMet test app.subs met.0 met.1)
options_have_values app words line taken test each =
    let gets = both (gets_help app)
    (app.top.subcommand_required
    && (list_all is_made_of_options app.subs && list_all is_plain_subcommand (built app).subs)) line in
    let needs = both app.top.subcommand_required (list_all is_made_of_options app.subs && list_all is_plain_subcommand (built app).subs) gets.1 in
    let subs = both (list_all is_made_of_options app.subs) (list_all is_plain_subcommand (built app).subs) needs.1 in
    let new = both (not app.top.is_built) (not (app.top.is_leaf || app.top.disable_help_subcommand)) gets.0 in
    let fresh = is_false app.top.is_built new.0 in
    let helps = is_false (app.top.is_leaf || app.top.disable_help_subcommand) new.1 in
    met_one app.subs (with_leaf_noted (marked_built app.top)) (built app) (built_subs app fresh helps) subs.0 subs.1 test each (built_helps app fresh helps)
    (built_requires app fresh helps ∙ needs.0) (argument_words app words) taken
