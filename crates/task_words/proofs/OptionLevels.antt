-- At a level of the parse without a fault, each option that is required or has a default has a value.
use Rattle.std.proofs.Common.{◌≡◌, ◌∙◌, ◌<◌, ◌&&◌, ◌||◌, Bool, cond, true, false, not, refl, sym, ap, subst, arith}
use Rattle.std.proofs.Common.{List, [], ◌∷◌, ◌++◌, length, Option, Some, true≢false}
use Rattle.std.specs.Prelude.{⊤, option_and_then, option_map, slice_get}
use Rattle.std.specs.List.{find, fold, list_all, list_any}
use Rattle.std.specs.Option.{option_map_or}
use Rattle.std.specs.Str.{bytes_eq}
use Rattle.std.proofs.lemmas.Slice.Eq.{bytes_eq-Decides}
use Rattle.std.proofs.lemmas.Bool.Decides.{nat_tests}
use Rattle.clap.specs.Facts.{explicit_source, parser_of_value}
use Rattle.clap.specs.Values.{Accepts, read_as, refused_kind}
use Rattle.clap.specs.ValueTests.{accepts}
use Rattle.clap.specs.Kinds.{check_kinds, or_else, request_kinds, value_kinds}
use Rattle.clap.specs.Takes.{is_given}
use Rattle.clap.specs.Walk.{Row, Rule, Text, action_of, arg_by_id, default_rows, finished, has_row, is_empty}
use Rattle.clap.specs.Walk.{more_values, nothing_held, reading_by, row_text, rows_after, settled, walk, walk_from}
use Rattle.clap.specs.Walk.{with_default, with_values}
use Rattle.clap.specs.Simple.{Shape}
use Rattle.clap.specs.Faults.{check_fault, default_fault, defaults_fault, given_default_fault, level_fault}
use Rattle.clap.specs.Faults.{settle_fault, values_fault, walk_fault}
use Rattle.clap.specs.declared.parser.matches.ValueSource.{ValueSource}
use Rattle.clap.specs.declared.parser.matches.ValueSource.TheVariants.{DefaultValue}
use Rattle.clap.proofs.ValueTestLemmas.{accepts-Accepts}
use Rattle.clap.proofs.WalkLemmas.{both}
use Rattle.clap.proofs.SimpleLemmas.{is_false}
use Rattle.clap.specs.declared.builder.value_parser.Reading.{Reading}
use Rattle.clap.specs.declared.builder.value_parser.ValueParser.{ValueParser}
use Rattle.task_words.specs.OptionLines.{HasValue, HaveValues, has_plain_options, have_own_ids}
use Rattle.task_words.specs.OptionLines.{is_always_given, is_plain_option}
use Rattle.task_words.proofs.OptionRows.{AreRowsOf, ArePlain, IsPlain, IsRowOf, same_some, split_or, with_values_good}
use Rattle.task_words.proofs.OptionWalks.{held_good, walk_good}

-- ---- options with ids of their own

either_false : (a b : Bool) → (a || b) ≡ false → (a ≡ false) × (b ≡ false)
either_false true b e = absurd (true≢false e)
either_false false b e = (refl, e)

-- an argument that is found has the id of some argument
absent : (a b : Rule) (xs : List Rule) → a.id ≡ b.id → list_any (λ other. bytes_eq a.id other.id) xs ≡ false
    → arg_by_id xs b.id ≡ Some b → ⊥
absent a b [] same none found = cc
absent a b (x ∷ xs) same none found = go (bytes_eq x.id b.id) refl (absent a b xs same parts.1) found
  where
    parts : (bytes_eq a.id x.id ≡ false) × (list_any (λ other. bytes_eq a.id other.id) xs ≡ false)
    parts = either_false (bytes_eq a.id x.id) (list_any (λ other. bytes_eq a.id other.id) xs) none

    go : (t : Bool) → bytes_eq x.id b.id ≡ t → (arg_by_id xs b.id ≡ Some b → ⊥)
        → cond t (Some x) (arg_by_id xs b.id) ≡ Some b → ⊥
    go true is next at =
        let alike : a.id ≡ x.id = same ∙ sym ((bytes_eq-Decides x.id b.id).0 is) in
        true≢false (sym ((bytes_eq-Decides a.id x.id).1 alike) ∙ parts.0)
    go false is next at = next at

-- an argument with another id in front changes nothing
found_behind : (a b : Rule) (rest : List Rule) → list_any (λ other. bytes_eq a.id other.id) rest ≡ false
    → arg_by_id rest b.id ≡ Some b → arg_by_id (a ∷ rest) b.id ≡ Some b
found_behind a b rest apart found = go (bytes_eq a.id b.id) refl
  where
    go : (t : Bool) → bytes_eq a.id b.id ≡ t → cond t (Some a) (arg_by_id rest b.id) ≡ Some b
    go true is = absurd (absent a b rest ((bytes_eq-Decides a.id b.id).0 is) apart found)
    go false is = found

found_first : (a : Rule) (rest : List Rule) → arg_by_id (a ∷ rest) a.id ≡ Some a
found_first a rest = let same : bytes_eq a.id a.id ≡ true = (bytes_eq-Decides a.id a.id).1 refl in rw same refl

plain_from : (c rest : List Rule) → ((a : Rule) → arg_by_id rest a.id ≡ Some a → arg_by_id c a.id ≡ Some a)
    → list_all is_plain_option rest ≡ true → have_own_ids rest ≡ true → ArePlain c rest
plain_from c [] found plain own = tt
plain_from c (a ∷ rest) found plain own =
    let options = both (is_plain_option a) (list_all is_plain_option rest) plain in
    let ids = both (not (list_any (λ other. bytes_eq a.id other.id) rest)) (have_own_ids rest) own in
    let apart = is_false (list_any (λ other. bytes_eq a.id other.id) rest) ids.0 in
    ((options.0, found a (found_first a rest)), plain_from c rest (λ b at. found b (found_behind a b rest apart at)) options.1 ids.1)

pub plain_options : (s : Shape) → has_plain_options s ≡ true → ArePlain s.rules s.rules
plain_options s e =
    let parts = both (list_all is_plain_option s.rules) (have_own_ids s.rules) e in
    plain_from s.rules s.rules (λ a found. found) parts.0 parts.1

-- ---- defaults

pub or_more : (a b c : Bool) → (b ≡ true → c ≡ true) → (a || b) ≡ true → (a || c) ≡ true
or_more true b c h e = refl
or_more false b c h e = h e

has_new_row : (id : Text) (how : Reading) (source : ValueSource) (values : List Text) (rows : List Row)
    → has_row id (with_values id how source values rows) ≡ true
has_new_row id how source values [] = let same : bytes_eq id id ≡ true = (bytes_eq-Decides id id).1 refl in rw same refl
has_new_row id how source values (r ∷ rs) = go (bytes_eq r.id id) refl (has_new_row id how source values rs)
  where
    go : (b : Bool) → bytes_eq r.id id ≡ b → has_row id (with_values id how source values rs) ≡ true
        → has_row id (cond b (more_values source values r ++ rs) (r ∷ with_values id how source values rs)) ≡ true
    go true is next = rw is refl
    go false is next = rw is next

keeps_row : (id key : Text) (how : Reading) (source : ValueSource) (values : List Text) (rows : List Row)
    → has_row key rows ≡ true → has_row key (with_values id how source values rows) ≡ true
keeps_row id key how source values [] e = absurd (true≢false (sym e))
keeps_row id key how source values (r ∷ rs) e = go (bytes_eq r.id id) (keeps_row id key how source values rs)
  where
    go : (b : Bool) → (has_row key rs ≡ true → has_row key (with_values id how source values rs) ≡ true)
        → has_row key (cond b (more_values source values r ++ rs) (r ∷ with_values id how source values rs)) ≡ true
    go true next = e
    go false next = or_more (bytes_eq r.id key) (has_row key rs)
        (has_row key (with_values id how source values rs)) next e

keeps_default_rows : (id key : Text) (how : Reading) (values : List Text) (rows : List Row) → has_row key rows ≡ true
    → has_row key (default_rows id how values rows) ≡ true
keeps_default_rows id key how [] rows e = e
keeps_default_rows id key how (v ∷ vs) rows e = keeps_row id key how DefaultValue (v ∷ vs) rows e

keeps_default : (key : Text) (a : Rule) (rows : List Row) → has_row key rows ≡ true
    → has_row key (with_default rows a) ≡ true
keeps_default key a rows e = go (has_row a.id rows)
  where
    go : (b : Bool) → has_row key (cond b rows (default_rows a.id (reading_by a) a.defaults rows)) ≡ true
    go true = e
    go false = keeps_default_rows a.id key (reading_by a) a.defaults rows e

keeps_defaults : (key : Text) (rest : List Rule) (rows : List Row) → has_row key rows ≡ true
    → has_row key (fold with_default rows rest) ≡ true
keeps_defaults key [] rows e = e
keeps_defaults key (a ∷ rest) rows e = keeps_defaults key rest (with_default rows a) (keeps_default key a rows e)

default_in : (a : Rule) (rows : List Row) → not (is_empty a.defaults) ≡ true → has_row a.id (with_default rows a) ≡ true
default_in a rows some = go (has_row a.id rows) refl
  where
    new : (values : List Text) → not (is_empty values) ≡ true
        → has_row a.id (default_rows a.id (reading_by a) values rows) ≡ true
    new [] h = absurd (true≢false (sym h))
    new (v ∷ vs) h = has_new_row a.id (reading_by a) DefaultValue (v ∷ vs) rows

    go : (b : Bool) → has_row a.id rows ≡ b
        → has_row a.id (cond b rows (default_rows a.id (reading_by a) a.defaults rows)) ≡ true
    go true is = is
    go false is = new a.defaults some

-- each of these options with a default has a row
abbrev HaveDefaults : List Rule → List Row → Type 0
HaveDefaults [] rows = ⊤
HaveDefaults (a ∷ rest) rows = (not (is_empty a.defaults) ≡ true → has_row a.id rows ≡ true) × HaveDefaults rest rows

defaults_in : (rest : List Rule) (rows : List Row) → HaveDefaults rest (fold with_default rows rest)
defaults_in [] rows = tt
defaults_in (a ∷ rest) rows = (
  λ some. keeps_defaults a.id rest (with_default rows a) (default_in a rows some),
  defaults_in rest (with_default rows a),
)

default_good : (c : List Rule) (a : Rule) (rows : List Row) → IsPlain c a → default_fault rows a ≡ [] → AreRowsOf c rows
    → AreRowsOf c (with_default rows a)
default_good c a rows plain e good = go (has_row a.id rows) e
  where
    given : (values : List Text) → cond (is_empty values) [] (given_default_fault a values) ≡ []
        → AreRowsOf c (default_rows a.id (reading_by a) values rows)
    given [] f = good
    given (v ∷ vs) f =
        let some : is_empty (v ∷ vs) ≡ false = grind (arith, nat_tests) in
        let passed = split_or (request_kinds (action_of a)) (values_fault a (v ∷ vs)) (rw some at f) in
        with_values_good c a.id a DefaultValue (v ∷ vs) rows plain.1 (omega arith) passed.1 good

    go : (b : Bool) → cond (b || is_empty a.defaults) [] (given_default_fault a a.defaults) ≡ []
        → AreRowsOf c (cond b rows (default_rows a.id (reading_by a) a.defaults rows))
    go true f = good
    go false f = given a.defaults f

defaults_good : (c rest : List Rule) (rows : List Row) → ArePlain c rest → defaults_fault rows rest ≡ []
    → AreRowsOf c rows → AreRowsOf c (fold with_default rows rest)
unfolding defaults_fault
defaults_good c [] rows plain e good = good
defaults_good c (a ∷ rest) rows plain e good =
    let passed = split_or (default_fault rows a) (defaults_fault (with_default rows a) rest) e in
    defaults_good c rest (with_default rows a) plain.1 passed.1 (default_good c a rows plain.0 passed.0 good)

-- ---- values

given_row : (id : Text) (rows : List Row) → is_given id rows ≡ true → has_row id rows ≡ true
given_row id [] e = absurd (true≢false (sym e))
given_row id (r ∷ rs) e = go (bytes_eq r.id id) (given_row id rs) e
  where
    go : (b : Bool) → (is_given id rs ≡ true → has_row id rs ≡ true)
        → option_map_or (λ x. explicit_source x.source) (cond b (Some r) (find (λ x. bytes_eq x.id id) rs)) false ≡ true
        → (b || has_row id rs) ≡ true
    go true next f = refl
    go false next f = next f

passed_accepts : (ignore_case : Bool) (parser : ValueParser) (text : Text) → value_kinds ignore_case parser text ≡ []
    → Accepts ignore_case parser text
passed_accepts ignore_case parser text e =
    accepts-Accepts ignore_case parser text (go (accepts ignore_case parser text) e)
  where
    go : (b : Bool) → cond b [] (refused_kind parser ∷ []) ≡ [] → b ≡ true
    go true f = refl
    go false f = cc

-- the first of the values, as it is written and as it is read
abbrev IsFirst : Rule → List Text → Reading → Type 0
IsFirst a values how = (text : Text) × (slice_get values 0 ≡ Some text)
    × (option_map (read_as how) (slice_get values 0) ≡ Some (read_as (reading_by a) text))
    × Accepts a.ignore_case (parser_of_value a.parser) text

first_value : (a : Rule) (values : List Text) (how : Reading) → 0 < length values → values_fault a values ≡ []
    → how ≡ reading_by a → IsFirst a values how
first_value a [] how some e is = absurd (omega arith)
first_value a (v ∷ vs) how some e is =
    let passed = split_or (value_kinds a.ignore_case (parser_of_value a.parser) v) (values_fault a vs) e in
    (v, refl, ap (λ w. Some (read_as w v)) is, passed_accepts a.ignore_case (parser_of_value a.parser) v passed.0)

-- what is found has a value
abbrev IsValueIn : Rule → Option Row → Type 0
IsValueIn a found = (text : Text) × (option_and_then (λ r. slice_get r.values 0) found ≡ Some text)
    × (option_and_then row_text found ≡ Some (read_as (reading_by a) text))
    × Accepts a.ignore_case (parser_of_value a.parser) text

row_value : (c : List Rule) (a : Rule) (r : Row) → arg_by_id c a.id ≡ Some a → r.id ≡ a.id → IsRowOf c r
    → IsValueIn a (Some r)
row_value c a r own is h =
    let same : h.0 ≡ a = same_some h.0 a (sym h.1 ∙ ap (arg_by_id c) is ∙ own) in
    first_value a r.values r.reading h.2 (subst (λ x. values_fault x r.values ≡ []) same h.3) (h.4 ∙ ap reading_by same)

value_in : (c : List Rule) (a : Rule) (rows : List Row) → arg_by_id c a.id ≡ Some a → AreRowsOf c rows
    → has_row a.id rows ≡ true → IsValueIn a (find (λ r. bytes_eq r.id a.id) rows)
value_in c a [] own good e = absurd (true≢false (sym e))
value_in c a (r ∷ rs) own good e = go (bytes_eq r.id a.id) refl (value_in c a rs own good.1) e
  where
    go : (b : Bool) → bytes_eq r.id a.id ≡ b
        → (has_row a.id rs ≡ true → IsValueIn a (find (λ x. bytes_eq x.id a.id) rs))
        → (b || has_row a.id rs) ≡ true → IsValueIn a (cond b (Some r) (find (λ x. bytes_eq x.id a.id) rs))
    go true is next f = row_value c a r own ((bytes_eq-Decides r.id a.id).0 is) good.0
    go false is next f = next f

-- ---- the level

wants_no_argument : (a b c : Bool) → check_kinds a b c ≡ [] → c ≡ false
wants_no_argument true b c e = cc
wants_no_argument false true c e = cc
wants_no_argument false false true e = cc
wants_no_argument false false false e = refl

not_both : (a b : Bool) → (not (a && false) && b) ≡ false → b ≡ false
not_both true b e = e
not_both false b e = e

given_where_required : (a b : Bool) → (a && not b) ≡ false → a ≡ true → b ≡ true
given_where_required true true e h = refl
given_where_required true false e h = absurd (true≢false e)
given_where_required false b e h = absurd (true≢false (sym h))

module _ (c : List Rule) (rows : List Row) (good : AreRowsOf c rows) where
  one_value : (a : Rule) → IsPlain c a → (a.required && not (is_given a.id rows)) ≡ false
      → (not (is_empty a.defaults) ≡ true → has_row a.id rows ≡ true)
      → is_always_given a ≡ true → HasValue a rows
  one_value a plain required default e =
      value_in c a rows plain.1 good
      (go a.required (given_where_required a.required (is_given a.id rows) required) e)
    where
      go : (b : Bool) → (b ≡ true → is_given a.id rows ≡ true) → (b || not (is_empty a.defaults)) ≡ true
          → has_row a.id rows ≡ true
      go true given f = given_row a.id rows (given refl)
      go false given f = default f

  each_value : (rest : List Rule) → ArePlain c rest
      → list_any (λ a. a.required && not (is_given a.id rows)) rest ≡ false → HaveDefaults rest rows
      → HaveValues rest rows
  each_value [] plain required defaults = tt
  each_value (a ∷ rest) plain required defaults =
      let parts = either_false (a.required && not (is_given a.id rows))
      (list_any (λ x. x.required && not (is_given x.id rows)) rest) required in
      (one_value a plain.0 parts.0 defaults.0, each_value rest plain.1 parts.1 defaults.1)

-- if a subcommand's level has no fault, its options have their values, and there are no others
pub level_values : (s : Shape) (words : List Text) → has_plain_options s ≡ true
    → level_fault s [] nothing_held words false [] ≡ []
    → HaveValues s.rules (rows_after s.rules [] words) × AreRowsOf s.rules (rows_after s.rules [] words)
level_values s words options e =
    let plain = plain_options s options in
    let again = s.args_override_self in
    let last = (walk s.rules [] nothing_held words).held in
    let rows = finished s.rules last in
    let a = split_or (walk_fault s [] (walk_from nothing_held) words)
    (or_else (settle_fault s.rules again last) (or_else (defaults_fault (settled s.rules last).rows s.rules) (check_fault s rows false))) e in
    let b = split_or (settle_fault s.rules again last)
    (or_else (defaults_fault (settled s.rules last).rows s.rules) (check_fault s rows false)) a.1 in
    let d = split_or (defaults_fault (settled s.rules last).rows s.rules) (check_fault s rows false) b.1 in
    let held = held_good s.rules plain again last b.0 (walk_good s [] plain (walk_from nothing_held) words a.0 tt) in
    let good = defaults_good s.rules s.rules (settled s.rules last).rows plain d.0 held in
    let required = not_both s.subcommand_negates_reqs _ (wants_no_argument _ _ _ d.1) in
    (each_value s.rules rows good s.rules plain required (defaults_in s.rules (settled s.rules last).rows), good)
