-- Rows whose values are accepted by the parsers of their options, and uses of options that keep them so.
use Rattle.std.proofs.Common.{◌≡◌, ◌∙◌, ◌<◌, ◌&&◌, ◌||◌, ℕ, Bool, cond, true, false, refl, sym, ap, subst, arith, List}
use Rattle.std.proofs.Common.{[], ◌∷◌, ◌++◌, length, length-append, Some, true≢false}
use Rattle.std.specs.Prelude.{⊤, nat_lt}
use Rattle.std.specs.List.{find}
use Rattle.std.specs.Str.{bytes_eq}
use Rattle.std.proofs.lemmas.Slice.Eq.{bytes_eq-Decides}
use Rattle.clap.specs.Facts.{parser_of_value, unwrap_or_range}
use Rattle.clap.specs.Values.{is_request}
use Rattle.clap.specs.Kinds.{Kinds, or_else, range_kinds, value_kinds}
use Rattle.clap.specs.Walk.{Row, Rule, Text, action_of, arg_by_id, more_values, most_values, reading_by, used, used_as}
use Rattle.clap.specs.Walk.{values_or_missing, with_values, without}
use Rattle.clap.specs.Faults.{action_fault, repeat_fault, use_fault, values_fault}
use Rattle.clap.specs.declared.builder.action.ArgAction.{ArgAction}
use Rattle.clap.specs.declared.builder.action.ArgAction.TheVariants as action
use Rattle.clap.specs.declared.parser.matches.ValueSource.{ValueSource}
use Rattle.clap.proofs.FaultLemmas.{past}
use Rattle.task_words.specs.OptionLines.{has_values, is_plain_option}

-- the argument is a plain option, and is found by its id
abbrev pub IsPlain : List Rule → Rule → Type 0
IsPlain c a = (is_plain_option a ≡ true) × (arg_by_id c a.id ≡ Some a)

-- each of these arguments is
abbrev pub ArePlain : List Rule → List Rule → Type 0
ArePlain c [] = ⊤
ArePlain c (a ∷ rest) = IsPlain c a × ArePlain c rest

-- the row has values, and the option of its id accepts them
abbrev pub IsRowOf : List Rule → Row → Type 0
IsRowOf c r = (a : Rule) × (arg_by_id c r.id ≡ Some a) × (0 < length r.values) × (values_fault a r.values ≡ [])
    × (r.reading ≡ reading_by a)

abbrev pub AreRowsOf : List Rule → List Row → Type 0
AreRowsOf c [] = ⊤
AreRowsOf c (r ∷ rest) = IsRowOf c r × AreRowsOf c rest

-- if neither of two steps has a fault, each passes
pub split_or : (a b : Kinds) → or_else a b ≡ [] → (a ≡ []) × (b ≡ [])
split_or [] b e = (refl, e)
split_or (k ∷ ks) b e = cc

pub same_some : {X : Type 0} (x y : X) → Some x ≡ Some y → x ≡ y
same_some x y e = cc

pub values_append : (a : Rule) (xs ys : List Text) → values_fault a xs ≡ [] → values_fault a ys ≡ []
    → values_fault a (xs ++ ys) ≡ []
values_append a [] ys e f = f
values_append a (x ∷ xs) ys e f =
    let both = split_or (value_kinds a.ignore_case (parser_of_value a.parser) x) (values_fault a xs) e in
    past (value_kinds a.ignore_case (parser_of_value a.parser) x) (values_fault a (xs ++ ys)) both.0
    ∙ values_append a xs ys both.1 f

module _ (c : List Rule) where
  pub found_plain : (p : Rule → Bool) (rs : List Rule) (a : Rule) → ArePlain c rs → find p rs ≡ Some a → IsPlain c a
  found_plain p [] a plain e = cc
  found_plain p (x ∷ xs) a plain e = go (p x) (found_plain p xs a plain.1) e
    where
      go : (b : Bool) → (find p xs ≡ Some a → IsPlain c a) → cond b (Some x) (find p xs) ≡ Some a → IsPlain c a
      go true next is = subst (IsPlain c) (same_some x a is) plain.0
      go false next is = next is

  -- a row with more values that its option accepts
  more_good : (id : Text) (a : Rule) (source : ValueSource) (values : List Text) (r : Row) → arg_by_id c id ≡ Some a
      → values_fault a values ≡ [] → bytes_eq r.id id ≡ true
      → IsRowOf c r → (x : Rule) × (arg_by_id c r.id ≡ Some x) × (0 < length (r.values ++ values))
      × (values_fault x (r.values ++ values) ≡ []) × (r.reading ≡ reading_by x)
  more_good id a source values r found accepted is h =
      let same_id : r.id ≡ id = (bytes_eq-Decides r.id id).0 is in
      let same : a ≡ h.0 = same_some a h.0 (sym found ∙ ap (arg_by_id c) (sym same_id) ∙ h.1) in
      (h.0, h.1, omega (arith, h.2, length-append r.values values), values_append h.0 r.values values h.3 (subst (λ x. values_fault x values ≡ []) same accepted), h.4)

  pub with_values_good : (id : Text) (a : Rule) (source : ValueSource) (values : List Text) (rows : List Row)
      → arg_by_id c id ≡ Some a → 0 < length values → values_fault a values ≡ []
      → AreRowsOf c rows → AreRowsOf c (with_values id (reading_by a) source values rows)
  with_values_good id a source values [] found some accepted h = ((a, found, some, accepted, refl), tt)
  with_values_good id a source values (r ∷ rs) found some accepted h =
      go (bytes_eq r.id id) (with_values_good id a source values rs found some accepted h.1) refl
    where
      go : (b : Bool) → AreRowsOf c (with_values id (reading_by a) source values rs) → bytes_eq r.id id ≡ b
          → AreRowsOf c (cond b (more_values source values r ++ rs) (r ∷ with_values id (reading_by a) source values rs))
      go true next is = (more_good id a source values r found accepted is h.0, h.1)
      go false next is = (h.0, next)

  without_good : (id : Text) (rows : List Row) → AreRowsOf c rows → AreRowsOf c (without id rows)
  without_good id [] h = tt
  without_good id (r ∷ rs) h = go (bytes_eq r.id id) (without_good id rs h.1)
    where
      go : (b : Bool) → AreRowsOf c (without id rs) → AreRowsOf c (cond b rs (r ∷ without id rs))
      go true next = h.1
      go false next = (h.0, next)

-- an option that is used has a value
no_values : (least most : ℕ) → nat_lt 0 least ≡ true → range_kinds least most 0 ≡ [] → ⊥
no_values least most some e = let bad = rw some at e in cc

module _ (c : List Rule) (again : Bool) where
  set_good : (a : Rule) (values : List Text) (rows : List Row) → arg_by_id c a.id ≡ Some a
      → nat_lt 0 (unwrap_or_range a.range).start_inclusive ≡ true
      → range_kinds (unwrap_or_range a.range).start_inclusive (most_values a) (length values) ≡ []
      → action_fault action.Set again a (values_or_missing a values) rows ≡ []
      → AreRowsOf c rows → AreRowsOf c (used_as action.Set a.id (reading_by a) (values_or_missing a values) rows)
  set_good a [] rows own some range e h =
      absurd (no_values (unwrap_or_range a.range).start_inclusive (most_values a) some range)
  set_good a (v ∷ vs) rows own some range e h =
      let both = split_or (repeat_fault again a.id rows) (values_fault a (v ∷ vs)) e in
      with_values_good c a.id a _ (v ∷ vs) (without a.id rows) own (omega arith) both.1 (without_good c a.id rows h)

  append_good : (a : Rule) (values : List Text) (rows : List Row) → arg_by_id c a.id ≡ Some a
      → nat_lt 0 (unwrap_or_range a.range).start_inclusive ≡ true
      → range_kinds (unwrap_or_range a.range).start_inclusive (most_values a) (length values) ≡ []
      → action_fault action.Append again a (values_or_missing a values) rows ≡ []
      → AreRowsOf c rows → AreRowsOf c (used_as action.Append a.id (reading_by a) (values_or_missing a values) rows)
  append_good a [] rows own some range e h =
      absurd (no_values (unwrap_or_range a.range).start_inclusive (most_values a) some range)
  append_good a (v ∷ vs) rows own some range e h = with_values_good c a.id a _ (v ∷ vs) rows own (omega arith) e h

  used_good : (x : ArgAction) (a : Rule) (values : List Text) (rows : List Row) → arg_by_id c a.id ≡ Some a
      → (is_request x || (has_values x && nat_lt 0 (unwrap_or_range a.range).start_inclusive)) ≡ true
      → range_kinds (unwrap_or_range a.range).start_inclusive (most_values a) (length values) ≡ []
      → action_fault x again a (values_or_missing a values) rows ≡ []
      → AreRowsOf c rows → AreRowsOf c (used_as x a.id (reading_by a) (values_or_missing a values) rows)
  used_good action.Set a values rows own some range e h = set_good a values rows own some range e h
  used_good action.Append a values rows own some range e h = append_good a values rows own some range e h
  used_good action.SetTrue a values rows own some range e h = absurd (true≢false (sym some))
  used_good action.SetFalse a values rows own some range e h = absurd (true≢false (sym some))
  used_good action.Count a values rows own some range e h = absurd (true≢false (sym some))
  used_good action.Help a values rows own some range e h = h
  used_good action.HelpShort a values rows own some range e h = h
  used_good action.HelpLong a values rows own some range e h = h
  used_good action.Version a values rows own some range e h = h

  -- a use that passes leaves rows of options
  pub use_good : (a : Rule) (values : List Text) (rows : List Row) → IsPlain c a → use_fault again a values rows ≡ []
      → AreRowsOf c rows → AreRowsOf c (used a values rows)
  use_good a values rows plain e h =
      let both = split_or (range_kinds (unwrap_or_range a.range).start_inclusive (most_values a) (length values))
      (action_fault (action_of a) again a (values_or_missing a values) rows) e in
      used_good (action_of a) a values rows plain.1 plain.0 both.0 both.1 h
