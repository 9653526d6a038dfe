-- What the values of options demand: where they come from, their patterns, and their first fault.
use Rattle.std.proofs.Common.{◌≡◌, ◌∙◌, ◌<◌, ◌+◌, ℕ, zero, suc, false, cond, inl, inr, refl, sym, ap, subst, arith}
use Rattle.std.proofs.Common.{List, [], ◌∷◌, ◌++◌, length, get_or, map, take, Option, Some, None, All, Bor, codes}
use Rattle.std.specs.Prelude.{bytes_eq, find, is_some, option_map, unwrap_or}
use Rattle.std.specs.Option.{option_and_then, option_or}
use Rattle.std.proofs.lemmas.List.{length-map, map_more}
use Rattle.std.proofs.lemmas.List.Elements.{All-map}
use Rattle.std.proofs.lemmas.Simd.{map-map}
use Rattle.clap.specs.Facts.{Entry}
use Rattle.clap.specs.Walk.{row_of}
use Rattle.clap.specs.Words.{Row, Text, first_value, matched_of, raw_values, rows_of}
use Rattle.clap.specs.declared.parser.matches.Found.{Found}
use Rattle.clap.proofs.WalkLemmas.{find_row, first_value-rows, raw_values-rows}
use Rattle.ring_problems.specs.declared.known.KnownProblem.{KnownProblem}
use Rattle.ring_problems.specs.declared.pattern.Pattern.{Pattern}
use Rattle.task_words.specs.DemandValues.{ArePatternsOf, HasNoProblem, demand_fault, forbidden_texts, has_two_demands}
use Rattle.task_words.specs.DemandValues.{known_problem, name_fault, patterns_fault, problem_name}
use Rattle.task_words.specs.DemandValues.{source_of, texts_fault}
use Rattle.task_words.specs.PatternText.{IsPatternText, pattern_fault, pattern_in}
use Rattle.task_words.specs.WordsFault.{IsDemandRefusal}
use Rattle.task_words.specs.declared.demand_fault.DemandFault.{DemandFault}
use Rattle.task_words.specs.declared.demand_fault.DemandFault.TheVariants.{TwoDemands, UnknownProblem, BadPattern}
use Rattle.task_words.specs.declared.demand_fault.PatternFault.{PatternFault}
use Rattle.task_words.specs.declared.words.WordsFault.{WordsFault}
use Rattle.task_words.proofs.Entries.{pattern_text_is}

-- ---- values

-- what `value_source` reads, by the rows
pub source-rows : (f : Found) (id : Text) → option_and_then (λ a. a.source) (matched_of f id) ≡ source_of id (rows_of f)
source-rows f id = go (find (λ e. bytes_eq e.0.now id) f.entries.items)
    ∙ ap (option_and_then (λ (r : Row). r.source)) (sym (find_row f.entries.items id))
  where
    go : (o : Option Entry) → option_and_then (λ a. a.source) (option_map (λ e. e.1) o)
        ≡ option_and_then (λ (r : Row). r.source) (option_map row_of o)
    go None = refl
    go (Some e) = refl

-- the texts that `get_strs` reads
pub texts_given : (f : Found) (texts : List Text) → Some texts ≡ option_map raw_values (matched_of f (codes "forbid"))
    → forbidden_texts (rows_of f) ≡ texts
texts_given f texts read = ap (λ o. unwrap_or o []) (sym (raw_values-rows f (codes "forbid")) ∙ sym read)

pub no_texts_given : (f : Found) → None ≡ option_map raw_values (matched_of f (codes "forbid"))
    → forbidden_texts (rows_of f) ≡ []
no_texts_given f read = ap (λ o. unwrap_or o []) (sym (raw_values-rows f (codes "forbid")) ∙ sym read)

-- the text that `get_str` reads
pub name_given : (f : Found) (name : Option Text) → name ≡ first_value f (codes "problem")
    → problem_name (rows_of f) ≡ name
name_given f name read = sym (read ∙ first_value-rows f (codes "problem"))

pub is_some-map : {A B : Type 0} (g : A → B) (o : Option A) → is_some o ≡ is_some (option_map g o)
is_some-map g None = refl
is_some-map g (Some x) = refl

-- ---- the name of a problem

module _ (name : Option Text) (text : Text) (given : name ≡ Some text) where
  pub named_well : (known : KnownProblem) → Some known ≡ known_problem text → name_fault name ≡ None
  named_well known is = ap name_fault given ∙ ap (λ o. cond (is_some o) None (Some UnknownProblem)) (sym is)

  pub named_badly : None ≡ known_problem text → name_fault name ≡ Some UnknownProblem
  named_badly none = ap name_fault given ∙ ap (λ o. cond (is_some o) None (Some UnknownProblem)) (sym none)

-- ---- patterns

-- the patterns of the first i texts, followed by the next one
pub patterns_more : (texts : List (Bor Text)) (i : ℕ) (d : Bor Text) (before after : List Pattern) (pattern : Pattern)
    → i < length texts
    → before ≡ map (λ text. pattern_in text.now) (take i texts) → pattern ≡ pattern_in (get_or texts i d).now
    → after ≡ before ++ pattern ∷ []
    → after ≡ map (λ text. pattern_in text.now) (take (i + 1) texts)
patterns_more texts i d before after pattern within values read pushed =
    let more = map_more (λ (text : Bor Text). pattern_in text.now) texts i d within in
    pushed ∙ ap (λ l. l ++ pattern ∷ []) values
    ∙ ap (λ n. map (λ text. pattern_in text.now) (take i texts) ++ n ∷ []) read ∙ sym more

-- texts without a fault
abbrev pub HaveNoFault : List (Bor Text) → Type 0
HaveNoFault texts = All (λ text. pattern_fault text.now ≡ None) texts

-- they are pattern texts
pub are_patterns : (texts : List (Bor Text)) (patterns : List Pattern) → HaveNoFault texts
    → patterns ≡ map (λ text. pattern_in text.now) texts
    → ArePatternsOf (map (λ text. text.now) texts) patterns
are_patterns texts patterns none are = record {
  each = All-map IsPatternText (λ (text : Bor Text). text.now) texts
      (λ k d within. pattern_text_is (get_or texts k d).now (none k d within));
  are = are ∙ sym (map-map pattern_in (λ (text : Bor Text). text.now) texts);
}

-- no texts have no patterns
pub no_patterns : (texts : List Text) (patterns : List Pattern) → texts ≡ [] → patterns ≡ []
    → ArePatternsOf texts patterns
no_patterns texts patterns no_texts none = record {
  each = subst (All IsPatternText) (sym no_texts) (λ k d within. absurd (omega (arith, within)));
  are = none ∙ ap (map pattern_in) (sym no_texts);
}

-- ---- the first fault

rest_has_none : (text : Bor Text) (texts : List (Bor Text)) → HaveNoFault (text ∷ texts) → HaveNoFault texts
rest_has_none text texts none = λ k d within. none (suc k) d (omega (arith, within))

-- they have no first fault
pub no_first_fault : (texts : List (Bor Text)) → HaveNoFault texts → texts_fault (map (λ text. text.now) texts) ≡ None
no_first_fault [] none = refl
no_first_fault (text ∷ texts) none =
    λ i. option_or (none 0 text (omega arith) i) (no_first_fault texts (rest_has_none text texts none) i)

-- the fault of a text is the first, if those before it have none
pub first_fault : (texts : List (Bor Text)) (i : ℕ) (d : Bor Text) (known : DemandFault) → i < length texts
    → HaveNoFault (take i texts)
    → option_map BadPattern (pattern_fault (get_or texts i d).now) ≡ Some known
    → option_map BadPattern (texts_fault (map (λ text. text.now) texts)) ≡ Some known
first_fault [] i d known within none is = absurd (omega (arith, within))
first_fault (text ∷ texts) zero d known within none is = go (pattern_fault text.now) is
  where
    go : (o : Option PatternFault) → option_map BadPattern o ≡ Some known
        → option_map BadPattern (option_or o (texts_fault (map (λ text. text.now) texts))) ≡ Some known
    go None bad = cc
    go (Some cause) same = same
first_fault (text ∷ texts) (suc i) d known within none is =
    ap (λ o. option_map BadPattern (option_or o (texts_fault (map (λ text. text.now) texts))))
    (none 0 text (omega arith))
    ∙ first_fault texts i d known (omega (arith, within)) (rest_has_none text (take i texts) none) is

-- ---- demands

module _ (values : List Row) (one : has_two_demands values ≡ false) where
  -- one demand without a fault
  pub no_demand_fault : name_fault (problem_name values) ≡ None → patterns_fault (forbidden_texts values) ≡ None
      → demand_fault values ≡ None
  no_demand_fault name patterns = λ i. cond (one i) (Some TwoDemands) (option_or (name i) (patterns i))

  pub name_refused : (fault : WordsFault) → IsDemandRefusal (name_fault (problem_name values)) fault
      → IsDemandRefusal (demand_fault values) fault
  name_refused fault (inl memory) = inl memory
  name_refused fault (inr (known, is, cause)) =
      inr (
        known,
        is,
        λ i. cond (one i) (Some TwoDemands)
            (option_or (cause i) (patterns_fault (forbidden_texts values))),
      )

  pub patterns_refused : (fault : WordsFault) → name_fault (problem_name values) ≡ None
      → IsDemandRefusal (patterns_fault (forbidden_texts values)) fault
      → IsDemandRefusal (demand_fault values) fault
  patterns_refused fault name (inl memory) = inl memory
  patterns_refused fault name (inr (known, is, cause)) =
      inr (known, is, λ i. cond (one i) (Some TwoDemands) (option_or (name i) (cause i)))

-- as many patterns as texts
pub as_many : (texts : List Text) (patterns : List Pattern) → ArePatternsOf texts patterns
    → length patterns ≡ length texts
as_many texts patterns are = ap length are.are ∙ length-map texts pattern_in

no_name : (name : Option Text) → name_fault name ≡ None → None ≡ option_and_then known_problem name → name ≡ None
no_name None good none = refl
no_name (Some name) good none = go (known_problem name) good none
  where
    go : (o : Option KnownProblem) → cond (is_some o) None (Some UnknownProblem) ≡ None → None ≡ o → Some name ≡ None
    go None bad is = cc
    go (Some known) good is = cc

-- neither a name nor patterns
pub no_problem : (values : List Row) (patterns : List Pattern) → name_fault (problem_name values) ≡ None
    → None ≡ option_and_then known_problem (problem_name values) → ArePatternsOf (forbidden_texts values) patterns
    → length patterns ≡ 0 → HasNoProblem values
no_problem values patterns good none are empty = record {
  no_patterns = is_empty (forbidden_texts values) (sym (as_many (forbidden_texts values) patterns are) ∙ empty);
  no_name = no_name (problem_name values) good none;
}
  where
    is_empty : (texts : List Text) → length texts ≡ 0 → texts ≡ []
    is_empty [] e = refl
    is_empty (text ∷ texts) e = absurd (omega (arith, e))
