-- Tables and values that make the clauses of the patterns hold.
use Rattle.std.proofs.Common.{◌≡◌, ℕ, ◌<◌, Bool, true, false, ◌||◌, ◌&&◌, List, ◌++◌, map, All, get_or, Some, refl, sym}
use Rattle.std.proofs.Common.{ap, ◌∙◌, subst, arith}
use Rattle.std.specs.List.{list_any}
use Rattle.std.proofs.lemmas.Bool.{eqb-true, ltb-true, lt-ltb, false≢true}
use Rattle.std.proofs.lemmas.List.Elements.{All-append, All-map}
use Rattle.std.proofs.lemmas.List.Folds.{list_any-append}
use Rattle.std.proofs.lemmas.Option.{slice_get_within, get_or_from_slice_get, same_Some}
use Rattle.win_index.specs.Arcs.{part_at}
use Rattle.win_index.specs.Laws.{NumberOfWindow, WindowOfNumber, WindowsHaveNumbers, RingsHaveWindows, TuplesAreRings}
use Rattle.channel_tables.specs.Laws.{TuplesSuffice}
use Rattle.channel_tables.specs.Tables.{ChannelTable, channel_of}
use Rattle.channel_tables.proofs.Tables.{channel_at}
use Rattle.ring_problems.specs.declared.pattern.Entry.{Entry}
use Rattle.ring_problems.specs.declared.pattern.Entry.TheVariants.{Wildcard, Channel}
use Rattle.ring_problems.specs.declared.pattern.Pattern.{Pattern}
use Rattle.ring_problems.specs.Patterns.{Fits, is_below, is_channel, is_entry_below}
use Rattle.ring_problems.specs.TupleLists.{IsTuple}
use Rattle.ring_problems.specs.Problems.{IsBad, IsSolved, IsSolvedEverywhere}
use Rattle.ring_problems.proofs.Problems.{extra_range, extra_of_third, IsIn, in_of_get, get_of_in, all_of_in, in_filter}
use Rattle.ring_problems.proofs.Problems.{filter_in, suffice}
use Rattle.table_formula.specs.Clauses.{is_same_value, is_true_literal, Holds}
use Rattle.table_formula.specs.Problems.{Problem, IsSolution}
use Rattle.table_formula.specs.Formula.{values_of, variable_of, window_in, lacks, no_match, patterns_of, ring_tuples}
use Rattle.table_formula.specs.Formula.{pattern_clauses, apart_formula}
use Rattle.table_formula.specs.Laws.{SolutionsSatisfy, ModelsGiveSolutions}
use Rattle.table_formula.proofs.ClauseLists.{all_flat, formula_parts}
use Rattle.table_formula.proofs.Models as models
use Rattle.table_formula.proofs.Models.{all_front, all_back, all_of_flat, all_of_map, table_of, channel_in}
use Rattle.table_formula.proofs.PatternClauses.{HasPart, part_of, ring_tuple, and_true}
use Rattle.table_formula.proofs.Satisfied.{value_at, apart_satisfied}

-- some literal of a clause of three parts
any_of_parts : (values : ℕ → Bool) (p : Problem) (tuple : List ℕ) (pattern : Pattern)
    → list_any (is_true_literal values) (no_match p tuple pattern)
    ≡ (list_any (is_true_literal values) (lacks p tuple 0 pattern.first)
    || (list_any (is_true_literal values) (lacks p tuple 1 pattern.second) || list_any (is_true_literal values) (lacks p tuple 2 pattern.third)))
any_of_parts values p tuple pattern =
    list_any-append (is_true_literal values) (lacks p tuple 0 pattern.first)
    (lacks p tuple 1 pattern.second ++ lacks p tuple 2 pattern.third)
    ∙ ap (λ b. list_any (is_true_literal values) (lacks p tuple 0 pattern.first) || b)
    (list_any-append (is_true_literal values) (lacks p tuple 1 pattern.second) (lacks p tuple 2 pattern.third))

not_true : (b : Bool) → (is_same_value b false || false) ≡ false → b ≡ true
not_true true h = refl
not_true false h = cc

or_false : (a b : Bool) → (a || b) ≡ false → (a ≡ false) × (b ≡ false)
or_false true b h = cc
or_false false b h = (refl, h)

by_cases : (b : Bool) → ¬ (b ≡ false) → b ≡ true
by_cases true h = refl
by_cases false h = absurd (h refl)

-- a problem with the shape of a table
abbrev shaped : ChannelTable → ℕ → Problem → Problem
shaped t channels p = record { ids = t.ids; rounds = t.rounds; channels = channels; separation = p.separation; forbidden = p.forbidden }

same_shape : (p : Problem) (t : ChannelTable) → IsSolution p t → shaped t p.channels p ≡ p
same_shape p t solution = λ i. record {
  ids = solution.ids i;
  rounds = solution.rounds i;
  channels = p.channels;
  separation = p.separation;
  forbidden = p.forbidden;
}

-- an entry whose literal is false fits
fits_of_false :
    (t : ChannelTable) (channels : ℕ) (q : Problem) (tuple : List ℕ) (step : ℕ) (e : Entry)
    → is_entry_below channels e ≡ true
    → (is_channel e ≡ true → HasPart (shaped t channels q) tuple step)
    → list_any (is_true_literal (values_of (shaped t channels q) t)) (lacks (shaped t channels q) tuple step e) ≡ false
    → Fits e (channel_of t (part_at t.rounds step tuple))
fits_of_false t channels q tuple step Wildcard below part none = tt
fits_of_false t channels q tuple step (Channel c) below part none =
    let p : Problem = shaped t channels q in
    let w : ℕ = window_in p tuple step in
    let lt = ltb-true c channels below in
    let is : get_or t.entries w 0 ≡ c =
    eqb-true (get_or t.entries w 0) c (sym (value_at p t w c lt) ∙ not_true _ none) in
    channel_at t w (part_at t.rounds step tuple) (part refl).item ∙ ap Some is

-- the clause of a tuple that is not bad and a pattern
pattern_holds :
    (t : ChannelTable) (channels : ℕ) (q : Problem) (tuple : List ℕ) (pattern : Pattern)
    → IsTuple t.ids t.rounds q.forbidden tuple
    → ¬ IsBad t q.forbidden tuple → IsIn pattern (patterns_of (shaped t channels q))
    → Holds (values_of (shaped t channels q) t) (no_match (shaped t channels q) tuple pattern)
unfolding IsBad
pattern_holds t channels q tuple pattern window good member =
    let p : Problem = shaped t channels q in
    let values = values_of p t in
    let kept = filter_in (is_below channels) q.forbidden pattern member in
    let place = get_of_in q.forbidden pattern kept.0 in
    let first = and_true (is_entry_below channels pattern.first) _ kept.1 in
    let second = and_true (is_entry_below channels pattern.second) (is_entry_below channels pattern.third) first.1 in
    let range = extra_range q.forbidden in
    by_cases (list_any (is_true_literal values) (no_match p tuple pattern)) (λ none.
    let parts = or_false _ _ (sym (any_of_parts values p tuple pattern) ∙ none) in
    let later = or_false _ _ parts.1 in
    good (
      place.0,
      pattern,
      place.1,
      (
        fits_of_false t channels q tuple 0 pattern.first first.0 (λ _. part_of p tuple 0 (omega arith) window) parts.0,
        fits_of_false t channels q tuple 1 pattern.second second.0 (λ _. part_of p tuple 1 range.0 window) later.0,
        fits_of_false t channels q tuple 2 pattern.third second.1
            (λ h. let two = extra_of_third q.forbidden place.0 pattern place.1 h in part_of p tuple 2 (omega arith) window) later.1,
      ),
    ))

patterns_hold : (t : ChannelTable) (channels : ℕ) (q : Problem) → IsSolvedEverywhere t q.forbidden
    → All (Holds (values_of (shaped t channels q) t)) (pattern_clauses (shaped t channels q))
patterns_hold t channels q solved =
    let p : Problem = shaped t channels q in
    let good : IsSolved t q.forbidden = (suffice t q.forbidden).1 solved in
    all_flat (Holds (values_of p t)) (λ tuple. map (no_match p tuple) (patterns_of p)) (ring_tuples p)
    (λ k d within.
    let tuple = get_or (ring_tuples p) k d in
    All-map (Holds (values_of p t)) (no_match p tuple) (patterns_of p)
    (all_of_in (λ pattern. Holds (values_of p t) (no_match p tuple pattern)) (patterns_of p)
    (λ pattern member. pattern_holds t channels q tuple pattern (ring_tuple p k d within) (good k d within) member)))

pub patterns_satisfied : (p : Problem) (t : ChannelTable) → IsSolution p t
    → All (Holds (values_of p t)) (pattern_clauses p)
patterns_satisfied p t solution =
    subst (λ (q : Problem). All (Holds (values_of q t)) (pattern_clauses q)) (same_shape p t solution)
    (patterns_hold t p.channels p solution.solved)

all_false : (a b c : Bool) → a ≡ false → b ≡ false → c ≡ false → (a || (b || c)) ≡ false
all_false true b c h k l = h
all_false false true c h k l = k
all_false false false c h k l = l

both_true : (a b : Bool) → a ≡ true → b ≡ true → (a && b) ≡ true
both_true true b h k = k
both_true false b h k = h

in_all : {X : Type 0} (P : X → Type 0) (xs : List X) (x : X) → All P xs → IsIn x xs → P x
in_all P xs x all h =
    let place = get_of_in xs x h in
    subst P (get_or_from_slice_get xs place.0 x x place.1) (all place.0 x (slice_get_within xs place.0 x place.1))

module _ (suffices : TuplesSuffice) (is_ring : TuplesAreRings) (has_window : RingsHaveWindows)
    (has_number : WindowsHaveNumbers)
    (number_at : NumberOfWindow) where
  -- a table that is asked for makes all clauses hold
  pub satisfied : SolutionsSatisfy
  satisfied p t solution =
      subst (All (Holds (values_of p t))) (sym (formula_parts p))
      (All-append (Holds (values_of p t)) (apart_formula p) (pattern_clauses p)
      (apart_satisfied suffices is_ring has_window has_number number_at p t solution) (patterns_satisfied p t solution))

module _ (suffices : TuplesSuffice) (is_ring : TuplesAreRings) (has_window : RingsHaveWindows)
    (has_number : WindowsHaveNumbers)
    (number_at : NumberOfWindow) (item_of : WindowOfNumber) where
  module _ (p : Problem) (values : ℕ
      → Bool) (apart : All (Holds values) (apart_formula p)) (all : All (Holds values) (pattern_clauses p)) where
    -- the literal of an entry that fits is false
    entry_false : (tuple : List ℕ) (step : ℕ) (e : Entry) → (is_channel e ≡ true → HasPart p tuple step)
        → Fits e (channel_of (table_of p values) (part_at p.rounds step tuple))
        → (is_entry_below p.channels e ≡ true) × (list_any (is_true_literal values) (lacks p tuple step e) ≡ false)
    entry_false tuple step Wildcard part fits = (refl, refl)
    entry_false tuple step (Channel c) part fits =
        let own = part refl in
        let w : ℕ = window_in p tuple step in
        let is = models.channel_is suffices is_ring has_window has_number number_at item_of p values apart w own.below in
        let entry = models.entry_is suffices is_ring has_window has_number number_at item_of p values apart w own.below in
        let same : channel_in p values w ≡ c =
        same_Some (channel_in p values w) c
        (ap Some (sym entry) ∙ sym (channel_at (table_of p values) w (part_at p.rounds step tuple) own.item) ∙ fits) in (
          lt-ltb c p.channels (subst (λ x. x < p.channels) same is.0),
          ap (λ b. is_same_value b false || false) (ap (λ x. values (variable_of p w x)) (sym same) ∙ is.1),
        )

    solved : IsSolved (table_of p values) p.forbidden
    unfolding IsBad
    solved k d within bad =
        let tuple : List ℕ = get_or (ring_tuples p) k d in
        let window = ring_tuple p k d within in
        let pattern = bad.1 in
        let range = extra_range p.forbidden in
        let first = entry_false tuple 0 pattern.first (λ _. part_of p tuple 0 (omega arith) window) bad.3.0 in
        let second = entry_false tuple 1 pattern.second (λ _. part_of p tuple 1 range.0 window) bad.3.1 in
        let third = entry_false tuple 2 pattern.third
        (λ h. let two = extra_of_third p.forbidden bad.0 pattern bad.2 h in part_of p tuple 2 (omega arith) window) bad.3.2 in
        let below : is_below p.channels pattern ≡ true =
        both_true (is_entry_below p.channels pattern.first) _ first.0
        (both_true (is_entry_below p.channels pattern.second) (is_entry_below p.channels pattern.third) second.0 third.0) in
        let member = in_filter (is_below p.channels) p.forbidden pattern below
        (in_of_get p.forbidden bad.0 pattern bad.2) in
        let of_tuple = all_of_flat (Holds values) (λ list. map (no_match p list) (patterns_of p))
        (ring_tuples p) all k d within in
        let holds : list_any (is_true_literal values) (no_match p tuple pattern) ≡ true =
        in_all (λ q. Holds values (no_match p tuple q)) (patterns_of p) pattern
        (all_of_map (Holds values) (no_match p tuple) (patterns_of p) of_tuple) member in
        false≢true (sym (all_false _ _ _ first.1 second.1 third.1) ∙ sym (any_of_parts values p tuple pattern) ∙ holds)

  -- values that make all clauses hold describe such a table
  pub models_give : ModelsGiveSolutions
  models_give p values has both =
      let parts = subst (All (Holds values)) (formula_parts p) both in
      let apart = all_front (Holds values) (apart_formula p) (pattern_clauses p) parts in
      let patterns = all_back (Holds values) (apart_formula p) (pattern_clauses p) parts in
      let t : ChannelTable = table_of p values in (
        t,
        record {
          table = models.is_table suffices is_ring has_window has_number number_at item_of p values apart has;
          ids = refl;
          rounds = refl;
          channels = omega arith;
          apart = (suffices t p.separation).0
              (models.apart suffices is_ring has_window has_number number_at item_of p values apart);
          solved = (suffice t p.forbidden).0 (solved p values apart patterns);
        },
      )
