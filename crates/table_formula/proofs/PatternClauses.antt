-- The clauses of the patterns: the windows of their tuples, their numbers, and their variables.
use Rattle.std.proofs.Common.{◌≡◌, ℕ, ◌+◌, ◌*◌, ◌/◌, ◌%◌, ◌<◌, ◌≤◌, Bool, true, false, ◌&&◌, List, [], ◌++◌, Option}
use Rattle.std.proofs.Common.{None, Some, map, flat_map, All, length, get_or, slice_get, unwrap_or, refl, sym, ap, ◌∙◌}
use Rattle.std.proofs.Common.{subst, arith}
use Rattle.std.proofs.lemmas.Bool.{ltb-true}
use Rattle.std.proofs.lemmas.List.{length-map, get_or-map}
use Rattle.std.proofs.lemmas.List.Elements.{All-nil, All-cons, All-append, All-map}
use Rattle.std.proofs.lemmas.Nat.{mul-le, div-add-mod'}
use Rattle.std.proofs.lemmas.Option.{slice_get-get_or, slice_get_within}
use Rattle.win_index.specs.Arcs.{part_at}
use Rattle.win_index.specs.Windows.{number_of}
use Rattle.win_index.proofs.Windows.{number_of_is, number_of_some, window_place}
use Rattle.ring_problems.specs.declared.pattern.Entry.{Entry}
use Rattle.ring_problems.specs.declared.pattern.Entry.TheVariants.{Wildcard, Channel}
use Rattle.ring_problems.specs.declared.pattern.Pattern.{Pattern}
use Rattle.ring_problems.specs.Patterns.{extra, is_below, is_channel, is_entry_below}
use Rattle.ring_problems.specs.TupleLists.{IsTuple}
use Rattle.ring_problems.proofs.Problems.{tuple_window, extra_of_third, all_of_in, filter_in, get_of_in}
use Rattle.ring_problems.proofs.Problems.{in_of_get, tuple_parts}
use Rattle.table_formula.specs.declared.literal.Literal.{Literal}
use Rattle.table_formula.specs.Problems.{Problem}
use Rattle.table_formula.specs.Formula.{windows_of, window_in, lacks, lacks_channel, no_match, patterns_of, ring_tuples}
use Rattle.table_formula.specs.Formula.{pattern_clauses, apart_formula, formula}
use Rattle.table_formula.proofs.ClauseLists.{all_flat, length_flat, formula_length}
use Rattle.table_formula.proofs.Numbered.{variable_below, flat_at, none_left}

-- a window of a tuple, with its number
pub record HasPart (p : Problem) (tuple : List ℕ) (step : ℕ) : Type 0 where
  pub item : slice_get (windows_of p) (window_in p tuple step) ≡ Some (part_at p.rounds step tuple)
  pub below : window_in p tuple step < length (windows_of p)

pub part_of : (p : Problem) (tuple : List ℕ) (step : ℕ) → step ≤ extra p.forbidden
    → IsTuple p.ids p.rounds p.forbidden tuple
    → HasPart p tuple step
part_of p tuple step le tuple_is =
    let part : List ℕ = part_at p.rounds step tuple in
    let is = tuple_window p.ids p.rounds step p.forbidden tuple tuple_is le in
    let place = window_place (2 * p.rounds + 1) p.ids part is in
    let number : window_in p tuple step ≡ place.0 =
    ap (λ o. unwrap_or o 0) (number_of_is (2 * p.rounds + 1) p.ids place.0 part place.1) in
    let item : slice_get (windows_of p) (window_in p tuple step) ≡ Some part =
    ap (slice_get (windows_of p)) number ∙ place.1 in
    record { item = item; below = slice_get_within (windows_of p) (window_in p tuple step) part item }

-- a tuple by its number
pub ring_tuple : (p : Problem) (k : ℕ) (d : List ℕ) → k < length (ring_tuples p)
    → IsTuple p.ids p.rounds p.forbidden (get_or (ring_tuples p) k d)
ring_tuple p k d within =
    (tuple_parts p.ids p.rounds k p.forbidden (get_or (ring_tuples p) k d) (slice_get-get_or (ring_tuples p) k d within)).is

pub and_true : (a b : Bool) → (a && b) ≡ true → (a ≡ true) × (b ≡ true)
and_true true b h = (refl, h)
and_true false b h = cc

-- the variables of the clauses
some_number : (p : Problem) (part : List ℕ) (o : Option ℕ) → number_of (2 * p.rounds + 1) p.ids part ≡ o
    → 0 < length (windows_of p)
    → unwrap_or o 0 < length (windows_of p)
some_number p part None is some = some
some_number p part (Some n) is some =
    slice_get_within (windows_of p) n part (number_of_some (2 * p.rounds + 1) p.ids n part is)

lacks_within : (p : Problem) (tuple : List ℕ) (step : ℕ) (e : Entry) → 0 < length (windows_of p)
    → is_entry_below p.channels e ≡ true
    → All (λ (l : Literal). l.variable < length (windows_of p) * p.channels) (lacks p tuple step e)
lacks_within p tuple step Wildcard some below =
    All-nil (λ (l : Literal). l.variable < length (windows_of p) * p.channels)
lacks_within p tuple step (Channel c) some below =
    let P : Literal → Type 0 = λ (l : Literal). l.variable < length (windows_of p) * p.channels in
    All-cons P (lacks_channel p (window_in p tuple step) c) []
    (variable_below p (window_in p tuple step) c (some_number p (part_at p.rounds step tuple) _ refl some) (ltb-true c p.channels below)) (All-nil P)

pub no_match_within : (p : Problem) (tuple : List ℕ) (pattern : Pattern) → 0 < length (windows_of p)
    → is_below p.channels pattern ≡ true
    → All (λ (l : Literal). l.variable < length (windows_of p) * p.channels) (no_match p tuple pattern)
no_match_within p tuple pattern some below =
    let P : Literal → Type 0 = λ (l : Literal). l.variable < length (windows_of p) * p.channels in
    let first = and_true (is_entry_below p.channels pattern.first) _ below in
    let second = and_true (is_entry_below p.channels pattern.second)
    (is_entry_below p.channels pattern.third) first.1 in
    All-append P (lacks p tuple 0 pattern.first) (lacks p tuple 1 pattern.second ++ lacks p tuple 2 pattern.third)
    (lacks_within p tuple 0 pattern.first some first.0)
    (All-append P (lacks p tuple 1 pattern.second) (lacks p tuple 2 pattern.third) (lacks_within p tuple 1 pattern.second some second.0)
    (lacks_within p tuple 2 pattern.third some second.1))

pub patterns_within : (p : Problem)
    → All (All (λ (l : Literal). l.variable < length (windows_of p) * p.channels)) (pattern_clauses p)
patterns_within p =
    let P : List Literal → Type 0 = All (λ (l : Literal). l.variable < length (windows_of p) * p.channels) in
    all_flat P (λ tuple. map (no_match p tuple) (patterns_of p)) (ring_tuples p) (λ k d within.
    let tuple = get_or (ring_tuples p) k d in
    let here = part_of p tuple 0 (omega arith) (ring_tuple p k d within) in
    let below = here.below in
    All-map P (no_match p tuple) (patterns_of p)
    (all_of_in (λ pattern. P (no_match p tuple pattern)) (patterns_of p)
    (λ pattern member. no_match_within p tuple pattern (omega arith) (filter_in (is_below p.channels) p.forbidden pattern member).1)))

abbrev clauses : Problem → List ℕ → List (List Literal)
clauses p tuple = map (no_match p tuple) (patterns_of p)

-- their number
pub pattern_length : (p : Problem) → length (pattern_clauses p) ≡ length (ring_tuples p) * length (patterns_of p)
pattern_length p = length_flat (clauses p) (length (patterns_of p))
    (λ tuple. length-map (patterns_of p) (no_match p tuple)) (ring_tuples p)

-- the number of all clauses
pub total : (p : Problem) (apart tuples count : ℕ) → apart ≡ length (apart_formula p)
    → tuples ≡ length (ring_tuples p) → count ≡ length (patterns_of p) → length (formula p) ≡ apart + tuples * count
total p apart tuples count apart_is tuples_is count_is =
    let product : tuples * count ≡ length (ring_tuples p) * length (patterns_of p) = λ i. tuples_is i * count_is i in
    omega (arith, formula_length p, pattern_length p, apart_is, product)

-- the clause of a tuple and a pattern
pub pattern_clause : (p : Problem) (i j index : ℕ) (tuple : List ℕ) (pattern : Pattern) → i < length (ring_tuples p)
    → j < length (patterns_of p) → index ≡ i * length (patterns_of p) + j → get_or (ring_tuples p) i [] ≡ tuple
    → get_or (patterns_of p) j pattern ≡ pattern → slice_get (pattern_clauses p) index ≡ Some (no_match p tuple pattern)
pattern_clause p i j index tuple pattern i_below j_below is tuple_is pattern_is =
    let n : ℕ = length (patterns_of p) in
    let within : index < length (flat_map (clauses p) (ring_tuples p)) =
    omega (
      arith,
      is,
      length_flat (clauses p) n (λ t. length-map (patterns_of p) (no_match p t)) (ring_tuples p),
      j_below,
      mul-le (i + 1) n (length (ring_tuples p)) n (omega arith) (omega arith),
    ) in
    slice_get-get_or (flat_map (clauses p) (ring_tuples p)) index [] within
    ∙ ap Some (ap (λ k. get_or (flat_map (clauses p) (ring_tuples p)) k []) is
    ∙ flat_at (clauses p) n (λ t. length-map (patterns_of p) (no_match p t)) (ring_tuples p) i j [] [] i_below j_below
    ∙ ap (λ t. get_or (clauses p t) j []) tuple_is
    ∙ get_or-map (no_match p tuple) (patterns_of p) j pattern [] j_below
    ∙ ap (no_match p tuple) pattern_is)

-- the index of a clause of a tuple and a pattern, cut into the number of the tuple and the index of the pattern
pub record PatternSplits (p : Problem) (index count : ℕ) : Type 0 where
  pub some : 0 < count
  pub tuple : index / count < length (ring_tuples p)
  pub pattern : index % count < length (patterns_of p)
  pub at' : index ≡ index / count * length (patterns_of p) + index % count

pub pattern_splits : (p : Problem) (index count : ℕ) → index < length (pattern_clauses p)
    → count ≡ length (patterns_of p) → PatternSplits p index count
pattern_splits p index count below is =
    let t : ℕ = length (ring_tuples p) in
    let total : index < t * count = omega (arith, pattern_length p, ap (λ n. t * n) is, below) in
    let nonzero : 0 < count = let no : ¬ (count ≡ 0) = λ e. omega (arith, none_left t count e, total) in omega arith in
    let whole : index / count * count + index % count ≡ index = div-add-mod' index count in
    let no : ¬ (t ≤ index / count) = λ h. let more : t * count ≤ index / count * count =
    mul-le t count (index / count) count h (omega arith) in omega (arith, more, whole, total) in
    record {
      some = nonzero;
      tuple = omega arith;
      pattern = omega arith;
      at' = sym whole ∙ ap (λ n. index / count * n + index % count) is;
    }

-- a pattern that the tables can match, by its index
pub possible_pattern : (p : Problem) (possible : List Pattern) (n : ℕ) (pattern : Pattern) → possible ≡ patterns_of p
    → slice_get possible n ≡ Some pattern
    → (is_below p.channels pattern ≡ true) × (is_channel pattern.third ≡ true → 2 ≤ extra p.forbidden)
possible_pattern p possible n pattern same item =
    let member =
    filter_in (is_below p.channels) p.forbidden pattern
    (in_of_get (patterns_of p) n pattern (subst (λ patterns. slice_get patterns n ≡ Some pattern) same item)) in
    let place = get_of_in p.forbidden pattern member.0 in
    (member.1, λ third. let two = extra_of_third p.forbidden place.0 pattern place.1 third in omega (arith, two))
