-- The formula of a problem: variables that say which window has which channel, and clauses that hold for each table
-- that is asked for.
use Rattle.std.specs.Prelude.{◌≡◌, ◌==◌, ℕ, ◌+◌, ◌*◌, ◌/◌, ◌%◌, ◌<◌, ◌≤◌, Bool, true, false, List, [], ◌∷◌, ◌++◌, All}
use Rattle.std.specs.Prelude.{Some, map, filter, length, max, nat_lt, take, unwrap_or, slice_get, slice_index}
use Rattle.std.specs.Int.{abs_diff}
use Rattle.std.specs.List.{range_with_len, flat_map}
use Rattle.win_index.specs.Arcs.{part_at}
use Rattle.win_index.specs.Windows.{windows, number_of}
use Rattle.channel_tables.specs.Tables.{ChannelTable}
use Rattle.channel_tables.specs.declared.separation.Separation.{Separation}
use Rattle.channel_tables.specs.Apart.{extra}
use Rattle.ring_problems.specs.declared.pattern.Entry.{Entry}
use Rattle.ring_problems.specs.declared.pattern.Entry.TheVariants.{Wildcard, Channel}
use Rattle.ring_problems.specs.declared.pattern.Pattern.{Pattern}
use Rattle.ring_problems.specs.Patterns.{is_below}
use Rattle.ring_problems.specs.TupleLists.{tuples_below}
use Rattle.table_formula.specs.declared.literal.Literal.{Literal}
use Rattle.table_formula.specs.declared.formula.conflict.Conflict.{Conflict}
use Rattle.table_formula.specs.Problems.{Problem}

-- the windows of the last level
abbrev pub windows_of : Problem → List (List ℕ)
windows_of p = windows (2 * p.rounds + 1) p.ids

-- the lists of distinct identifiers of all windows at near places
abbrev pub tuples_of : Problem → List (List ℕ)
tuples_of p = windows (2 * p.rounds + 1 + extra p.separation) p.ids

-- the variable that says that the window with this number has this channel
abbrev pub variable_of : Problem → ℕ → ℕ → ℕ
variable_of p window channel = window * p.channels + channel

-- the number of variables
abbrev pub variable_count : Problem → ℕ
variable_count p = length (windows_of p) * p.channels

-- the values of the variables that describe a table
abbrev pub values_of : Problem → ChannelTable → ℕ → Bool
values_of p t variable = slice_index t.entries (variable / p.channels) == variable % p.channels

-- the window with this number has this channel
abbrev pub has_channel : Problem → ℕ → ℕ → Literal
has_channel p window channel = record { variable = variable_of p window channel; is_positive = true }

-- the window with this number does not have this channel
abbrev pub lacks_channel : Problem → ℕ → ℕ → Literal
lacks_channel p window channel = record { variable = variable_of p window channel; is_positive = false }

-- the window with this number has some channel
abbrev pub some_channel : Problem → ℕ → List Literal
some_channel p window = map (has_channel p window) (range_with_len 0 p.channels)

-- whether the channels of a pair are closer than a distance
abbrev pub is_close : ℕ → Conflict → Bool
is_close distance k = nat_lt (abs_diff k.first k.second) distance

-- the pairs with this first channel, at places this many steps apart, that are closer than the distance
abbrev pub close_to : ℕ → ℕ → ℕ → ℕ → List Conflict
close_to channels step distance first =
    filter (is_close distance)
    (map (λ second. record { step = step; first = first; second = second }) (range_with_len 0 channels))

-- the pairs of channels, at places this many steps apart, that are closer than the distance
abbrev pub close_pairs : ℕ → ℕ → ℕ → List Conflict
close_pairs channels step distance = flat_map (close_to channels step distance) (range_with_len 0 channels)

-- the pairs of channels below a number that a separation forbids: those of neighbours, then those of places at distance
-- two
abbrev pub close_in : ℕ → Separation → List Conflict
close_in channels s = close_pairs channels 1 s.near ++ close_pairs channels 2 s.far

-- the pairs of channels that a problem forbids
abbrev pub conflicts_of : Problem → List Conflict
conflicts_of p = close_in p.channels p.separation

-- what each forbidden pair is
pub record IsPair (p : Problem) (k : Conflict) : Type 0 where
  pub step : k.step ≤ extra p.separation
  pub first : k.first < p.channels
  pub second : k.second < p.channels

-- the number of the window from an offset on in a tuple
abbrev pub window_in : Problem → List ℕ → ℕ → ℕ
window_in p tuple offset = unwrap_or (number_of (2 * p.rounds + 1) p.ids (part_at p.rounds offset tuple)) 0

-- two windows of a tuple do not have two channels that are too close
abbrev pub not_both : Problem → List ℕ → Conflict → List Literal
not_both p tuple conflict =
    lacks_channel p (window_in p tuple 0) conflict.first ∷ lacks_channel p (window_in p tuple conflict.step)
    conflict.second ∷ []

-- the clauses of a tuple: for each forbidden pair, its windows do not have these two channels
abbrev pub not_too_close : Problem → List ℕ → List (List Literal)
not_too_close p tuple = map (not_both p tuple) (conflicts_of p)

-- a clause for each window, and for each tuple and each forbidden pair
unfoldable pub apart_formula : Problem → List (List Literal)
apart_formula p = map (some_channel p) (range_with_len 0 (length (windows_of p)))
    ++ flat_map (not_too_close p) (tuples_of p)

-- the window from an offset on does not have the channel that an entry of a pattern asks for
abbrev pub lacks : Problem → List ℕ → ℕ → Entry → List Literal
lacks p tuple offset Wildcard = []
lacks p tuple offset (Channel c) = lacks_channel p (window_in p tuple offset) c ∷ []

-- the windows of a tuple do not match a pattern
abbrev pub no_match : Problem → List ℕ → Pattern → List Literal
no_match p tuple pattern = lacks p tuple 0 pattern.first
    ++ (lacks p tuple 1 pattern.second ++ lacks p tuple 2 pattern.third)

-- the forbidden patterns that the channels of such a table can match
abbrev pub patterns_of : Problem → List Pattern
patterns_of p = filter (is_below p.channels) p.forbidden

-- the tuples of the patterns
abbrev pub ring_tuples : Problem → List (List ℕ)
ring_tuples p = tuples_below p.ids p.rounds p.forbidden

-- a clause for each of these tuples and each such pattern
abbrev pub pattern_clauses : Problem → List (List Literal)
pattern_clauses p = flat_map (λ tuple. map (no_match p tuple) (patterns_of p)) (ring_tuples p)

-- the clauses of the separation, and those of the patterns
unfoldable pub formula : Problem → List (List Literal)
formula p = apart_formula p ++ pattern_clauses p

-- the first `count` of these literals are the clause of the formula with this index, and their variables are the
-- formula's
pub record BeginsWithClause (p : Problem) (index count : ℕ) (literals : List Literal) : Type 0 where
  pub fits : count ≤ length literals
  pub item : slice_get (formula p) index ≡ Some (take count literals)
  pub within : All (λ l. l.variable < variable_count p) (take count literals)

-- so many literals have room for each clause
abbrev pub clause_room : Problem → ℕ
clause_room p = max 3 p.channels
