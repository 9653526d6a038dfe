-- What other crates cite of problems: patterns that match, tuples and their numbers, bad tuples, and what is in a
-- list. Of the files here they import this one alone.
use Rattle.std.proofs.Common.{◌≡◌, ◌≢◌, ℕ, ◌+◌, ◌-◌, ◌*◌, ◌<◌, ◌≤◌, Bool, true, false, Option, List, length, All}
use Rattle.std.proofs.Common.{filter, take, drop, slice_get, slice_index, Some}
use Rattle.win_index.specs.Arcs.{part_at}
use Rattle.win_index.specs.Buckets.{IsBucketStart}
use Rattle.win_index.specs.Windows.{unused, IsWindow}
use Rattle.channel_tables.specs.Tables.{ChannelTable, channel_of}
use Rattle.ring_problems.specs.declared.pattern.Pattern.{Pattern}
use Rattle.ring_problems.specs.Laws.{TuplesSuffice}
use Rattle.ring_problems.specs.Patterns.{IsForbidden, has_third, is_long, extra}
use Rattle.ring_problems.specs.Problems.{tuples, IsBad, IsSolved, IsSolvedEverywhere, NoneIsBad}
use Rattle.ring_problems.specs.TupleLists.{tuples_below, IsTuple}
use Rattle.ring_problems.proofs.Arounds
use Rattle.ring_problems.proofs.Matching
use Rattle.ring_problems.proofs.Members
use Rattle.ring_problems.proofs.Suffices
use Rattle.ring_problems.proofs.Thirds
use Rattle.ring_problems.proofs.TupleParts
-- a tuple with a number: the number of its first 2t+2 identifiers, and its place among the tuples that begin with these
pub use Rattle.ring_problems.proofs.TupleParts.{TupleParts}
-- an item is in a list
pub use Rattle.ring_problems.proofs.Members.{IsIn}

-- ---- patterns

-- tuples have one or two identifiers more than windows
pub extra_range : (problem : List Pattern) → (1 ≤ extra problem) × (extra problem ≤ 2)
extra_range = Matching.extra_range

-- two if the problem has a pattern of three entries
pub long_extra : (problem : List Pattern) → is_long problem ≡ true → extra problem ≡ 2
long_extra = TupleParts.long_extra

-- and one if it has none
pub short_extra : (problem : List Pattern) → is_long problem ≡ false → extra problem ≡ 1
short_extra = TupleParts.short_extra

-- a pattern that asks something of the third place makes tuples longer
pub extra_of_third : (problem : List Pattern) (n : ℕ) (p : Pattern) → slice_get problem n ≡ Some p → has_third p ≡ true
    → extra problem ≡ 2
extra_of_third = Matching.extra_of_third

-- equal channels are equally forbidden; the third one matters only if tuples are longer
pub forbidden_along :
    (problem : List Pattern) (a b c d e f : Option ℕ) → a ≡ d → b ≡ e → (2 ≤ extra problem → c ≡ f)
    → IsForbidden problem a b c → IsForbidden problem d e f
forbidden_along = Matching.forbidden_along

-- ---- tuples

-- the parts of a tuple are windows
pub tuple_window : (m t step : ℕ) (problem : List Pattern) (tuple : List ℕ) → IsTuple m t problem tuple
    → step ≤ extra problem
    → IsWindow (2 * t + 1) m (part_at t step tuple)
tuple_window = Arounds.tuple_window

-- each item of the list of tuples is a tuple, with these parts
pub tuple_parts : (m t n : ℕ) (problem : List Pattern) (tuple : List ℕ)
    → slice_get (tuples_below m t problem) n ≡ Some tuple
    → TupleParts m t problem n tuple
tuple_parts = TupleParts.tuple_parts

-- each item of the tuples of a table is a tuple
pub tuple_at : (t : ChannelTable) (problem : List Pattern) (n : ℕ) (tuple : List ℕ)
    → slice_get (tuples t problem) n ≡ Some tuple
    → IsTuple t.ids t.rounds problem tuple
tuple_at = Suffices.tuple_at

-- each tuple is in the list
pub tuple_place : (m t : ℕ) (problem : List Pattern) (tuple : List ℕ) → IsTuple m t problem tuple
    → (n : ℕ) × (slice_get (tuples_below m t problem) n ≡ Some tuple)
tuple_place = TupleParts.tuple_place

-- the third window of a tuple is in the bucket of the second and third window's common identifiers, at a place that is
-- not the second identifier's
pub third_in_bucket : (t : ChannelTable) (problem : List Pattern) (pair tuple : List ℕ) (first gap : ℕ)
    → is_long problem ≡ true
    → IsBucketStart (2 * t.rounds) t.ids (drop 2 pair) first → length (unused (slice_index pair 1) (drop 2 pair)) ≡ gap
    → IsTuple t.ids t.rounds problem tuple → take (2 * t.rounds + 1 + 1) tuple ≡ pair
    → (place : ℕ) × (place < t.ids - 2 * t.rounds) × (place ≢ gap)
    × (channel_of t (part_at t.rounds 2 tuple) ≡ Some (slice_index t.entries (first + place)))
third_in_bucket = Thirds.third_in_bucket

-- ---- bad tuples

-- a table solves a problem on all rings if and only if none of its tuples is bad
pub suffice : TuplesSuffice
suffice = Suffices.suffice

-- no tuple of a table that solves the problem is bad
pub none_bad : (t : ChannelTable) (problem : List Pattern) (n : ℕ) (tuple : List ℕ) → IsSolved t problem
    → slice_get (tuples t problem) n ≡ Some tuple → ¬ IsBad t problem tuple
none_bad = Suffices.none_bad

-- a table solves a problem everywhere if none of its tuples, which are as many as counted, is bad
pub none_is_solved : (t : ChannelTable) (problem : List Pattern) (count : ℕ) → count ≡ length (tuples t problem)
    → NoneIsBad t problem 0 count → IsSolvedEverywhere t problem
none_is_solved = Suffices.none_is_solved

-- ---- lists of all kinds

-- an item at a place is in the list
pub in_of_get : {X : Type 0} (xs : List X) (n : ℕ) (x : X) → slice_get xs n ≡ Some x → IsIn x xs
in_of_get xs n x item = Members.in_of_get xs n x item

-- and what is in the list is at a place
pub get_of_in : {X : Type 0} (xs : List X) (x : X) → IsIn x xs → (n : ℕ) × (slice_get xs n ≡ Some x)
get_of_in xs x is = Members.get_of_in xs x is

-- what holds of all that is in a list holds of all its items
pub all_of_in : {X : Type 0} (P : X → Type 0) (xs : List X) → ((x : X) → IsIn x xs → P x) → All P xs
all_of_in P xs each = Members.all_of_in P xs each

-- what is in a list and passes a test is in the filtered list
pub in_filter : {X : Type 0} (test : X → Bool) (xs : List X) (x : X) → test x ≡ true → IsIn x xs
    → IsIn x (filter test xs)
in_filter test xs x passes is = Members.in_filter test xs x passes is

-- what is in the filtered list is in the list and passes the test
pub filter_in : {X : Type 0} (test : X → Bool) (xs : List X) (x : X) → IsIn x (filter test xs)
    → IsIn x xs × (test x ≡ true)
filter_in test xs x is = Members.filter_in test xs x is

-- what follows in either case of a test
pub by_test : (P : Type 0) (b : Bool) → (b ≡ true → P) → (b ≡ false → P) → P
by_test = TupleParts.by_test
