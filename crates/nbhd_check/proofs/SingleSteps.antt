-- Windows between two others, of which no three are forbidden.
use Rattle.std.proofs.Common.{◌≡◌, ◌≢◌, ℕ, ◌+◌, ◌-◌, ◌*◌, ◌%◌, ◌<◌, ◌≤◌, List, Some, length, get_or, drop, slice_get}
use Rattle.std.proofs.Common.{slice_index, bit_and, sym, ap, ◌∙◌, arith, get_or-drop}
use Rattle.std.proofs.lemmas.List.{get_or-take}
use Rattle.std.proofs.lemmas.Option.{same_Some, slice_get_within}
use Rattle.win_index.specs.Arcs.{part_at}
use Rattle.win_index.proofs.Windows.{window_place}
use Rattle.channel_tables.specs.Tables.{ChannelTable, IsTable, channel_of, windows_of}
use Rattle.channel_tables.proofs.Tables.{channel_at}
use Rattle.ring_problems.specs.declared.pattern.Pattern.{Pattern}
use Rattle.ring_problems.specs.Patterns.{extra, is_long}
use Rattle.ring_problems.specs.Problems.{IsBad}
use Rattle.ring_problems.specs.TupleLists.{IsTuple}
use Rattle.ring_problems.proofs.Problems.{tuple_window, extra_range, forbidden_along, by_test, long_extra, short_extra}
use Rattle.nbhd_check.specs.Masks.{HasBit, HasBitsOf}
use Rattle.nbhd_check.specs.PatternBits.{AreBits, cell_of}
use Rattle.nbhd_check.specs.PatternSearch.{BeginsForbidden, IsNoMiddle}
use Rattle.nbhd_check.proofs.BitSets.{none_shared}

-- the number of one of the first windows of a tuple
record HasNumber (t : ChannelTable) (tuple : List ℕ) (step : ℕ) : Type 0 where
  number : ℕ
  item : slice_get (windows_of t) number ≡ Some (part_at t.rounds step tuple)
  channel : channel_of t (part_at t.rounds step tuple) ≡ Some (slice_index t.entries number)

number_at : (t : ChannelTable) (problem : List Pattern) (tuple : List ℕ) (step : ℕ)
    → IsTuple t.ids t.rounds problem tuple → step ≤ extra problem
    → HasNumber t tuple step
number_at t problem tuple step is le =
    let place = window_place (2 * t.rounds + 1) t.ids (part_at t.rounds step tuple)
    (tuple_window t.ids t.rounds step problem tuple is le) in
    record { number = place.0; item = place.1; channel = channel_at t place.0 (part_at t.rounds step tuple) place.1 }

-- windows that begin with different identifiers have different numbers
numbers_differ : (t : ChannelTable) (tuple : List ℕ) (i j : ℕ) → (a : HasNumber t tuple i) → (b : HasNumber t tuple j)
    → get_or tuple i 0 ≢ get_or tuple j 0 → a.number ≢ b.number
numbers_differ t tuple i j a b other same =
    let parts : part_at t.rounds i tuple ≡ part_at t.rounds j tuple =
    same_Some (part_at t.rounds i tuple) (part_at t.rounds j tuple) (sym a.item
    ∙ ap (slice_get (windows_of t)) same ∙ b.item) in
    let first = λ (step : ℕ). get_or-take (2 * t.rounds + 1) (drop step tuple) 0 0 (omega arith)
    ∙ get_or-drop step tuple 0 0 in
    let plain = λ (step : ℕ). ap (λ n. get_or tuple n 0) (add_zero step) in
    other (sym (first i ∙ plain i) ∙ ap (λ list. get_or list 0 0) parts ∙ first j ∙ plain j)
  where
    add_zero : (n : ℕ) → n + 0 ≡ n
    add_zero n = omega arith

-- a third window: that of the tuple if a pattern asks for it, else the first one
record HasThird (t : ChannelTable) (problem : List Pattern) (tuple : List ℕ) (second : ℕ) : Type 0 where
  number : ℕ
  inside : number < length (windows_of t)
  other : number ≢ second
  channel : 2 ≤ extra problem → channel_of t (part_at t.rounds 2 tuple) ≡ Some (slice_index t.entries number)

third_number : (t : ChannelTable) (problem : List Pattern) (tuple : List ℕ) → IsTuple t.ids t.rounds problem tuple
    → (a : HasNumber t tuple 0) → (b : HasNumber t tuple 1) → a.number ≢ b.number → HasThird t problem tuple b.number
third_number t problem tuple is a b differ =
    by_test (HasThird t problem tuple b.number) (is_long problem)
    (λ long.
    let two = long_extra problem long in
    let size = is.size in
    let c = number_at t problem tuple 2 is (omega (arith, two)) in
    let one : extra problem - 1 ≡ 1 = omega (arith, two) in
    let back = is.back in
    let back_size = back.size in
    let apart : get_or tuple 2 0 ≢ get_or tuple 1 0 = λ e.
    back.distinct 0 1 0 (omega arith) (omega arith)
    (ap (λ n. get_or (drop n tuple) 0 0) one ∙ get_or-drop 1 tuple 0 0 ∙ sym e
    ∙ sym (ap (λ n. get_or (drop n tuple) 1 0) one ∙ get_or-drop 1 tuple 1 0)) in
    record {
      number = c.number;
      inside = slice_get_within (windows_of t) c.number _ c.item;
      other = numbers_differ t tuple 2 1 c b apart;
      channel = λ _. c.channel;
    })
    (λ short.
    let one = short_extra problem short in
    record {
      number = a.number;
      inside = slice_get_within (windows_of t) a.number _ a.item;
      other = differ;
      channel = λ more. absurd (omega (arith, one, more));
    })

-- no tuple is bad if no window is forbidden between two others
pub free_by_middles : (t : ChannelTable) (problem : List Pattern) (window : List ℕ)
    → length t.entries ≡ length (windows_of t)
    → ((number : ℕ) → number < length (windows_of t) → IsNoMiddle t problem number) → ¬ BeginsForbidden t problem window
unfolding IsBad
free_by_middles t problem window full none bad =
    let tuple = bad.0 in
    let is = bad.1 in
    let range = extra_range problem in
    let front = is.front in
    let front_size = front.size in
    let k : ℕ = 2 * t.rounds + 1 + 1 in
    let a = number_at t problem tuple 0 is (omega arith) in
    let b = number_at t problem tuple 1 is range.0 in
    let apart : get_or tuple 0 0 ≢ get_or tuple 1 0 = λ e.
    front.distinct 0 1 0 (omega arith) (omega arith)
    (get_or-take k tuple 0 0 (omega arith) ∙ e ∙ sym (get_or-take k tuple 1 0 (omega arith))) in
    let differ = numbers_differ t tuple 0 1 a b apart in
    let third = third_number t problem tuple is a b differ in
    none b.number (slice_get_within (windows_of t) b.number _ b.item) a.number third.number
    (omega (arith, full, slice_get_within (windows_of t) a.number _ a.item)) (omega (arith, full, third.inside)) differ third.other
    (forbidden_along problem _ _ _ _ _ _ a.channel b.channel third.channel bad.3)

-- no window with this channel is forbidden between two others if no third channel is in what is forbidden after a
-- first one
pub no_middle : (t : ChannelTable) (problem : List Pattern) (bits : List ℕ) (limit number thirds others : ℕ) → IsTable t
    → AreBits problem limit bits
    → ((c : ℕ) → c < t.channels → c % 64 < limit) → number < length t.entries
    → ((place : ℕ) → place < length t.entries → place ≢ number → HasBit others (get_or t.entries place 0))
    → ((a : ℕ) → a % 64 < limit → HasBit others a
    → HasBitsOf thirds (get_or bits (cell_of a (get_or t.entries number 0)) 0))
    → bit_and thirds others ≡ 0 → IsNoMiddle t problem number
no_middle t problem bits limit number thirds others table are below lt has after none first third in_first in_third other_first other_third bad =
    let a : ℕ = get_or t.entries first 0 in
    let b : ℕ = get_or t.entries number 0 in
    let c : ℕ = get_or t.entries third 0 in
    let low = below a (table.begun.below first 0 in_first) in
    let bit = after a low (has first in_first other_first) (c % 64)
    (are.each a b c low (below b (table.begun.below number 0 lt)) bad) in
    none_shared thirds others (c % 64) none bit (has third in_third other_third)
