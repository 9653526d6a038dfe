-- The channels of a ring's places by a table.
use Rattle.std.proofs.Common.{◌≡◌, ℕ, zero, suc, ◌+◌, ◌*◌, ◌<◌, ◌∷◌, List, map, Option, None, Some, length, option_map}
use Rattle.std.proofs.Common.{refl, sym, ap, ap₂, subst, ◌∙◌, arith}
use Rattle.std.specs.Prelude.{IsSome, slice_index}
use Rattle.std.specs.List.{range_with_len}
use Rattle.std.proofs.lemmas.Option.{same_Some}
use Rattle.win_index.specs.Arcs.{window_around}
use Rattle.win_index.specs.Laws.{RingsHaveWindows, WindowsHaveNumbers}
use Rattle.win_index.specs.Ring.{IsRing}
use Rattle.win_index.specs.Windows.{number_of}
use Rattle.channel_tables.specs.Tables.{ChannelTable, channel_of}
use Rattle.reports.specs.Laws.{TablesHaveChannels, OneListOfChannels}
use Rattle.reports.specs.Report.{HasChannels}

-- the channel, or 0 if there is none
abbrev pub or_zero : Option ℕ → ℕ
or_zero None = 0
or_zero (Some c) = c

-- the channel of a table at the window around a place
abbrev pub channel_there : ChannelTable → List ℕ → ℕ → ℕ
channel_there t ring place = or_zero (channel_of t (window_around ring t.rounds place))

-- a number has an entry
has_entry : (f : ℕ → ℕ) (o : Option ℕ) → IsSome o → option_map f o ≡ Some (or_zero (option_map f o))
has_entry f None some = absurd cc
has_entry f (Some n) some = refl

pub has_channel : RingsHaveWindows → WindowsHaveNumbers → TablesHaveChannels
has_channel windows numbers t ring is = (
  channel_there t ring,
  λ place within.
      let around = window_around ring t.rounds place in
      let has = numbers (2 * t.rounds + 1) t.ids around in
      has_entry (slice_index t.entries) (number_of (2 * t.rounds + 1) t.ids around)
      (has.1 (windows t.ids t.rounds t.rounds place ring is (omega arith))),
)

-- two functions that agree below a bound map a range below it alike
same_below : (f g : ℕ → ℕ) (from count : ℕ) → ((k : ℕ) → k < from + count → f k ≡ g k) →
    map f (range_with_len from count) ≡ map g (range_with_len from count)
same_below f g from zero same = refl
same_below f g from (suc n) same =
    ap₂ (λ a b. a ∷ b) (same from (omega arith))
    (same_below f g (from + 1) n (λ k within. same k (omega (arith, within))))

pub one_list : OneListOfChannels
one_list t ring channels channel is has =
    is.are ∙ same_below _ _ 0 (length ring) (λ k within.
    let less : k < length ring = omega (arith, within) in
    same_Some _ _ (sym (is.has k less) ∙ has k less))

-- if the table has a channel at each place, these are its channels
pub has_there : TablesHaveChannels → (t : ChannelTable) (ring : List ℕ) → IsRing t.ids t.rounds ring
    → HasChannels t ring (channel_there t ring)
has_there have t ring is = λ place within.
    let told = (have t ring is).1 place within in told ∙ ap (λ o. Some (or_zero o)) (sym told)

-- a ring of the table's shape
pub same_shape : (m r : ℕ) (t : ChannelTable) (ring : List ℕ) → m ≡ t.ids → r ≡ t.rounds → IsRing m r ring
    → IsRing t.ids t.rounds ring
same_shape m r t ring ids rounds is = subst (λ r. IsRing t.ids r ring) rounds (subst (λ m. IsRing m r ring) ids is)

-- so the table has no place without a channel
pub no_channel : TablesHaveChannels → (t : ChannelTable) (ring window : List ℕ) (place : ℕ)
    → IsRing t.ids t.rounds ring → place < length ring → window ≡ window_around ring t.rounds place
    → None ≡ channel_of t window → ⊥
no_channel have t ring window place is within same none =
    let met = have t ring is in
    let both : None ≡ Some (met.0 place) = none ∙ ap (channel_of t) same ∙ met.1 place within in cc
