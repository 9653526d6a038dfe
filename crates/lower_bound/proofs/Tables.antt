-- The channels of a table, as a function of its windows.
use Rattle.std.proofs.Common.{◌≡◌, ◌≢◌, ℕ, suc, ◌+◌, ◌-◌, ◌*◌, ◌/◌, ◌<◌, ◌≤◌, ◌⊎◌, List, Option, Some, None, IsSome}
use Rattle.std.proofs.Common.{length, slice_index, option_map, unwrap_or, refl, ap, arith, inl, inr, ⊎_elim}
use Rattle.std.proofs.Math.Nat.{suc-mul, le-div_iff_mul-le}
use Rattle.std.proofs.lemmas.Bool.{false≢true}
use Rattle.std.proofs.lemmas.Nat.{div-add-mod', le-div, mod_below}
use Rattle.std.proofs.lemmas.Option.{slice_get_within}
use Rattle.std.specs.Int.{abs_diff}
use Rattle.win_index.specs.Arcs.{window_around}
use Rattle.win_index.specs.Ring.{IsRing}
use Rattle.win_index.specs.Laws.{WindowOfNumber, WindowsHaveNumbers}
use Rattle.win_index.specs.Windows.{number_of, IsWindow}
use Rattle.channel_tables.specs.Tables.{ChannelTable, channel_of, windows_of}
use Rattle.channel_tables.specs.declared.separation.Separation.{Separation}
use Rattle.channel_tables.specs.Apart.{extra, AreApart, IsApartEverywhere}
use Rattle.channel_tables.specs.Laws.{LessIsApart}
use Rattle.lower_bound.specs.Laws.{IsFull, WindowsNeedChannels, TablesNeedChannels, OddRingsNeedThree, TablesNeedThree}
use Rattle.lower_bound.specs.Laws.{DifferNearby, RingsNeedFour, FiveNeedFive, TablesNeedFour, TablesNeedFive}
use Rattle.lower_bound.specs.Towers.{spread}

-- channels that are apart by near have different quotients by near, and these are few
quotient_below : (c near n : ℕ) → 1 ≤ near → n < c → n / near < spread c near
quotient_below c near n some lt =
    let q : ℕ = n / near in
    let fits : suc q * near ≤ c + near - 1 = omega (arith, suc-mul q near, div-add-mod' n near, lt, some) in
    le-div (suc q) (c + near - 1) near some fits

quotients_differ : (near a b : ℕ) → 1 ≤ near → near ≤ abs_diff a b → a / near ≢ b / near
quotients_differ near a b some apart same =
    omega (
      arith,
      ap (λ q. q * near) same,
      div-add-mod' a near,
      div-add-mod' b near,
      mod_below a near some,
      mod_below b near some,
      apart,
    )

-- the quotient of the table's channel at a window
abbrev quotient_at : ChannelTable → ℕ → List ℕ → ℕ
quotient_at t near window = unwrap_or (channel_of t window) 0 / near

quotients_apart : (near : ℕ) (a b : Option ℕ) → 1 ≤ near → AreApart near a b
    → unwrap_or a 0 / near ≢ unwrap_or b 0 / near
quotients_apart near (Some c) (Some d) some apart same = quotients_differ near c d some apart same
quotients_apart near (Some c) None some apart same = absurd apart
quotients_apart near None b some apart same = absurd apart

some_number : (o : Option ℕ) → IsSome o → (n : ℕ) × (o ≡ Some n)
some_number (Some n) is = (n, refl)
some_number None is = absurd (false≢true is)

-- a window has a channel below their number
channel_below : WindowOfNumber → WindowsHaveNumbers → (t : ChannelTable) (near : ℕ) (window : List ℕ)
    → IsFull t → 1 ≤ near
    → IsWindow (2 * t.rounds + 1) t.ids window → quotient_at t near window < spread t.channels near
channel_below of_number have t near window is some own =
    let number = some_number (number_of (2 * t.rounds + 1) t.ids window)
    ((have (2 * t.rounds + 1) t.ids window).1 own) in
    let item = of_number (2 * t.rounds + 1) t.ids number.0 window number.1 in
    let size = is.size in
    let within : number.0 < length t.entries =
    omega (arith, size, slice_get_within (windows_of t) number.0 window item) in
    rw (ap (option_map (slice_index t.entries)) number.1)
    (quotient_below t.channels near (slice_index t.entries number.0) some (is.below number.0 0 within))

-- the quotients at neighbours differ
neighbours_differ :
    LessIsApart → (t : ChannelTable) (s : Separation) → 1 ≤ s.near → (1 ≡ extra s) ⊎ (2 * t.rounds + 3 ≤ t.ids)
    → IsApartEverywhere t s
    → (ring : List ℕ) (place : ℕ) → IsRing t.ids t.rounds ring → place < length ring
    → quotient_at t s.near (window_around ring t.rounds place) ≢ quotient_at t s.near (window_around ring t.rounds (place + 1))
neighbours_differ less t s near long apart ring place own within =
    let next = less t s (record { near = s.near; far = 0 }) (omega arith) (omega arith) long apart in
    let enough = own.long in
    quotients_apart s.near _ _ near (next ring place own (omega (arith, enough)) within).0

pub tables_need : WindowsNeedChannels → WindowOfNumber → WindowsHaveNumbers → LessIsApart → TablesNeedChannels
tables_need need of_number have less t s is near far apart =
    let long : (1 ≡ extra s) ⊎ (2 * t.rounds + 3 ≤ t.ids) =
    ⊎_elim (λ (none : s.far ≡ 0). inl (omega (arith, none))) (λ (ids : 2 * t.rounds + 3 ≤ t.ids). inr ids) far in
    need t.ids t.rounds (spread t.channels s.near) (quotient_at t s.near)
    (λ window own. channel_below of_number have t s.near window is near own)
    (neighbours_differ less t s near long apart)

pub tables_need_three : OddRingsNeedThree → WindowOfNumber → WindowsHaveNumbers → LessIsApart → TablesNeedThree
tables_need_three need of_number have less t s is near ids apart =
    let three = need t.ids t.rounds (spread t.channels s.near) (quotient_at t s.near) ids
    (λ window own. channel_below of_number have t s.near window is near own)
    (neighbours_differ less t s near (inr ids) apart) in
    let product = (le-div_iff_mul-le {k = s.near} {x = 3} {y = t.channels + s.near - 1} near).0 three in
    omega (arith, product, near)

-- the channels of neighbours differ, and those at distance two
nearby_differ : LessIsApart → (t : ChannelTable) (s : Separation) → 1 ≤ s.near → 1 ≤ s.far → 2 * t.rounds + 3 ≤ t.ids
    → IsApartEverywhere t s
    → DifferNearby t.ids t.rounds (quotient_at t 1)
nearby_differ less t s near far ids apart ring place own long within =
    let both = less t s (record { near = 1; far = 1 }) near far (inr ids) apart ring place own
    (omega (arith, long)) within in
    (quotients_apart 1 _ _ (omega arith) both.0, quotients_apart 1 _ _ (omega arith) both.1)

-- all channels are apart by 1
one_apart : (c n : ℕ) → n ≤ spread c 1 → n ≤ c
one_apart c n few = omega arith

pub tables_need_four : RingsNeedFour → WindowOfNumber → WindowsHaveNumbers → LessIsApart → TablesNeedFour
tables_need_four need of_number have less t s n is near far long short no_multiple apart =
    one_apart t.channels 4
    (need t.ids t.rounds (spread t.channels 1) n (quotient_at t 1) long short no_multiple
    (λ window own. channel_below of_number have t 1 window is (omega arith) own)
    (nearby_differ less t s near far (omega (arith, long, short)) apart))

pub tables_need_five : FiveNeedFive → WindowOfNumber → WindowsHaveNumbers → LessIsApart → TablesNeedFive
tables_need_five need of_number have less t s is near far rounds ids apart =
    one_apart t.channels 5
    (need t.ids t.rounds (spread t.channels 1) (quotient_at t 1) rounds ids
    (λ window own. channel_below of_number have t 1 window is (omega arith) own)
    (nearby_differ less t s near far (omega (arith, rounds, ids)) apart))
