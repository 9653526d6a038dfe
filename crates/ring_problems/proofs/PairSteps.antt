-- The tuples that begin with the same 2t+2 identifiers are consecutive.
use Rattle.std.proofs.Common.{◌≡◌, ℕ, ◌+◌, ◌-◌, ◌*◌, ◌<◌, ◌≤◌, ◌^◌, Bool, true, false, cond, List, take, length}
use Rattle.std.proofs.Common.{slice_get, Some, sym, ap, ◌∙◌, ⊎_elim, arith, lit<}
use Rattle.std.proofs.lemmas.Bool.{cases_lt}
use Rattle.std.proofs.lemmas.Nat.{mul-le}
use Rattle.std.proofs.lemmas.Option.{same_Some}
use Rattle.win_index.specs.declared.limits.TheConstants.{MAX_IDS, MAX_WINDOWS}
use Rattle.win_index.specs.declared.shape.Shape.{Shape}
use Rattle.win_index.specs.Windows.{windows}
use Rattle.win_index.proofs.Windows.{few_of_shape, windows_more, one_bucket}
use Rattle.channel_tables.specs.Tables.{ChannelTable}
use Rattle.ring_problems.specs.declared.pattern.Pattern.{Pattern}
use Rattle.ring_problems.specs.Patterns.{is_long}
use Rattle.ring_problems.specs.TupleLists.{tuples_below, per_pair}
use Rattle.ring_problems.specs.Problems.{NoneIsBad, IsLeastBad, IsLeastIn}
use Rattle.ring_problems.specs.Pairs.{NoneBeginsWith}
use Rattle.ring_problems.proofs.TupleParts.{tuple_count, tuple_parts}

-- none of those that begin with the next 2t+2 identifiers is bad
pub next_none : (t : ChannelTable) (problem : List Pattern) (number : ℕ) (pair : List ℕ)
    → slice_get (windows (2 * t.rounds + 1 + 1) t.ids) number ≡ Some pair → NoneBeginsWith t problem pair
    → let each = per_pair t.ids t.rounds problem in NoneIsBad t problem (number * each) (number * each + each)
next_none t problem number pair at' none n tuple low high item bad =
    let k : ℕ = 2 * t.rounds + 1 + 1 in
    let parts = tuple_parts t.ids t.rounds n problem tuple item in
    let same : parts.place ≡ number =
    one_bucket (per_pair t.ids t.rounds problem) parts.place parts.rest number n parts.inside
    parts.number low high in
    let begins : take k tuple ≡ pair =
    same_Some (take k tuple) pair (sym parts.front_at ∙ ap (slice_get (windows k t.ids)) same ∙ at') in
    none tuple parts.is begins bad

-- two ranges of tuples none of which is bad
pub none_more : (t : ChannelTable) (problem : List Pattern) (low middle high : ℕ) → NoneIsBad t problem low middle
    → NoneIsBad t problem middle high
    → NoneIsBad t problem low high
none_more t problem low middle high first second n tuple from to item =
    ⊎_elim (λ (lt : n < middle). first n tuple from lt item) (λ (le : middle ≤ n). second n tuple le to item)
    (cases_lt n middle)

-- the least bad tuple from a number on, where none before is bad
pub least_more : (t : ChannelTable) (problem : List Pattern) (low middle n : ℕ) (tuple : List ℕ) → low ≤ middle
    → NoneIsBad t problem low middle
    → IsLeastBad t problem middle n tuple → IsLeastBad t problem low n tuple
least_more t problem low middle n tuple le none own =
    record {
      from_low = omega (arith, le, own.from_low);
      item = own.item;
      bad = own.bad;
      least = none_more t problem low middle n none own.least;
    }

-- the numbers of the tuples of a pair are below that of all tuples
pub pair_within : (m t : ℕ) (problem : List Pattern) (number : ℕ) → number < length (windows (2 * t + 1 + 1) m)
    → number * per_pair m t problem + per_pair m t problem ≤ length (tuples_below m t problem)
pair_within m t problem number lt =
    grind (arith, tuple_count m t problem, rows_below number (per_pair m t problem) (length (windows (2 * t + 1 + 1) m)) lt)
  where
    rows_below : (a c b : ℕ) → a < b → a * c + c ≤ b * c
    rows_below a c b lt = grind arith

-- the least bad tuple that begins with some 2t+2 identifiers, where none with those before is bad
pub least_here : (t : ChannelTable) (problem : List Pattern) (low high count n : ℕ)
    → NoneIsBad t problem 0 low → high ≤ count
    → IsLeastIn t problem low high (Some n) → IsLeastIn t problem 0 count (Some n)
least_here t problem low high count n none le own =
    (omega (arith, own.0, le), (own.1.0, least_more t problem 0 low n own.1.0 (omega arith) none own.1.1))

few_each : (m t : ℕ) (b : Bool) → 1 ≤ m → cond b (m - (2 * t + 1)) 1 ≤ m
few_each m t true some = omega arith
few_each m t false some = some

-- the numbers of tuples fit 64 bits
pub tuples_fit : (s : Shape) (problem : List Pattern)
    → length (windows (2 * s.rounds + 1 + 1) s.ids) * per_pair s.ids s.rounds problem < 2 ^ 64
tuples_fit s problem =
    let k : ℕ = 2 * s.rounds + 1 in
    let enough = s.in_range.enough in
    let ids : s.ids ≤ MAX_IDS = s.in_range.few in
    let each = few_each s.ids s.rounds (is_long problem) (omega arith) in
    let windows_few = few_of_shape s k (omega arith) in
    let pairs : length (windows (k + 1) s.ids) ≤ MAX_WINDOWS * MAX_IDS =
    omega (arith, windows_more k s.ids, mul-le (length (windows k s.ids)) (s.ids - k) MAX_WINDOWS MAX_IDS windows_few (omega arith)) in
    let all = mul-le (length (windows (k + 1) s.ids)) (per_pair s.ids s.rounds problem) (MAX_WINDOWS * MAX_IDS) MAX_IDS pairs (omega (arith, each)) in
    let small : MAX_WINDOWS * MAX_IDS * MAX_IDS < 2 ^ 64 = lit< tt in
    omega (arith, all, small)

-- so do the numbers of those of a pair
pub pair_fits : (s : Shape) (m t : ℕ) (problem : List Pattern) (number : ℕ) → s.ids ≡ m → s.rounds ≡ t
    → number < length (windows (2 * t + 1 + 1) m) → number * per_pair m t problem + per_pair m t problem < 2 ^ 64
pair_fits s m t problem number ids rounds lt =
    let same : length (windows (2 * s.rounds + 1 + 1) s.ids) * per_pair s.ids s.rounds problem
    ≡ length (windows (2 * t + 1 + 1) m) * per_pair m t problem =
    λ i. length (windows (2 * rounds i + 1 + 1) (ids i)) * per_pair (ids i) (rounds i) problem in
    omega (arith, tuples_fit s problem, same, tuple_count m t problem, pair_within m t problem number lt)

-- and the numbers of all tuples are below those after the last pair
pub pairs_over : (m t : ℕ) (problem : List Pattern) (number : ℕ) → length (windows (2 * t + 1 + 1) m) ≤ number
    → length (tuples_below m t problem) ≤ number * per_pair m t problem
pairs_over m t problem number le =
    omega (
      arith,
      tuple_count m t problem,
      mul-le (length (windows (2 * t + 1 + 1) m)) (per_pair m t problem) number (per_pair m t problem) le (omega arith),
    )
