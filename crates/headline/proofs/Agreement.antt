-- The judge's yes, which is about a table, is about the channels of global rounds.
use Rattle.std.proofs.Common.{◌≡◌, ℕ, ◌+◌, ◌-◌, ◌*◌, ◌%◌, ◌<◌, ◌≤◌, ◌↔◌, Option, List, length, map, slice_index, Some}
use Rattle.std.proofs.Common.{add-zero, arith, subst, sym, ◌∙◌, ap, ⊎_elim}
use Rattle.std.specs.Int.{abs_diff}
use Rattle.std.specs.List.{range_with_len}
use Rattle.std.proofs.lemmas.Bool.{cases_lt}
use Rattle.std.proofs.lemmas.Option.{slice_get-get_or}
use Rattle.std.proofs.lemmas.List.FromFn.{length-map-range_with_len, get_or-map-range_with_len}
use Rattle.std.proofs.Math.Nat.{add-mod_left, mod-eq_of_lt, mod-lt}
use Rattle.node_program.specs.Term.{ProgramTree}
use Rattle.node_program.specs.GlobalRounds.{right_of, channel_at, channels_of}
use Rattle.win_index.specs.Ring.{IsRing}
use Rattle.win_index.specs.Arcs.{arc, window_around}
use Rattle.channel_tables.specs.Tables.{ChannelTable, channel_of}
use Rattle.channel_tables.specs.declared.separation.Separation.{Separation}
use Rattle.channel_tables.specs.Apart.{AreApart, IsApartEverywhere}
use Rattle.ring_problems.specs.declared.pattern.Pattern.{Pattern}
use Rattle.ring_problems.specs.Patterns.{Fits, IsForbidden}
use Rattle.ring_problems.specs.Problems.{IsSolvedEverywhere}
use Rattle.headline.specs.Headline.{TableAgrees, RunAgrees, ChannelsAreApart, ChannelsSolve}
use Rattle.headline.specs.Laws.{TablesAreApartOnRings}

-- places of an arc can be counted from one turn further
turned : (x : List ℕ) (start count : ℕ) → arc x (length x + start) count ≡ arc x start count
turned x start count =
    let further : (k : ℕ) → (length x + start + k) % length x ≡ (start + k) % length x = λ k.
    let sum : length x + start + k ≡ length x + (start + k) = omega arith in
    ap (λ j. j % length x) sum ∙ add-mod_left (length x) (start + k) in
    λ i. map (λ k. slice_index x (further k i)) (range_with_len 0 count)

-- places can be counted on for a turn
window_at : (x : List ℕ) (t place : ℕ) → place < length x + length x → t ≤ length x
    → window_around x t place ≡ window_around x t (place % length x)
window_at x t place lt short =
    let n = length x in
    ⊎_elim
    (λ (inside : place < n). ap (window_around x t) (sym (mod-eq_of_lt inside)))
    (λ (outside : n ≤ place).
    let k : ℕ = place - n in
    let around : place ≡ n + k = omega arith in
    let first : place % n ≡ k = ap (λ j. j % n) around ∙ add-mod_left n k ∙ mod-eq_of_lt (omega arith) in
    let start : place + n - t ≡ n + (k + n - t) = omega arith in
    ap (λ j. arc x j (2 * t + 1)) start ∙ turned x (k + n - t) (2 * t + 1) ∙ ap (window_around x t) (sym first))
    (cases_lt place n)

-- the right neighbour's right neighbour is two places further
two_right : (x : List ℕ) (i : ℕ) → i < length x → right_of x (right_of x i) ≡ (i + 2) % length x
two_right x i lt =
    let n = length x in
    ⊎_elim
    (λ (inside : i + 1 < n).
    let one : right_of x i ≡ i + 1 = mod-eq_of_lt inside in
    let sum : i + 1 + 1 ≡ i + 2 = omega arith in
    ap (λ k. (k + 1) % n) one ∙ ap (λ k. k % n) sum)
    (λ (last : n ≤ i + 1).
    let around : i + 1 ≡ n + 0 = omega arith in
    let further : i + 2 ≡ n + 1 = omega arith in
    let one : right_of x i ≡ 0 = ap (λ k. k % n) around ∙ add-mod_left n 0 ∙ mod-eq_of_lt (omega arith) in
    ap (λ k. (k + 1) % n) one ∙ sym (ap (λ k. k % n) further ∙ add-mod_left n 1))
    (cases_lt (i + 1) n)

-- two channels that are apart
apart_of : (distance : ℕ) (a b : Option ℕ) (c d : ℕ) → a ≡ Some c → b ≡ Some d
    → AreApart distance a b ↔ (distance ≤ abs_diff c d)
apart_of distance a b c d first second = (
  λ apart. subst (AreApart distance (Some c)) second (subst (λ o. AreApart distance o b) first apart),
  λ apart. subst (λ o. AreApart distance o b) (sym first) (subst (AreApart distance (Some c)) (sym second) apart),
)

-- the channels of a table that is apart everywhere are apart on each long ring
pub apart_on_rings : TablesAreApartOnRings
apart_on_rings t s x channel good ring long has i lt =
    let r = t.rounds in
    let enough = ring.long in
    let one : channel_of t (window_around x r (i + 1)) ≡ Some (channel (right_of x i)) =
    ap (channel_of t) (window_at x r (i + 1) (omega arith) (omega arith))
    ∙ has (right_of x i) (mod-lt (i + 1) (omega arith)) in
    let two : channel_of t (window_around x r (i + 2)) ≡ Some (channel (right_of x (right_of x i))) =
    ap (channel_of t) (window_at x r (i + 2) (omega arith) (omega arith))
    ∙ has ((i + 2) % length x) (mod-lt (i + 2) (omega arith))
    ∙ ap (λ k. Some (channel k)) (sym (two_right x i lt)) in
    let here = good x i ring long lt in
    ((apart_of s.near _ _ _ _ (has i lt) one).0 here.0, (apart_of s.far _ _ _ _ (has i lt) two).0 here.1)

-- the channels of a table that agrees with global rounds, at a place and at the two after it
module _ (p : ProgramTree) (m : ℕ) (table : ChannelTable) (agrees : TableAgrees p m table) where
  abbrev channel_there : List ℕ → ℕ → Option ℕ
  channel_there x place = channel_of table (window_around x (length p.steps) place)

  next_channel : (x : List ℕ) (i : ℕ) → IsRing m (length p.steps) x → i < length x
      → channel_there x (i + 1) ≡ Some (channel_at p x (right_of x i))
  next_channel x i ring lt =
      let long = ring.long in
      ap (channel_of table) (window_at x (length p.steps) (i + 1) (omega arith) (omega arith))
      ∙ agrees x (right_of x i) ring (mod-lt (i + 1) (omega arith))

  second_channel : (x : List ℕ) (i : ℕ) → IsRing m (length p.steps) x → i < length x
      → channel_there x (i + 2) ≡ Some (channel_at p x (right_of x (right_of x i)))
  second_channel x i ring lt =
      let long = ring.long in
      ap (channel_of table) (window_at x (length p.steps) (i + 2) (omega arith) (omega arith))
      ∙ agrees x ((i + 2) % length x) ring (mod-lt (i + 2) (omega arith))
      ∙ ap (λ k. Some (channel_at p x k)) (sym (two_right x i lt))

-- three channels are forbidden exactly if the same three are
forbidden_of : (problem : List Pattern) (a b c d e f : Option ℕ) → a ≡ d → b ≡ e → c ≡ f
    → IsForbidden problem a b c ↔ IsForbidden problem d e f
forbidden_of problem a b c d e f first second third = (
  λ bad. (bad.0, bad.1, bad.2, (subst (Fits bad.1.first) first bad.3.0, subst (Fits bad.1.second) second bad.3.1, subst (Fits bad.1.third) third bad.3.2)),
  λ bad. (
    bad.0,
    bad.1,
    bad.2,
    (subst (Fits bad.1.first) (sym first) bad.3.0, subst (Fits bad.1.second) (sym second) bad.3.1, subst (Fits bad.1.third) (sym third) bad.3.2),
  ),
)

-- a table that agrees with global rounds solves a problem if and only if the channels of global rounds do
pub solving_tables :
    (p : ProgramTree) (m : ℕ) (problem : List Pattern) (table : ChannelTable) → table.ids ≡ m
    → table.rounds ≡ length p.steps → TableAgrees p m table
    → IsSolvedEverywhere table problem ↔ ChannelsSolve p m problem
solving_tables p m problem table ids rounds agrees =
    let t = length p.steps in
    let Broken : (x : List ℕ) (i r : ℕ) → Type 0 =
    λ x i r. IsForbidden problem (channel_of table (window_around x r (i + 0)))
    (channel_of table (window_around x r (i + 1)))
    (channel_of table (window_around x r (i + 2))) in
    let same : (x : List ℕ) (i : ℕ) → IsRing m t x → i < length x → Broken x i t
    ↔ IsForbidden problem (Some (channel_at p x i)) (Some (channel_at p x (right_of x i)))
    (Some (channel_at p x (right_of x (right_of x i)))) =
    λ x i ring lt.
    forbidden_of problem _ _ _ _ _ _ (ap (channel_there p m table agrees x) (add-zero i) ∙ agrees x i ring lt)
    (next_channel p m table agrees x i ring lt)
    (second_channel p m table agrees x i ring lt) in (
      λ good x i ring lt bad.
          let on = subst (λ (m : ℕ). IsRing m table.rounds x) (sym ids)
          (subst (λ (r : ℕ). IsRing m r x) (sym rounds) ring) in
          good x i on lt (subst (Broken x i) (sym rounds) ((same x i ring lt).1 bad)),
      λ solve x i ring lt bad.
          let on = subst (λ (m : ℕ). IsRing m t x) ids (subst (λ (r : ℕ). IsRing table.ids r x) rounds ring) in
          solve x i on lt ((same x i on lt).0 (subst (Broken x i) rounds bad)),
    )

-- the channels of a table that agrees with global rounds are apart everywhere if and only if those of global rounds are
pub good_tables :
    (p : ProgramTree) (m : ℕ) (s : Separation) (table : ChannelTable) → table.ids ≡ m → table.rounds ≡ length p.steps
    → TableAgrees p m table
    → IsApartEverywhere table s ↔ ChannelsAreApart p m s
good_tables p m s table ids rounds agrees =
    let t = length p.steps in
    let at' : (x : List ℕ) (r place : ℕ) → Option ℕ = λ x r place. channel_of table (window_around x r place) in
    let one = next_channel p m table agrees in
    let two = second_channel p m table agrees in
    let Apart : (x : List ℕ) (i r : ℕ) → Type 0 =
    λ x i r. AreApart s.near (at' x r i) (at' x r (i + 1)) × AreApart s.far (at' x r i) (at' x r (i + 2)) in (
      λ good x i ring long lt.
          let on = subst (λ (m : ℕ). IsRing m table.rounds x) (sym ids)
          (subst (λ (r : ℕ). IsRing m r x) (sym rounds) ring) in
          let apart : Apart x i table.rounds = good x i on (omega (arith, long, rounds)) lt in
          let here : Apart x i t = subst (Apart x i) rounds apart in (
            (apart_of s.near _ _ _ _ (agrees x i ring lt) (one x i ring lt)).0 here.0,
            (apart_of s.far _ _ _ _ (agrees x i ring lt) (two x i ring lt)).0 here.1,
          ),
      λ apart x i ring long lt.
          let on = subst (λ (m : ℕ). IsRing m t x) ids (subst (λ (r : ℕ). IsRing table.ids r x) rounds ring) in
          let here = apart x i on (omega (arith, long, rounds)) lt in
          let there : Apart x i t = (
            (apart_of s.near _ _ _ _ (agrees x i on lt) (one x i on lt)).1 here.0,
            (apart_of s.far _ _ _ _ (agrees x i on lt) (two x i on lt)).1 here.1,
          ) in
          subst (Apart x i) (sym rounds) there,
    )

-- the list of all channels of a ring has the channel of each place
pub run_agrees : (p : ProgramTree) (x channels : List ℕ) → channels ≡ channels_of p x → RunAgrees p x channels
run_agrees p x channels is =
    subst (RunAgrees p x) (sym is)
    record {
      size = length-map-range_with_len (channel_at p x) 0 (length x);
      at = λ i lt.
          slice_get-get_or (channels_of p x) i 0 (rw (length-map-range_with_len (channel_at p x) 0 (length x)) lt)
          ∙ ap Some (get_or-map-range_with_len (channel_at p x) 0 (length x) i i 0 lt (omega arith));
    }
