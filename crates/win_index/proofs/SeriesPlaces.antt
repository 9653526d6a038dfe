-- The positions of the windows of a bucket and of a series.
use Rattle.std.proofs.Common.{◌≡◌, ◌≢◌, ◌⊎◌, ℕ, ◌+◌, ◌-◌, ◌<◌, ◌≤◌, List, get_or, take, drop, set, slice_get, Some, sym}
use Rattle.std.proofs.Common.{ap, ◌∙◌, arith}
use Rattle.std.proofs.lemmas.Bool.Decides.{nat_tests}
use Rattle.std.proofs.lemmas.List.{take-set, get_or-set_same, get_or-take}
use Rattle.std.proofs.lemmas.Option.{slice_get-get_or}
use Rattle.win_index.specs.Buckets.{IsSeries, IsAtPlace, IsFirstOfBucket, IsLastOfBucket}
use Rattle.win_index.specs.Successor.{IsNext}
use Rattle.win_index.specs.Windows.{unused, windows, IsWindow}
use Rattle.win_index.specs.declared.series.BucketPlaces.{BucketPlaces}
use Rattle.win_index.proofs.Numbers.{windows_all, unused_left}
use Rattle.win_index.proofs.Positions.{window_place}
use Rattle.win_index.proofs.FrontPlaces.{Placed, placed, below, last_place, window_front, window_with, last_of_bucket}
use Rattle.win_index.proofs.FrontPlaces.{Part, part_apart, part_along, part_window}
use Rattle.win_index.proofs.Kept.{kept_is}
use Rattle.win_index.proofs.Unused.{lacks}

-- the position, or the next one if it is a gap
abbrev pub IsPast : ℕ → ℕ → ℕ → ℕ → Type 0
IsPast g h place past =
    ((past ≡ place) × (place ≢ g) × (place ≢ h)) ⊎ ((past ≡ place + 1) × ((place ≡ g) ⊎ (place ≡ h)))

-- after a position that is no gap
past_both :
    (g h p a q : ℕ) → g ≢ h → g ≢ p → h ≢ p → IsPast g h (p + 1) a → IsPast g h a q
    → (p < q) × (g ≢ q) × (h ≢ q) × (q + below g p + below h p ≡ p + 1 + below g q + below h q)
past_both g h p a q differ first second past again = (grind arith, grind arith, grind arith, grind (arith, nat_tests))

-- from the first position on
first_rank :
    (g h p a q rank : ℕ) → rank ≡ 0 → rank + below g p + below h p ≡ p → g ≢ h → g ≢ p → h ≢ p → IsPast g h 0 a
    → IsPast g h a q → p ≡ q
first_rank g h p a q rank none own differ first second past again = grind (arith, nat_tests)

-- a position past the end
end_rank :
    (g h p q rank all end : ℕ) → rank + below g p + below h p ≡ p
    → q + below g p + below h p ≡ p + 1 + below g q + below h q → end ≤ q → g < end → h < end → all + 2 ≡ end
    → all ≤ rank + 1
end_rank g h p q rank all end own next past first second many = grind (arith, nat_tests)

-- a gap that is not among these positions
clear_of : (g p j count : ℕ) → g ≢ p → (g ≤ p) ⊎ (p + count ≤ g) → j < count →
    (g ≢ p + j) × (below g (p + j) ≡ below g p)
clear_of g p j count differ clear lt = (grind arith, grind (arith, nat_tests))

pub at_place :
    {k m p : ℕ} {places : BucketPlaces} {window : List ℕ} → 1 ≤ k → IsAtPlace k m places window p
    → Placed (k + 1) m places.first_gap places.second_gap places.end p window
at_place {k} {m} {p} {places} {window} some is =
    rw (is.bucket_has.first, is.bucket_has.second, is.bucket_has.end, is.place_is) at
    (placed (k + 1) (k + 2) m window (omega arith) (omega arith) is.window_is)

module _ {k m p : ℕ} {places : BucketPlaces} {window : List ℕ} (some : 1 ≤ k) (is : IsAtPlace k m places window p) where
  -- the windows, and without their first two identifiers
  whole : Part 0 (k + 1) (k + 1) (k + 2) (k + 2)
  whole = record { all = omega arith; long = omega arith; short = omega arith }

  suffix : Part 2 (k + 1) (k - 1) (k + 2) k
  suffix = record { all = omega arith; long = omega arith; short = omega arith }

  -- a window with the same prefix has the position of its last identifier
  same_bucket :
      (w : List ℕ) (q : ℕ) → take (k + 1) w ≡ take (k + 1) window → IsWindow (k + 2) m w
      → last_place 2 (k + 1) w ≡ q → IsAtPlace k m places w q
  same_bucket w q same w_is at' =
      let item = λ (i : ℕ) (lt : i < k + 1).
      sym (get_or-take (k + 1) w i 0 lt) ∙ ap (λ l. get_or l i 0) same ∙ get_or-take (k + 1) window i 0 lt in
      record {
        window_is = w_is;
        bucket_has = record {
          first = rw (item 0 (omega arith), same) is.bucket_has.first;
          second = rw (item 1 (omega arith), same) is.bucket_has.second;
          end = rw same is.bucket_has.end;
        };
        place_is = at';
      }

  -- each position below the end that is no gap has a window, as many windows further as the gaps leave
  window_at :
      (q t : ℕ) → q < places.end → places.first_gap ≢ q → places.second_gap ≢ q
      → q + below places.first_gap p + below places.second_gap p
      ≡ p + t + below places.first_gap q + below places.second_gap q
      → (w : List ℕ) × IsAtPlace k m places w q × (take (k + 1) w ≡ take (k + 1) window)
      × ((n : ℕ) → slice_get (windows (k + 2) m) n ≡ Some window → slice_get (windows (k + 2) m) (n + t) ≡ Some w)
  window_at q t inside not_first not_second rank =
      let size = is.window_is.size in
      let rest : List ℕ = drop 2 (take (k + 1) window) in
      let z : ℕ = get_or (unused m rest) q 0 in
      let at_p = at_place some is in
      let z_at = at_p.other q z (slice_get-get_or (unused m rest) q 0 (omega (arith, inside, is.bucket_has.end)))
      not_first not_second in
      let w = set window (k + 1) z in
      let same = take-set window (k + 1) z in
      let here = get_or-set_same window (k + 1) z 0 (omega arith) in
      let front = window_front (k + 1) (k + 2) m window (omega arith) is.window_is in
      let w_is = window_with (k + 1) (k + 2) m z window (omega arith) size front z_at.0 z_at.1 in
      let at_q = same_bucket w q same w_is (rw (here, same) z_at.2) in
      let own = at_p.own in
      let other = (at_place some at_q).own in (
        w,
        at_q,
        same,
        λ n at'. part_along m whole n t window w w_is same (omega (arith, own, other, rank)) at',
      )

  -- the window at the first position after p that is no gap is the next one
  pub later_is :
      (a q : ℕ) → IsPast places.first_gap places.second_gap (p + 1) a → IsPast places.first_gap places.second_gap a q
      → q < places.end
      → (w : List ℕ) × IsAtPlace k m places w q × (take (k + 1) w ≡ take (k + 1) window) × IsNext (k + 2) m window w
  later_is a q past again inside =
      let at_p = at_place some is in
      let got = past_both places.first_gap places.second_gap p a q at_p.differ at_p.first at_p.second past again in
      window_at q 1 inside got.1 got.2 got.3

  -- and if that is past the end, p is the last of its bucket
  pub none_later :
      (a q : ℕ) → IsPast places.first_gap places.second_gap (p + 1) a → IsPast places.first_gap places.second_gap a q
      → places.end ≤ q → IsLastOfBucket (k + 2) m window
  none_later a q past again end =
      let at_p = at_place some is in
      let got = past_both places.first_gap places.second_gap p a q at_p.differ at_p.first at_p.second past again in
      let front = window_front (k + 1) (k + 2) m window (omega arith) is.window_is in
      last_of_bucket (k + 1) (k + 2) m window (omega arith) is.window_is
      (end_rank _ _ p q (last_place 0 (k + 1) window) _ places.end at_p.own got.3 end at_p.first_inside
      at_p.second_inside (omega (arith, unused_left front, at_p.all)))

  -- a series up to the end of the positions without a gap
  pub series_is :
      (count : ℕ) → (places.first_gap ≤ p) ⊎ (p + count ≤ places.first_gap)
      → (places.second_gap ≤ p) ⊎ (p + count ≤ places.second_gap) → p + count ≤ places.end
      → IsSeries k m window count
  series_is count clear_first clear_second within n low j at' low_at lt =
      let at_p = at_place some is in
      let first = clear_of places.first_gap p j count at_p.first clear_first lt in
      let second = clear_of places.second_gap p j count at_p.second clear_second lt in
      let got = window_at (p + j) j (omega (arith, within, lt)) first.0 second.0 (omega (arith, first.1, second.1)) in (
        got.0,
        got.3 n at',
        got.2,
        part_along m suffix low j window
            got.0 got.1.window_is got.2 (got.1.place_is ∙ rw is.place_is) low_at,
      )

  -- a series goes no further than the end or a gap
  pub no_longer :
      (count : ℕ) → (p + count ≡ places.end) ⊎ ((p + count ≡ places.first_gap) ⊎ (p + count ≡ places.second_gap))
      → IsSeries k m window (count + 1) → ⊥
  no_longer count end series =
      let n = window_place (k + 2) m window is.window_is in
      let low = window_place k m (drop 2 window) (part_window m suffix window is.window_is) in
      let got = series n.0 low.0 count n.1 low.1 (omega arith) in
      let apart = part_apart m suffix low.0 (low.0 + count) window got.0 got.2 low.1 got.3 in
      let w_is = windows_all (k + 2) m (n.0 + count) got.0 got.1 in
      let there = at_place some (same_bucket got.0 (p + count) got.2 w_is (omega (arith, apart, is.place_is))) in
      grind arith

  -- the first window of the bucket is at the first position that is no gap
  pub first_place : (a q : ℕ) → IsFirstOfBucket (k + 1) m window → IsPast places.first_gap places.second_gap 0 a
      → IsPast places.first_gap places.second_gap a q → p ≡ q
  first_place a q least past again =
      let at_p = at_place some is in
      let none = (kept_is (lacks (take (k + 1) window)) m 0 (get_or window (k + 1) 0) least).before in
      first_rank places.first_gap places.second_gap p a q (last_place 0 (k + 1) window) none at_p.own at_p.differ
      at_p.first at_p.second past again
