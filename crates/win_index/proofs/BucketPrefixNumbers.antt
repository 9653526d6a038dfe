-- The numbers of a prefix with one identifier more, and with one fewer.
use Rattle.std.proofs.Common.{◌≡◌, ◌≢◌, ℕ, zero, suc, ◌+◌, ◌-◌, ◌*◌, ◌/◌, ◌%◌, ◌<◌, ◌≤◌, nat_le, cond, List, [], ◌∷◌}
use Rattle.std.proofs.Common.{length, get_or, take, drop, slice_get, Some, refl, sym, ap, ◌∙◌, arith, length-drop}
use Rattle.std.proofs.Math.Nat.{div-div-eq-div-mul, div-one, mul_comm}
use Rattle.std.proofs.lemmas.Bool.Decides.{nat_tests}
use Rattle.std.proofs.lemmas.List.{take_all, take-take, get_or-take, get_or-drop}
use Rattle.std.proofs.lemmas.Option.{same_Some, slice_get_within}
use Rattle.win_index.specs.BucketPrefixes.{HasNumbers, IsLonger}
use Rattle.win_index.specs.Buckets.{HasPlaces}
use Rattle.win_index.specs.Falling.{falling}
use Rattle.win_index.specs.Windows.{unused, windows, IsWindow}
use Rattle.win_index.specs.declared.bucket_prefix.BucketPrefix.{BucketPrefix}
use Rattle.win_index.specs.declared.series.BucketPlaces.{BucketPlaces}
use Rattle.win_index.proofs.FrontPlaces.{Part, Placed, placed, below, last_place, window_front, shorter_number}
use Rattle.win_index.proofs.FrontPlaces.{part_longer, part_shorter}
use Rattle.win_index.proofs.Numbers.{windows-zero, window_step, windows_all}
use Rattle.win_index.proofs.Unused.{lacks_from_differs, unused_all, unused_at}

-- the number of a prefix of a window
pub prefix_number :
    (k j m n : ℕ) (window : List ℕ) → slice_get (windows (k + j) m) n ≡ Some window →
    slice_get (windows k m) (n / falling (m - k) j) ≡ Some (take k window)
prefix_number k zero m n window at' =
    let same : k + zero ≡ k = omega arith in
    let own : slice_get (windows k m) n ≡ Some window = rw same at at' in
    rw (div-one n, take_all k window (omega (arith, (windows_all k m n window own).size))) own
prefix_number k (suc j) m n window at' =
    let more : k + suc j ≡ suc (k + j) = omega arith in
    let free : m - (k + j) ≡ m - k - j = omega arith in
    let shorter = rw free at (shorter_number (k + j) m n window (rw more at at')).0 in
    let prefix = prefix_number k j m (n / (m - k - j)) (take (k + j) window) shorter in
    let number : n / (m - k - j) / falling (m - k) j ≡ n / (falling (m - k) j * (m - k - j)) =
    div-div-eq-div-mul n (m - k - j) (falling (m - k) j) ∙ ap (λ d. n / d) (mul_comm (m - k - j) (falling (m - k) j)) in
    rw (number, take-take k (k + j) window (omega arith)) at prefix

part_of : (i k : ℕ) → i ≤ k → Part i k (k - i) (k + 1) (k + 1 - i)
part_of i k le = record { all = omega arith; long = refl; short = omega arith }

-- a window of length k+1 by the numbers of its prefix and the position of its last identifier
module _ {k m place : ℕ} {p : BucketPrefix} {window : List ℕ} (some : 2 ≤ k) (is : IsLonger k m p place window) where
  own : Placed k m p.first_gap p.second_gap (length (unused m (drop 2 (take k window)))) place window
  own =
      let first = rw (get_or-take k window 0 0 (omega arith)) at is.front.first_gap in
      let second = rw (get_or-take k window 1 0 (omega arith)) at is.front.second_gap in
      rw (first, second, is.place_is) at (placed k (k + 1) m window some refl is.window_is)

  -- its own numbers
  middle_at : slice_get (windows (k + 1 - 1) m) (p.middle * (m - (k - 1)) + (place - below p.second_gap place))
      ≡ Some (drop 1 window)
  middle_at =
      let rank : last_place 1 k window ≡ place - below p.second_gap place = omega (arith, own.middle) in
      rw rank at (part_longer m (part_of 1 k (omega arith)) p.middle window is.window_is is.front.middle)

  last_at : slice_get (windows (k + 1 - 2) m) (p.last * (m - (k - 2)) + place) ≡ Some (drop 2 window)
  last_at =
      rw is.place_is at (part_longer m (part_of 2 k some) p.last window is.window_is is.front.last)

  pub grown_few :
      (most : ℕ) → k < m → ((l : ℕ) → l ≤ k → length (windows l m) ≤ most)
      → (p.middle * (m - k + 1) + (place - below p.second_gap place) < most)
      × (p.last * (m - k + 2) + place < most)
  grown_few most short few =
      let one : m - (k - 1) ≡ m - k + 1 = omega arith in
      let two : m - (k - 2) ≡ m - k + 2 = omega arith in
      let middle = rw one at (slice_get_within (windows (k + 1 - 1) m) _ (drop 1 window) middle_at) in
      let last = rw two at (slice_get_within (windows (k + 1 - 2) m) _ (drop 2 window) last_at) in (
        omega (arith, middle, few (k + 1 - 1) (omega arith)),
        omega (arith, last, few (k + 1 - 2) (omega arith)),
      )

  pub grown_numbers :
      (q : BucketPrefix) → k < m → q.middle ≡ p.middle * (m - k + 1) + (place - below p.second_gap place)
      → q.last ≡ p.last * (m - k + 2) + place → q.first_gap ≡ p.first_gap - below place p.first_gap
      → q.second_gap ≡ p.second_gap - below place p.second_gap → HasNumbers (k + 1) m window q
  grown_numbers q short middle last first second =
      let one : m - (k - 1) ≡ m - k + 1 = omega arith in
      let two : m - (k - 2) ≡ m - k + 2 = omega arith in
      record {
        window = is.window_is;
        middle = rw (middle, ← one) middle_at;
        last = rw (last, ← two) last_at;
        first_gap = omega (arith, own.first_grown, first);
        second_gap = omega (arith, own.second_grown, second);
      }

gap_back : (f g p : ℕ) → f + below p g ≡ g → g ≢ p → g ≡ f + cond (nat_le p f) 1 0
gap_back f g p sum differs = grind (arith, nat_tests)

-- a window of length k+1 by its own numbers
module _ {k m : ℕ} {q : BucketPrefix} {window : List ℕ} (some : 2 ≤ k) (has : HasNumbers (k + 1) m window q) where
  -- the positions of its first two identifiers are below the number of all identifiers
  pub gaps_are_few : (q.first_gap < m) × (q.second_gap < m)
  gaps_are_few =
      let own = placed k (k + 1) m window some refl has.window in (
        omega (arith, own.first_grown, own.first_inside, own.all, has.first_gap),
        omega (arith, own.second_grown, own.second_inside, own.all, has.second_gap),
      )

  -- the numbers of its prefix, and the position of its last identifier
  pub shrunk_numbers :
      (p : BucketPrefix) (place : ℕ) → k < m → p.middle ≡ q.middle / (m - k + 1) → p.last ≡ q.last / (m - k + 2)
      → place ≡ q.last % (m - k + 2) → p.first_gap ≡ q.first_gap + cond (nat_le place q.first_gap) 1 0
      → p.second_gap ≡ q.second_gap + cond (nat_le place q.second_gap) 1 0 → IsLonger k m p place window
  shrunk_numbers p place short middle last place_is first second =
      let one : m - k + 1 ≡ m - (k - 1) = omega arith in
      let two : m - k + 2 ≡ m - (k - 2) = omega arith in
      let middle_at = part_shorter m (part_of 1 k (omega arith)) q.middle window has.middle in
      let last_at = part_shorter m (part_of 2 k some) q.last window has.last in
      let x_at : last_place 2 k window ≡ place = rw (place_is, two) (sym last_at.1) in
      let own = rw x_at at (placed k (k + 1) m window some refl has.window) in
      let first_back = gap_back q.first_gap _ place (rw has.first_gap at own.first_grown) own.first in
      let second_back = gap_back q.second_gap _ place (rw has.second_gap at own.second_grown) own.second in
      record {
        window_is = has.window;
        front = record {
          window = window_front k (k + 1) m window refl has.window;
          middle = rw (middle, one) middle_at.0;
          last = rw (last, two) last_at.0;
          first_gap = rw (get_or-take k window 0 0 (omega arith), first) first_back;
          second_gap = rw (get_or-take k window 1 0 (omega arith), second) second_back;
        };
        place_is = x_at;
      }

-- the positions for a bucket follow from the numbers of its prefix
pub prefix_has_places :
    (k m : ℕ) (window : List ℕ) (p : BucketPrefix) (places : BucketPlaces) → 2 ≤ k → IsWindow (k + 1) m window
    → HasNumbers k m (take k window) p → places.first_gap ≡ p.first_gap → places.second_gap ≡ p.second_gap
    → places.end + k ≡ m + 2 → HasPlaces (k - 1) m window places
prefix_has_places k m window p places some is has first second end =
    let own : k ≡ k - 1 + 1 = omega arith in
    let all : length (unused m (drop 2 (take k window))) ≡ places.end =
    omega (arith, (placed k (k + 1) m window some refl is).all, end) in
    record {
      first = rw (get_or-take k window 0 0 (omega arith), own) at has.first_gap ∙ sym first;
      second = rw (get_or-take k window 1 0 (omega arith), own) at has.second_gap ∙ sym second;
      end = rw own at all;
    }

-- the numbers of two identifiers
pub pair_numbers : (m a b : ℕ) (p : BucketPrefix) → IsWindow 2 m (a ∷ b ∷ []) → p.middle ≡ b →
    p.last ≡ 0 → p.first_gap ≡ a → p.second_gap ≡ b → HasNumbers 2 m (a ∷ b ∷ []) p
pair_numbers m a b p is middle last first second =
    let none : slice_get (windows 0 m) 0 ≡ Some [] = rw (windows-zero m) in
    let step = window_step 0 m 0 b [] none (is.below 1 0 (omega (arith, is.size))) refl in
    let number : 0 * (m - 0) + length (unused b []) ≡ p.middle = omega (arith, middle, unused_all b) in
    record {
      window = is;
      middle = rw number at step;
      last = rw last none;
      first_gap = unused_all a ∙ sym first;
      second_gap = unused_all b ∙ sym second;
    }

-- two identifiers follow from their numbers
pub pair_is : (m : ℕ) (list : List ℕ) (p : BucketPrefix) → HasNumbers 2 m list p
    → list ≡ p.first_gap ∷ p.second_gap ∷ []
pair_is m (a ∷ b ∷ []) p has =
    (λ i. (sym (unused_all a) ∙ has.first_gap) i ∷ (sym (unused_all b) ∙ has.second_gap) i ∷ [])
pair_is m list p has = absurd (omega (arith, has.window.size))

-- a list of two items
pub two_items : (list : List ℕ) → length list ≡ 2 → list ≡ get_or list 0 0 ∷ get_or list 1 0 ∷ []
two_items (a ∷ b ∷ []) size = refl
two_items list size = absurd (omega (arith, size))

-- a list lacks its first identifier after the second one, and the position of that follows from its numbers
first_at : (k m x : ℕ) (rest : List ℕ) (p : BucketPrefix) → HasNumbers k m (x ∷ rest) p
    → slice_get (unused m (drop 1 rest)) p.first_gap ≡ Some x
first_at k m x rest p has =
    let later = λ (i : ℕ). let more : i + 2 ≡ suc (1 + i) = omega arith in ap (λ n. get_or (x ∷ rest) n 0) (sym more) in
    let lacks = lacks_from_differs (drop 1 rest) x (λ i lt same.
    has.window.distinct 0 (i + 2) 0 (omega arith) (omega (arith, lt, length-drop 1 rest)) (sym same
    ∙ get_or-drop 1 rest i 0 ∙ later i)) in
    rw has.first_gap at (unused_at (drop 1 rest) m x (has.window.below 0 0 (omega arith)) lacks)

-- a list follows from its numbers
pub one_list : (k m : ℕ) (a b : List ℕ) (p : BucketPrefix) → 2 ≤ k → HasNumbers k m a p → HasNumbers k m b p → a ≡ b
one_list k m [] b p some has other = absurd (omega (arith, has.window.size))
one_list k m (x ∷ u) [] p some has other = absurd (omega (arith, other.window.size))
one_list k m (x ∷ u) (y ∷ v) p some has other =
    let rest : u ≡ v = same_Some u v (sym has.middle ∙ other.middle) in
    let first : x ≡ y = same_Some x y (sym (first_at k m x u p has)
    ∙ (λ q. slice_get (unused m (drop 1 (rest q))) p.first_gap) ∙ first_at k m y v p other) in
    (λ q. first q ∷ rest q)
