-- The positions of the windows with a common prefix.
use Rattle.std.proofs.Common.{◌≡◌, ℕ, ◌+◌, ◌-◌, ◌*◌, ◌≤◌, List, length, get_or, take, slice_get, Some, sym, ap, ◌∙◌}
use Rattle.std.proofs.Common.{arith, refl}
use Rattle.std.proofs.lemmas.Option.{slice_get_within}
use Rattle.std.proofs.lemmas.Nat.{mul-le}
use Rattle.win_index.specs.Laws.{LongerWindowsHaveNumbers}
use Rattle.win_index.specs.Buckets.{IsBucketStart}
use Rattle.win_index.specs.Windows.{windows}
use Rattle.win_index.proofs.Numbers.{unused_left, windows_more, windows_all}
use Rattle.win_index.proofs.Positions.{free_at}
use Rattle.win_index.proofs.FrontPlaces.{Part, part_longer}
use Rattle.win_index.proofs.Unused.{counted}

whole : (k : ℕ) → Part 0 k k (k + 1) (k + 1)
whole k = record { all = omega arith; long = refl; short = refl }

-- a bucket starts at the number of its prefix times the length of a bucket
pub bucket_start_is :
    (k m n first : ℕ) (front : List ℕ) → slice_get (windows k m) n ≡ Some front → first ≡ n * (m - k) →
    IsBucketStart k m front first
bucket_start_is k m n first front at' first_is =
    let below : n + 1 ≤ length (windows k m) = omega (arith, slice_get_within (windows k m) n front at') in
    let all = mul-le (n + 1) (m - k) (length (windows k m)) (m - k) below (omega arith) in
    record {
      within = omega (arith, first_is, all, windows_more k m);
      each = λ window is begins.
          rw (first_is, ← begins) (part_longer m (whole k) n window is (at' ∙ ap Some (sym begins)));
    }

-- a window with one more identifier is in the bucket of its prefix
pub longer_number : LongerWindowsHaveNumbers
longer_number k m n longer is at' =
    let size = is.size in
    let front = windows_all k m n (take k longer) at' in
    let inside = counted (take k longer) (get_or longer k 0) m (free_at longer k is.distinct (omega arith))
    (is.below k 0 (omega arith)) in
    (omega (arith, unused_left front), part_longer m (whole k) n longer is at')
