-- The number of a window, from that of the window without its last identifier.
use Rattle.std.proofs.Common.{◌≡◌, ◌≢◌, ℕ, zero, suc, ◌+◌, ◌-◌, ◌*◌, ◌<◌, false, Option, List, [], ◌∷◌, ◌++◌, length}
use Rattle.std.proofs.Common.{flat_map, slice_get, Some, None, refl, sym, ap, ◌∙◌, arith, option_map, add-one}
use Rattle.std.proofs.lemmas.Bool.{not-true}
use Rattle.std.proofs.lemmas.List.{length-map, length_push}
use Rattle.std.proofs.lemmas.List.Elements.{All-nil, All-push}
use Rattle.std.proofs.lemmas.List.Quantifiers.{all_pairs_push}
use Rattle.std.proofs.lemmas.Option.{none-some, same_Some, slice_get-map, slice_get_within}
use Rattle.win_index.specs.Windows.{is_used, unused, extended, windows, IsWindow}
use Rattle.win_index.specs.Falling.{falling}
use Rattle.win_index.proofs.Kept.{kept_is}
use Rattle.win_index.proofs.Unused.{lacks, length-unused, lacks_differs, unused_at}
use Rattle.win_index.proofs.Pieces.{HasPieces, piece_at, piece_of, length_pieces}

pub windows-zero : (m : ℕ) → windows zero m ≡ [] ∷ []
unfolding windows
windows-zero m = refl

pub windows-suc : (k m : ℕ) → windows (suc k) m ≡ flat_map (extended m) (windows k m)
unfolding windows
windows-suc k m = refl

windows_none : (m n : ℕ) (list : List ℕ) → slice_get ([] ∷ []) n ≡ Some list → IsWindow zero m list
windows_none m zero list at' =
    let empty : [] ≡ list = same_Some [] list at' in
    rw (← empty) (record {
      size = refl;
      below = All-nil (λ x. x < m);
      distinct = λ i j d lt within. absurd (omega arith);
    })
windows_none m (suc n) list at' = absurd (none-some list at')

-- a window with one more number that it lacks is a window
pub push_window :
    (k m x : ℕ) (front : List ℕ) → IsWindow k m front → x < m → is_used front x ≡ false →
    IsWindow (suc k) m (front ++ x ∷ [])
push_window k m x front window lt free =
    record {
      size = omega (arith, length_push front x, window.size);
      below = All-push (λ y. y < m) front x window.below lt;
      distinct = all_pairs_push (λ a b. a ≢ b) front x window.distinct (lacks_differs front x free);
    }

-- a window lacks the other numbers
pub unused_left : {k m : ℕ} {front : List ℕ} → IsWindow k m front → length (unused m front) + k ≡ m
unused_left {k} {m} {front} window =
    omega (arith, length-unused front m window.distinct window.below, window.size)

length-extended : (k m : ℕ) (front : List ℕ) → IsWindow k m front → length (extended m front) ≡ m - k
length-extended k m front window =
    omega (arith, length-map (unused m front) (λ x. front ++ x ∷ []), unused_left window)

map_some : {A B : Type 0} (f : A → B) (o : Option A) (b : B) → option_map f o ≡ Some b →
    (a : A) × (o ≡ Some a) × (f a ≡ b)
map_some f None b e = absurd (none-some b e)
map_some f (Some a) b e = (a, refl, same_Some (f a) b e)

-- window n of length k+1, from one of length k and the position of its last number among those that this one lacks
pub record Parts (k m n : ℕ) (list : List ℕ) : Type 0 where
  pub place : ℕ
  pub rest : ℕ
  pub front : List ℕ
  pub last : ℕ
  pub whole : list ≡ front ++ last ∷ []
  pub number : n ≡ place * (m - k) + rest
  pub front_at : slice_get (windows k m) place ≡ Some front
  pub last_at : slice_get (unused m front) rest ≡ Some last
  pub front_is : IsWindow k m front
  pub inside : rest < m - k

abbrev pub HoldsWindows : ℕ → ℕ → Type 0
HoldsWindows k m = (n : ℕ) (list : List ℕ) → slice_get (windows k m) n ≡ Some list → IsWindow k m list

pieces_even : (k m : ℕ) → HoldsWindows k m → HasPieces (extended m) (windows k m) (m - k)
pieces_even k m all = λ place front at'. length-extended k m front (all place front at')

-- the element at a position of the list with one more number each
extended_at :
    (m place : ℕ) (front list : List ℕ) → slice_get (extended m front) place ≡ Some list
    → (x : ℕ) × (slice_get (unused m front) place ≡ Some x) × (front ++ x ∷ [] ≡ list)
extended_at m place front list at' =
    let longer : ℕ → List ℕ = λ x. front ++ x ∷ [] in
    map_some longer (slice_get (unused m front) place) list (sym (slice_get-map longer (unused m front) place) ∙ at')

parts_with : (k m n : ℕ) (list : List ℕ) → HoldsWindows k m →
    slice_get (windows (suc k) m) n ≡ Some list → Parts k m n list
parts_with k m n list all at' =
    let joined = rw (windows-suc k m) at at' in
    let piece = piece_of (extended m) (windows k m) (m - k) n list (pieces_even k m all) joined in
    let last = extended_at m piece.rest piece.source list piece.item_at in
    let front_is = all piece.place piece.source piece.source_at in
    record {
      place = piece.place;
      rest = piece.rest;
      front = piece.source;
      last = last.0;
      whole = sym last.2;
      number = piece.number;
      front_at = piece.source_at;
      last_at = last.1;
      front_is = front_is;
      inside = omega (arith, slice_get_within (unused m piece.source) piece.rest last.0 last.1, unused_left front_is);
    }

-- each item of the list is a window
pub windows_all : (k m : ℕ) → HoldsWindows k m
windows_all zero m n list at' = windows_none m n list (rw (windows-zero m) at at')
windows_all (suc k) m n list at' =
    let parts = parts_with k m n list (windows_all k m) at' in
    let last = kept_is (lacks parts.front) m parts.rest parts.last parts.last_at in
    let free = not-true (is_used parts.front parts.last) last.passes in
    rw parts.whole (push_window k m parts.last parts.front parts.front_is last.below free)

pub window_parts : (k m n : ℕ) (list : List ℕ) → slice_get (windows (suc k) m) n ≡ Some list → Parts k m n list
window_parts k m n list at' = parts_with k m n list (windows_all k m) at'

pub window_from_parts :
    (k m place rest last : ℕ) (front : List ℕ) → slice_get (windows k m) place ≡ Some front
    → slice_get (unused m front) rest ≡ Some last → slice_get (windows (suc k) m) (place * (m - k) + rest)
    ≡ Some (front ++ last ∷ [])
window_from_parts k m place rest last front front_at last_at =
    let longer : ℕ → List ℕ = λ x. front ++ x ∷ [] in
    let item = slice_get-map longer (unused m front) rest ∙ ap (option_map longer) last_at in
    rw (windows-suc k m)
    (piece_at (extended m) (windows k m) (m - k) place rest front (front ++ last ∷ [])
    (pieces_even k m (windows_all k m)) front_at item)

-- each window has as many longer ones
pub windows_more : (k m : ℕ) → length (windows (k + 1) m) ≡ length (windows k m) * (m - k)
windows_more k m =
    rw (add-one, windows-suc k m)
    (length_pieces (extended m) (windows k m) (m - k) (pieces_even k m (windows_all k m)))

pub length-windows : (k m : ℕ) → length (windows k m) ≡ falling m k
length-windows zero m = rw (windows-zero m)
length-windows (suc k) m =
    rw add-one at (windows_more k m) ∙ ap (λ n. n * (m - k)) (length-windows k m)

-- the number of a window with one identifier more
pub window_step :
    (k m n x : ℕ) (front : List ℕ) → slice_get (windows k m) n ≡ Some front → x < m → is_used front x ≡ false
    → slice_get (windows (suc k) m) (n * (m - k) + length (unused x front)) ≡ Some (front ++ x ∷ [])
window_step k m n x front at' lt free =
    window_from_parts k m n (length (unused x front)) x front at' (unused_at front m x lt free)
