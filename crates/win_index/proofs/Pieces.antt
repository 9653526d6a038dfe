-- Lists that are joined from pieces of one length.
use Rattle.std.proofs.Common.{◌≡◌, ℕ, zero, suc, ◌+◌, ◌-◌, ◌*◌, ◌<◌, ◌≤◌, List, [], ◌∷◌, length, flat_map, slice_get}
use Rattle.std.proofs.Common.{Some, refl, sym, ◌∙◌, arith, length-append, ⊎_elim}
use Rattle.std.proofs.Math.Nat.{suc-mul}
use Rattle.std.proofs.lemmas.Bool.{cases_lt}
use Rattle.std.proofs.lemmas.Option.{none-some, same_Some, slice_get_within}
use Rattle.win_index.proofs.Kept.{slice_get-append_left, slice_get-append_right}

-- item n of the joined list as an item of a piece
pub record Piece {X Y : Type 0} (f : X → List Y) (xs : List X) (c n : ℕ) (item : Y) : Type 0 where
  pub place : ℕ
  pub rest : ℕ
  pub source : X
  pub number : n ≡ place * c + rest
  pub source_at : slice_get xs place ≡ Some source
  pub item_at : slice_get (f source) rest ≡ Some item

-- each piece has length c
abbrev pub HasPieces : {X Y : Type 0} → (X → List Y) → List X → ℕ → Type 0
HasPieces {X} f xs c = (place : ℕ) (x : X) → slice_get xs place ≡ Some x → length (f x) ≡ c

pub length_pieces :
    {X Y : Type 0} (f : X → List Y) (xs : List X) (c : ℕ) → HasPieces f xs c → length (flat_map f xs) ≡ length xs * c
length_pieces f [] c each = omega arith
length_pieces f (x ∷ xs) c each =
    let first = each zero x refl in
    let rest = length_pieces f xs c (λ place y at'. each (suc place) y at') in
    omega (arith, length-append (f x) (flat_map f xs), first, rest, suc-mul (length xs) c)

pub piece_at :
    {X Y : Type 0} (f : X → List Y) (xs : List X) (c place rest : ℕ) (x : X) (item : Y) → HasPieces f xs c
    → slice_get xs place ≡ Some x → slice_get (f x) rest ≡ Some item
    → slice_get (flat_map f xs) (place * c + rest) ≡ Some item
piece_at f [] c place rest x item each source_at item_at = absurd (none-some x source_at)
piece_at f (y ∷ xs) c zero rest x item each source_at item_at =
    let same : y ≡ x = same_Some y x source_at in
    let number : zero * c + rest ≡ rest = omega arith in
    rw (number, same) (slice_get-append_left (f x) (flat_map f xs) rest (slice_get_within (f x) rest item item_at)
    ∙ item_at)
piece_at f (y ∷ xs) c (suc place) rest x item each source_at item_at =
    let first = each zero y refl in
    let beyond : suc place * c + rest ≡ length (f y) + (place * c + rest) = omega (arith, first, suc-mul place c) in
    slice_get-append_right (f y) (flat_map f xs) (suc place * c + rest) (place * c + rest) beyond
    ∙ piece_at f xs c place rest x item (λ k z at'. each (suc k) z at') source_at item_at

pub piece_of :
    {X Y : Type 0} (f : X → List Y) (xs : List X) (c n : ℕ) (item : Y) → HasPieces f xs c
    → slice_get (flat_map f xs) n ≡ Some item → Piece f xs c n item
piece_of f [] c n item each at' = absurd (none-some item at')
piece_of f (x ∷ xs) c n item each at' =
    let first = each zero x refl in
    ⊎_elim
    (λ (lt : n < length (f x)).
    record {
      place = 0;
      rest = n;
      source = x;
      number = omega arith;
      source_at = refl;
      item_at = sym (slice_get-append_left (f x) (flat_map f xs) n lt) ∙ at';
    })
    (λ (le : length (f x) ≤ n).
    let i : ℕ = n - length (f x) in
    let later = piece_of f xs c i item (λ k z h. each (suc k) z h)
    (sym (slice_get-append_right (f x) (flat_map f xs) n i (omega arith)) ∙ at') in
    record {
      place = suc later.place;
      rest = later.rest;
      source = later.source;
      number = omega (arith, later.number, suc-mul later.place c);
      source_at = later.source_at;
      item_at = later.item_at;
    })
    (cases_lt n (length (f x)))
