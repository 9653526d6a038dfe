-- Identifiers at the start of a text, each followed by a blank.
use Rattle.std.proofs.Common.{◌≡◌, ℕ, ◌^◌, ◌<◌, List, [], ◌∷◌, ◌++◌, length, refl, ap, arith}
use Rattle.std.specs.Prelude.{All}
use Rattle.std.specs.Fmt.{decimal}
use Rattle.std.proofs.lemmas.List.Elements.{All-head, All-tail}
use Rattle.table_text.specs.TableText.{ids_then}
use Rattle.numerals.proofs.NumbersInTexts.{number_once}

-- a number below 2^32
abbrev pub Fits32 : ℕ → Type 0
Fits32 n = n < 2 ^ 32

-- one more identifier
pub ids_more : (ids : List ℕ) (id : ℕ) (rest : List ℕ) →
    ids_then (ids ++ id ∷ []) rest ≡ ids_then ids (decimal id ++ 32 ∷ rest)
ids_more [] id rest = refl
ids_more (x ∷ ids) id rest = ap (λ l. decimal x ++ 32 ∷ l) (ids_more ids id rest)

-- a text with more identifiers has a number and a blank after the first ones
pub next_id : (front ids x y : List ℕ) → All Fits32 front → All Fits32 ids → length front < length ids
    → ids_then front x ≡ ids_then ids y → (n : ℕ) × (rest : List ℕ) × (n < 2 ^ 32) × (x ≡ decimal n ++ 32 ∷ rest)
next_id front [] x y p q less same = absurd (omega (arith, less))
next_id [] (n ∷ ids) x y p q less same = (n, ids_then ids y, All-head Fits32 n ids q, same)
next_id (m ∷ front) (n ∷ ids) x y p q less same =
    let one = number_once 32 m n (ids_then front x) (ids_then ids y) (omega arith) (All-head Fits32 m front p)
    (All-head Fits32 n ids q) same in
    next_id front ids x y (All-tail Fits32 m front p) (All-tail Fits32 n ids q) (omega (arith, less)) one.1

-- a text begins with a given number of identifiers in one way
pub ids_once : (ids others x y : List ℕ) → All Fits32 ids → All Fits32 others → length ids ≡ length others
    → ids_then ids x ≡ ids_then others y → (ids ≡ others) × (x ≡ y)
ids_once [] [] x y p q size same = (refl, same)
ids_once (m ∷ ids) [] x y p q size same = absurd (omega (arith, size))
ids_once [] (n ∷ others) x y p q size same = absurd (omega (arith, size))
ids_once (m ∷ ids) (n ∷ others) x y p q size same =
    let one = number_once 32 m n (ids_then ids x) (ids_then others y) (omega arith) (All-head Fits32 m ids p)
    (All-head Fits32 n others q) same in
    let more =
    ids_once ids others x y (All-tail Fits32 m ids p) (All-tail Fits32 n others q) (omega (arith, size)) one.1 in
    (cc, more.1)
