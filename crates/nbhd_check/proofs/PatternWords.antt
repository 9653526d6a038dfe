-- Words of forbidden thirds.
use Rattle.std.proofs.Common.{◌≡◌, ◌≢◌, ℕ, ◌+◌, ◌-◌, ◌*◌, ◌%◌, ◌<◌, ◌≤◌, List, ◌++◌, Option, Some, slice_get, length}
use Rattle.std.proofs.Common.{get_or, set, take, drop, bit_or, subst, sym, ap, ◌∙◌, arith, ⊎_elim, length-set}
use Rattle.std.proofs.Common.{length-append, length-drop}
use borrow.Rule.Slice.PartMut.{put_mid}
use Rattle.std.proofs.Math.Nat.{mod-lt}
use Rattle.std.proofs.lemmas.Bool.{cases_eq, cases_lt}
use Rattle.std.proofs.lemmas.List.{get_or-set_same, get_or-set_other, get_or-take, get_or-drop, get_or_append_left}
use Rattle.std.proofs.lemmas.List.{get_or-append_right, length-take-le}
use Rattle.std.proofs.lemmas.Option.{get_or_from_slice_get}
use Rattle.std.specs.Int.{bit_at}
use Rattle.ring_problems.specs.declared.pattern.Pattern.{Pattern}
use Rattle.ring_problems.specs.Patterns.{IsForbidden, Matches}
use Rattle.nbhd_check.specs.Masks.{HasBit, HasBitsOf}
use Rattle.nbhd_check.specs.PatternBits.{cell_of}
use Rattle.nbhd_check.proofs.BitSets.{of_first, of_second}

-- one word more is united
pub united :
    (old words others : List ℕ) (place : ℕ) → length words ≡ length old
    → ((i : ℕ) → i < length old → HasBitsOf (get_or words i 0) (get_or old i 0))
    → ((i : ℕ) → i < place → HasBitsOf (get_or words i 0) (get_or others i 0))
    → (let new = set words place (bit_or (get_or words place 0) (get_or others place 0)) in
    (length new ≡ length old)
    × ((i : ℕ) → i < length old → HasBitsOf (get_or new i 0) (get_or old i 0))
    × (place < length old → (i : ℕ) → i < place + 1 → HasBitsOf (get_or new i 0) (get_or others i 0)))
united old words others place size own before =
    let word : ℕ = bit_or (get_or words place 0) (get_or others place 0) in
    let new = set words place word in
    let kept = λ (i : ℕ) (other : i ≢ place). get_or-set_other words place i word 0 other in
    let written = λ (lt : place < length old). get_or-set_same words place word 0 (omega (arith, lt, size)) in (
      length-set words place word ∙ size,
      λ i lt bit is. ⊎_elim
          (λ (same : i ≡ place).
          ap (λ k. bit_at (get_or new k 0) bit) same ∙ ap (λ w. bit_at w bit) (written (omega (arith, lt, same)))
          ∙ of_first (get_or words place 0) (get_or others place 0) bit
          (ap (λ k. bit_at (get_or words k 0) bit) (sym same) ∙ own i lt bit is))
          (λ (other : i ≢ place). ap (λ w. bit_at w bit) (kept i other) ∙ own i lt bit is)
          (cases_eq i place),
      λ within i lt bit is. ⊎_elim
          (λ (same : i ≡ place).
          ap (λ k. bit_at (get_or new k 0) bit) same ∙ ap (λ w. bit_at w bit) (written within)
          ∙ of_second (get_or words place 0) (get_or others place 0) bit
          (ap (λ k. bit_at (get_or others k 0) bit) (sym same) ∙ is))
          (λ (other : i ≢ place). ap (λ w. bit_at w bit) (kept i other) ∙ before i (omega (arith, other, lt)) bit is)
          (cases_eq i place),
    )

-- one part of a list written anew
pub put_same : (list part : List ℕ) (low len i : ℕ) → low + len ≤ length list → length part ≡ len → i < len
    → get_or (put_mid low len list part) (low + i) 0 ≡ get_or part i 0
put_same list part low len i within size lt =
    let front = length-take-le low list (omega arith) in
    let back : low + i - low ≡ i = omega arith in
    get_or-append_right (take low list) (part ++ drop len (drop low list)) low (low + i) 0 front (omega arith)
    ∙ ap (λ k. get_or (part ++ drop len (drop low list)) k 0) back
    ∙ get_or_append_left part (drop len (drop low list)) 0 i (omega (arith, size))

pub put_before : (list part : List ℕ) (low len i : ℕ) → low + len ≤ length list → i < low
    → get_or (put_mid low len list part) i 0 ≡ get_or list i 0
put_before list part low len i within lt =
    let front = length-take-le low list (omega arith) in
    get_or_append_left (take low list) (part ++ drop len (drop low list)) 0 i (omega (arith, front))
    ∙ get_or-take low list i 0 lt

pub put_size : (list part : List ℕ) (low len : ℕ) → low + len ≤ length list → length part ≡ len
    → length (put_mid low len list part) ≡ length list
put_size list part low len within size =
    let front = length-take-le low list (omega arith) in
    omega (
      arith,
      length-append (take low list) (part ++ drop len (drop low list)),
      length-append part (drop len (drop low list)),
      length-drop len (drop low list),
      length-drop low list,
      front,
      size,
    )

-- one row more is written
pub rows_more :
    (problem : List Pattern) (limit first len : ℕ) (bits row : List ℕ) → length bits ≡ 4096 → first < 64 → len ≡ 64
    → length row ≡ 64
    → ((a b c : ℕ) → a % 64 < first → b % 64 < limit → IsForbidden problem (Some a) (Some b) (Some c)
    → HasBit (get_or bits (cell_of a b) 0) c)
    → ((a b c : ℕ) → a % 64 ≡ first → b % 64 < limit → IsForbidden problem (Some a) (Some b) (Some c)
    → HasBit (get_or row (b % 64) 0) c)
    → let new = put_mid (64 * first) len bits row in
    (length new ≡ 4096)
    × ((a b c : ℕ) → a % 64 < first + 1 → b % 64 < limit → IsForbidden problem (Some a) (Some b) (Some c)
    → HasBit (get_or new (cell_of a b) 0) c)
rows_more problem limit first len bits row size few len_is row_size before own =
    let within : 64 * first + len ≤ length bits = omega (arith, few, size, len_is) in
    let new = put_mid (64 * first) len bits row in (
      put_size bits row (64 * first) len within (omega (arith, row_size, len_is)) ∙ size,
      λ a b c lt in_limit bad.
          let low : b % 64 < 64 = mod-lt b (omega arith) in
          ⊎_elim
          (λ (less : a % 64 < first).
          let at_front : cell_of a b < 64 * first = omega (arith, less, low) in
          subst (λ w. HasBit w c) (sym (put_before bits row (64 * first) len (cell_of a b) within at_front))
          (before a b c less in_limit bad))
          (λ (here : first ≤ a % 64).
          let same : a % 64 ≡ first = omega (arith, here, lt) in
          let cell : cell_of a b ≡ 64 * first + b % 64 = omega (arith, same) in
          subst (λ w. HasBit w c)
          (sym (ap (λ k. get_or new k 0) cell
          ∙ put_same bits row (64 * first) len (b % 64) within (omega (arith, row_size, len_is))
          (omega (arith, low, len_is))))
          (own a b c same in_limit bad))
          (cases_lt (a % 64) first),
    )

-- the pattern at a number
pub match_at : (problem : List Pattern) (n place : ℕ) (p default : Pattern) (a b c : Option ℕ) → n ≡ place
    → slice_get problem n ≡ Some p
    → Matches p a b c → Matches (get_or problem place default) a b c
match_at problem n place p default a b c same item m =
    subst (λ q. Matches q a b c) (sym (get_or_from_slice_get problem n p default item)
    ∙ ap (λ k. get_or problem k default) same) m

-- the words of one first channel more are united with those so far
pub thirds_more :
    (bits thirds words : List ℕ) (first limit channel len : ℕ) → limit ≤ 64 → length bits ≡ 4096 → channel < limit
    → len ≡ limit → length thirds ≡ 64
    → ((a b : ℕ) → a % 64 < channel → b % 64 < limit → HasBit first a
    → HasBitsOf (get_or thirds (b % 64) 0) (get_or bits (a % 64 * 64 + b % 64) 0))
    → length words ≡ length (take limit thirds)
    → ((i : ℕ) → i < length (take limit thirds) → HasBitsOf (get_or words i 0) (get_or (take limit thirds) i 0))
    → ((a i : ℕ) → a % 64 ≡ channel → HasBit first a → i < length (take limit thirds)
    → HasBitsOf (get_or words i 0) (get_or (take len (drop (64 * channel) bits)) i 0))
    → let new = words ++ drop limit thirds in
    (length new ≡ 64)
    × ((a b : ℕ) → a % 64 < channel + 1 → b % 64 < limit → HasBit first a
    → HasBitsOf (get_or new (b % 64) 0) (get_or bits (a % 64 * 64 + b % 64) 0))
thirds_more bits thirds words first limit channel len few room in_limit len_is size before words_size old other =
    let front = length-take-le limit thirds (omega arith) in
    let new = words ++ drop limit thirds in (
      omega (arith, length-append words (drop limit thirds), length-drop limit thirds, words_size, front, size),
      λ a b lt below has bit is.
          let at_word = ap (λ w. bit_at w bit)
          (get_or_append_left words (drop limit thirds) 0 (b % 64) (omega (arith, words_size, front, below))) in
          ⊎_elim
          (λ (less : a % 64 < channel).
          at_word ∙ old (b % 64) (omega (arith, front, below)) bit
          (ap (λ w. bit_at w bit) (get_or-take limit thirds (b % 64) 0 below) ∙ before a b less below has bit is))
          (λ (here : channel ≤ a % 64).
          let same : a % 64 ≡ channel = omega (arith, here, lt) in
          let cell : 64 * channel + b % 64 ≡ a % 64 * 64 + b % 64 = omega (arith, same) in
          let read = get_or-take len (drop (64 * channel) bits) (b % 64) 0 (omega (arith, below, len_is))
          ∙ get_or-drop (64 * channel) bits (b % 64) 0
          ∙ ap (λ k. get_or bits k 0) cell in
          at_word ∙ other a (b % 64) same has (omega (arith, front, below)) bit (ap (λ w. bit_at w bit) read ∙ is))
          (cases_lt (a % 64) channel),
    )
