-- Sets of 64 bits.
use Rattle.std.proofs.Common.{◌≡◌, ◌≢◌, ℕ, ◌+◌, ◌*◌, ◌%◌, ◌^◌, ◌<◌, ◌≤◌, List, length, get_or, bit_and, bit_or, subst}
use Rattle.std.proofs.Common.{sym, ap, ◌∙◌, arith, ⊎_elim, w64}
use Rattle.std.proofs.Math.Nat.{mod-lt}
use Rattle.std.proofs.lemmas.Bool.{cases_eq, cases_lt}
use Rattle.std.proofs.lemmas.Nat.Bits.{bit_at_and, bit_at_or, bit_at-lt, bit_at-zero}
use Rattle.std.proofs.lemmas.Nat.Bits.{bit_at_clear_other, bit_at_set_same}
use Rattle.std.specs.Int.{bit_at, bit_not}
use Rattle.nbhd_check.specs.Masks.{HasBit}
use Rattle.nbhd_check.specs.declared.channel_sets.Words.{Words}
use Rattle.nbhd_check.specs.ChannelSets.{HasWords}

-- a bit of one of two sets is a bit of both together
pub of_first : (a b bit : ℕ) → bit_at a bit ≡ 1 → bit_at (bit_or a b) bit ≡ 1
of_first a b bit has = omega (arith, bit_at_or a b bit, bit_at-lt b bit, has)

pub of_second : (a b bit : ℕ) → bit_at b bit ≡ 1 → bit_at (bit_or a b) bit ≡ 1
of_second a b bit has = omega (arith, bit_at_or a b bit, bit_at-lt a bit, has)

-- a bit of both sets is one of what they share
pub of_both : (a b bit : ℕ) → bit_at a bit ≡ 1 → bit_at b bit ≡ 1 → bit_at (bit_and a b) bit ≡ 1
of_both a b bit left right = omega (arith, bit_at_and a b bit, left, right)

-- sets that share nothing
pub none_shared : (a b bit : ℕ) → bit_and a b ≡ 0 → bit_at a bit ≡ 1 → bit_at b bit ≡ 1 → ⊥
none_shared a b bit none left right =
    omega (arith, of_both a b bit left right, ap (λ n. bit_at n bit) none, bit_at-zero bit)

-- the set of one channel
abbrev pub one_of : ℕ → ℕ
one_of channel = 1 * 2 ^ (channel % 64) % 2 ^ 64

pub one_has : (set channel other : ℕ) → channel % 64 ≡ other % 64 → HasBit (bit_or set (one_of channel)) other
one_has set channel other same =
    subst (λ bit. bit_at (bit_or set (one_of channel)) bit ≡ 1) same
    (bit_at_set_same w64 set (channel % 64) (mod-lt channel (omega arith)))

-- its bit is in both the set and that of the channel
pub shared_one : (set channel other : ℕ) → channel % 64 ≡ other % 64 → HasBit set other
    → HasBit (bit_and set (one_of channel)) other
shared_one set channel other same has =
    of_both set (one_of channel) (other % 64) has (rw (or_zero (one_of channel)) at (one_has 0 channel other same))
  where
    or_zero : (a : ℕ) → bit_or 0 a ≡ a
    or_zero a = grind arith

-- the channels of a list, one more
pub once_more : (once : ℕ) (channels : List ℕ) (n : ℕ) → ((i : ℕ) → i < n → HasBit once (get_or channels i 0))
    → (i : ℕ) → i < n + 1
    → HasBit (bit_or once (one_of (get_or channels n 0))) (get_or channels i 0)
once_more once channels n before i lt =
    ⊎_elim (λ (less : i < n). of_first once (one_of (get_or channels n 0)) (get_or channels i 0 % 64) (before i less))
    (λ (own : n ≤ i).
    let same : n ≡ i = omega arith in
    one_has once (get_or channels n 0) (get_or channels i 0) (ap (λ k. get_or channels k 0 % 64) same))
    (cases_lt i n)

pub more_more : (once more : ℕ) (channels : List ℕ) (n : ℕ) → ((i : ℕ) → i < n → HasBit once (get_or channels i 0))
    → ((i j : ℕ) → i < j → j < n → get_or channels i 0 % 64 ≡ get_or channels j 0 % 64
    → HasBit more (get_or channels i 0))
    → (i j : ℕ) → i < j → j < n + 1 → get_or channels i 0 % 64 ≡ get_or channels j 0 % 64
    → HasBit (bit_or more (bit_and once (one_of (get_or channels n 0)))) (get_or channels i 0)
more_more once more channels n single before i j less lt same =
    let new : ℕ = bit_and once (one_of (get_or channels n 0)) in
    let x : ℕ = get_or channels i 0 in
    ⊎_elim (λ (earlier : j < n). of_first more new (x % 64) (before i j less earlier same))
    (λ (own : n ≤ j).
    let here : j ≡ n = omega arith in
    of_second more new (x % 64)
    (shared_one once (get_or channels n 0) x (ap (λ k. get_or channels k 0 % 64) (sym here) ∙ sym same) (single i (omega arith))))
    (cases_lt j n)

-- the channels of a list but for one
pub has_without : (list : List ℕ) (words : Words) (channel gap place : ℕ) → HasWords list words → gap < length list
    → get_or list gap 0 ≡ channel
    → place < length list → place ≢ gap
    → HasBit (bit_or words.more (bit_and words.once (bit_not w64 (one_of channel)))) (get_or list place 0)
has_without list words channel gap place are in_gap is within other =
    let x : ℕ = get_or list place 0 in
    let rest : ℕ = bit_and words.once (bit_not w64 (one_of channel)) in
    ⊎_elim
    (λ (same : x % 64 ≡ channel % 64).
    let shared : x % 64 ≡ get_or list gap 0 % 64 = same ∙ ap (λ c. c % 64) (sym is) in
    of_first words.more rest (x % 64) (⊎_elim
    (λ (before : place < gap). are.more place gap before in_gap shared)
    (λ (after : gap ≤ place). subst (λ bit. bit_at words.more bit ≡ 1) (sym shared) (are.more gap place (omega (arith, other, after)) within (sym shared)))
    (cases_lt place gap)))
    (λ (apart : x % 64 ≢ channel % 64).
    of_second words.more rest (x % 64)
    (bit_at_clear_other w64 words.once (channel % 64) (mod-lt channel (omega arith)) (x % 64) (mod-lt x (omega arith)) apart ∙ are.once place within))
    (cases_eq (x % 64) (channel % 64))
