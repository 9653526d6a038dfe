-- Slices of the code as parts of a line, and blanks below the bytes shown.
use Rattle.std.proofs.Common.{◌≡◌, ℕ, ◌+◌, ◌-◌, ◌<◌, List, [], ◌∷◌, ◌++◌, length, take, drop, get_or, replicate, sym}
use Rattle.std.proofs.Common.{ap, ◌∙◌, add-one, append_assoc, append-nil, length-append}
use Rattle.std.proofs.Math.Seq.{take-suc}
use Rattle.std.proofs.lemmas.Grind.{flat_map-append}
use Rattle.std.proofs.lemmas.List.{take_rest, replicate-append-replicate}
use Rattle.std.specs.List.{before_first, prefix_len, suffix_len}
use Rattle.source_text.specs.Lines.{in_line, is_feed, line_before, line_from}
use Rattle.source_text.specs.Shown.{shown_byte, shown}

-- the end of the prefix of a text
pub before_is : (text : List ℕ) (offset n : ℕ) → n ≡ suffix_len in_line (take offset text) →
    take (length (take offset text) - (length (take offset text) - n))
    (drop (length (take offset text) - n) (take offset text)) ≡ line_before text offset
before_is text offset n e =
    take_rest (take offset text) (length (take offset text) - n)
    ∙ ap (λ k. drop (length (take offset text) - k) (take offset text)) e

-- the first line of a text
pub first_is : (text : List ℕ) (n : ℕ) → n ≡ prefix_len in_line text → take n text ≡ before_first is_feed text
first_is text n e = ap (λ k. take k text) e

-- the start of the rest of a text
pub from_is : (text : List ℕ) (offset n : ℕ) → n ≡ prefix_len in_line (take (length text - offset) (drop offset text)) →
    take n (take (length text - offset) (drop offset text)) ≡ line_from text offset
from_is text offset n e =
    ap (λ k. take k (take (length text - offset) (drop offset text))) e
    ∙ ap (λ xs. take (prefix_len in_line xs) xs) (take_rest text offset)

shown_next : (bs : List ℕ) (i : ℕ) → i < length bs
    → shown (take (i + 1) bs) ≡ shown (take i bs) ++ shown_byte (get_or bs i 0)
shown_next bs i h = ap (λ k. shown (take k bs)) (add-one i) ∙ ap shown (take-suc bs i 0 h)
    ∙ flat_map-append shown_byte (take i bs) (get_or bs i 0 ∷ [])
    ∙ ap (λ xs. shown (take i bs) ++ xs) (append-nil (shown_byte (get_or bs i 0)))

abbrev blanks : ℕ → List ℕ
blanks n = replicate n 32

blanks-append : (xs ys : List ℕ) → blanks (length xs) ++ blanks (length ys) ≡ blanks (length (xs ++ ys))
blanks-append xs ys = replicate-append-replicate (length xs) (length ys) 32 ∙ ap blanks (sym (length-append xs ys))

-- after the blanks of one more byte
pub blanks_next : (x y z bs : List ℕ) (i : ℕ) → i < length bs → y ≡ x ++ replicate (length (shown (take i bs))) 32 →
    z ≡ y ++ replicate (length (shown_byte (get_or bs i 0))) 32
    → z ≡ x ++ replicate (length (shown (take (i + 1) bs))) 32
blanks_next x y z bs i h before e =
    let here : List ℕ = blanks (length (shown_byte (get_or bs i 0))) in
    e ∙ ap (λ xs. xs ++ here) before
    ∙ append_assoc x (blanks (length (shown (take i bs)))) here
    ∙ ap (λ xs. x ++ xs) (blanks-append (shown (take i bs)) (shown_byte (get_or bs i 0))
    ∙ ap (λ xs. blanks (length xs)) (sym (shown_next bs i h)))
