-- The texts of channels, one after another.
use Rattle.std.proofs.Common.{◌≡◌, ℕ, ◌+◌, List, [], ◌∷◌, ◌++◌, ◌-◌, ◌≤◌, length, take, drop, slice_get, slice_set}
use Rattle.std.proofs.Common.{Some, codes, sym, ap, ◌∙◌, append_assoc, arith}
use Rattle.std.specs.List.{flat_map}
use Rattle.std.proofs.lemmas.List.{flat_map_more, take_more, take-append-drop, take-take, drop-take, drop-set}
use Rattle.std.proofs.lemmas.Grind.{flat_map-append}
use Rattle.std.proofs.lemmas.Option.{slice_get_within, get_or_from_slice_get}
use Rattle.json_reports.specs.TableTexts.{entry_text, rest_text}

-- one more
pub text_more : (ns : List ℕ) (i n : ℕ) → slice_get ns i ≡ Some n
    → flat_map entry_text (take i ns) ++ entry_text n ≡ flat_map entry_text (take (i + 1) ns)
text_more ns i n item =
    let longer = take_more ns i n (slice_get_within ns i n item)
    ∙ ap (λ m. take i ns ++ m ∷ []) (get_or_from_slice_get ns i n n item) in
    flat_map_more entry_text [] (take i ns) n ∙ ap (flat_map entry_text) (sym longer)

-- the first ones and so many behind them
pub text_join : (ns : List ℕ) (n k : ℕ)
    → flat_map entry_text (take n ns) ++ flat_map entry_text (take k (drop n ns))
    ≡ flat_map entry_text (take (n + k) ns)
text_join ns n k =
    let front : take n (take (n + k) ns) ≡ take n ns = take-take n (n + k) ns (omega arith) in
    sym (flat_map-append entry_text (take n ns) (take k (drop n ns)))
    ∙ ap (flat_map entry_text) ((λ i. sym front i ++ sym (drop-take n k ns) i) ∙ take-append-drop n (take (n + k) ns))

-- the first ones, the others and the end
pub text_rest : (ns : List ℕ) (i : ℕ)
    → flat_map entry_text (take i ns) ++ (flat_map entry_text (drop i ns) ++ codes "]}\n") ≡ rest_text ns
text_rest ns i =
    sym (append_assoc (flat_map entry_text (take i ns)) (flat_map entry_text (drop i ns)) (codes "]}\n"))
    ∙ ap (λ (text : List ℕ). text ++ codes "]}\n") (sym (flat_map-append entry_text (take i ns) (drop i ns))
    ∙ ap (flat_map entry_text) (take-append-drop i ns))

-- a comma before a number
pub comma_before : (start : ℕ) (bytes text : List ℕ) → 1 ≤ start → start ≤ length bytes → drop start bytes ≡ text
    → drop (start - 1) (slice_set bytes (start - 1) 44) ≡ 44 ∷ text
comma_before start bytes text some within is =
    let at' : start - 1 + 1 ≡ start = omega arith in
    drop-set bytes (start - 1) 44 (omega arith) ∙ ap (λ n. 44 ∷ drop n bytes) at' ∙ ap (λ (rest : List ℕ). 44 ∷ rest) is
