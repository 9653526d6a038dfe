-- The lines of a table, written one after another.
use Rattle.std.proofs.Common.{◌≡◌, ℕ, zero, suc, add-one, ◌*◌, ◌+◌, ◌-◌, ◌<◌, ◌≤◌, drop, List, [], ◌∷◌, ◌++◌, Some}
use Rattle.std.proofs.Common.{length, take, get_or, slice_get, refl, sym, ap, ◌∙◌, arith, append_assoc}
use Rattle.std.specs.Fmt.{decimal}
use Rattle.std.specs.Int.{div_ceil}
use Rattle.std.specs.Prelude.{flat_map}
use Rattle.std.proofs.lemmas.Grind.{div_ceil_times}
use Rattle.std.proofs.Math.Nat.{suc-mul, zero-mul, mul-le-mul_right}
use Rattle.std.proofs.lemmas.List.{take-take, drop-take, length-take, length-drop, get_or-drop, drop-drop}
use Rattle.std.proofs.lemmas.List.{drop_all, take_all}
use Rattle.std.proofs.lemmas.Option.{none-some, same_Some, slice_get-get_or, slice_get_within, get_or_from_slice_get}
use Rattle.channel_tables.specs.Tables.{ChannelTable, windows_of}
use Rattle.channel_tables.specs.declared.separation.Separation.{Separation}
use Rattle.table_text.specs.declared.version.Version.TheVariants.{Two}
use Rattle.table_text.specs.TableText.{written, ids_then, entry_then, entries_then, end_then, head_then, lines_then}
use Rattle.table_text.specs.TableText.{text_of, table_text}
use Rattle.table_text.specs.Sections.{lines_from, AreFilled}
use Rattle.table_text.specs.Pieces.{id_text, channel_text}
use Rattle.table_text.proofs.TextsApart.{ids_append, entry_append, entries_append, head_append, lines_append}

-- one more identifier
pub ids_more : (ids : List ℕ) (id : ℕ) (rest : List ℕ) →
    ids_then (ids ++ id ∷ []) rest ≡ ids_then ids [] ++ (decimal id ++ 32 ∷ rest)
ids_more [] id rest = refl
ids_more (x ∷ ids) id rest = ap (λ l. decimal x ++ 32 ∷ l) (ids_more ids id rest)
    ∙ sym (append_assoc (decimal x) (32 ∷ ids_then ids []) (decimal id ++ 32 ∷ rest))

-- the line of a window, from its prefix, its last identifier and its channel
pub line_of_bucket : (front : List ℕ) (id channel : ℕ)
    → ids_then front [] ++ (id_text id ++ channel_text channel) ≡ entry_then (front ++ id ∷ []) channel []
line_of_bucket front id channel =
    sym (append_assoc (ids_then front []) (id_text id) (channel_text channel))
    ∙ ap (λ text. text ++ channel_text channel) (sym (ids_more front id []))
    ∙ ids_append (front ++ id ∷ []) [] (channel_text channel)

-- the same line, followed by a rest
pub line_before : (front : List ℕ) (id channel : ℕ) (rest : List ℕ)
    → ids_then front [] ++ (id_text id ++ (channel_text channel ++ rest)) ≡ entry_then (front ++ id ∷ []) channel rest
line_before front id channel rest =
    ap (λ l. ids_then front [] ++ l) (sym (append_assoc (id_text id) (channel_text channel) rest))
    ∙ sym (append_assoc (ids_then front []) (id_text id ++ channel_text channel) rest)
    ∙ ap (λ l. l ++ rest) (line_of_bucket front id channel)
    ∙ entry_append (front ++ id ∷ []) channel [] rest

-- the table with its first entries only
abbrev pub front_of : ChannelTable → ℕ → ChannelTable
front_of t n = record t { entries = take n t.entries }

-- one more line
pub entries_more : (j : ℕ) (ws : List (List ℕ)) (cs window : List ℕ) (channel : ℕ) → slice_get ws j ≡ Some window →
    slice_get cs j ≡ Some channel
    → entries_then ws (take (suc j) cs) [] ≡ entries_then ws (take j cs) [] ++ entry_then window channel []
entries_more j [] cs window channel at_w at_c = absurd (none-some window at_w)
entries_more j (w ∷ ws) [] window channel at_w at_c = absurd (none-some channel at_c)
entries_more zero (w ∷ ws) (c ∷ cs) window channel at_w at_c =
    rw (same_Some w window at_w, same_Some c channel at_c) refl
entries_more (suc j) (w ∷ ws) (c ∷ cs) window channel at_w at_c =
    ap (entry_then w c) (entries_more j ws cs window channel at_w at_c)
    ∙ sym (entry_append w c (entries_then ws (take j cs) []) (entry_then window channel []))

-- an item behind the first ones
pub dropped_at : {X : Type 0} (first j n : ℕ) (xs : List X) (x : X) → first + j ≡ n → slice_get xs n ≡ Some x →
    slice_get (drop first xs) j ≡ Some x
dropped_at first j n xs x here is =
    slice_get-get_or (drop first xs) j x (omega (arith, length-drop first xs, slice_get_within xs n x is, here))
    ∙ ap Some (get_or-drop first xs j x ∙ ap (λ k. get_or xs k x) here ∙ get_or_from_slice_get xs n x x is)

-- the lines of the first entries, followed by those of the others
entries_split :
    (n : ℕ) (ws : List (List ℕ)) (cs rest : List ℕ) → length cs ≤ length ws
    → entries_then ws cs rest ≡ entries_then ws (take n cs) (entries_then (drop n ws) (drop n cs) rest)
entries_split zero ws cs rest enough = refl
entries_split (suc n) ws [] rest enough = refl
entries_split (suc n) [] (c ∷ cs) rest enough = absurd (omega arith)
entries_split (suc n) (w ∷ ws) (c ∷ cs) rest enough = ap (entry_then w c) (entries_split n ws cs rest (omega arith))

-- the lines of one section more
pub section_more : (t : ChannelTable) (s : Separation) (first size : ℕ) → length t.entries ≤ length (windows_of t)
    → lines_then (written Two (front_of t first) s) [] ++ lines_from t first size
    ≡ lines_then (written Two (front_of t (first + size)) s) []
unfolding lines_then
section_more t s first size enough =
    let ws = windows_of t in
    let cs = take (first + size) t.entries in
    let short : length cs ≤ length ws = omega (arith, length-take (first + size) t.entries, enough) in
    let front : take first cs ≡ take first t.entries = take-take first (first + size) t.entries (omega arith) in
    let rest : drop first cs ≡ take size (drop first t.entries) = drop-take first size t.entries in
    lines_append (written Two (front_of t first) s) [] (lines_from t first size)
    ∙ ap (head_then (written Two t s))
    (sym (entries_split first ws cs [] short
    ∙ (λ i. entries_then ws (front i) (entries_then (drop first ws) (rest i) []))))

-- the text of a table begins with the lines of its first entries
pub lines_front : (t : ChannelTable) (s : Separation) (n : ℕ) → length t.entries ≤ length (windows_of t)
    → (more : List ℕ) × (lines_then (written Two (front_of t n) s) [] ++ more ≡ table_text t s)
unfolding text_of lines_then
lines_front t s n enough =
    let more = entries_then (drop n (windows_of t)) (drop n t.entries) (end_then []) in (
      more,
      lines_append (written Two (front_of t n) s) [] more
          ∙ ap (head_then (written Two t s)) (sym (entries_split n (windows_of t) t.entries (end_then []) enough)),
    )

-- all sections have all windows
pub sections_all : (section size count : ℕ) → 0 < size → div_ceil count size ≤ section → count ≤ section * size
sections_all section size count some le =
    omega (arith, (div_ceil_times count size some).0, mul-le-mul_right size le)

-- sections one after another
pub lines_join : (t : ChannelTable) (first n k : ℕ) → length t.entries ≤ length (windows_of t)
    → lines_from t first n ++ lines_from t (first + n) k ≡ lines_from t first (n + k)
lines_join t first n k enough =
    let ws = drop first (windows_of t) in
    let all = drop first t.entries in
    let cs = take (n + k) all in
    let short : length cs ≤ length ws =
    omega (arith, length-take (n + k) all, length-drop first t.entries, length-drop first (windows_of t), enough) in
    let front : take n cs ≡ take n all = take-take n (n + k) all (omega arith) in
    let rest : drop n cs ≡ take k (drop (first + n) t.entries) =
    drop-take n k all ∙ ap (take k) (drop-drop n first t.entries) in
    let behind : drop n ws ≡ drop (first + n) (windows_of t) = drop-drop n first (windows_of t) in
    entries_append ws (take n all) [] (lines_from t (first + n) k)
    ∙ sym (entries_split n ws cs [] short
    ∙ (λ i. entries_then ws (front i) (entries_then (behind i) (rest i) [])))

none_left : (cs : List ℕ) → entries_then [] cs [] ≡ []
none_left [] = refl
none_left (c ∷ cs) = refl

-- the chunks of sections, one after another, have the lines of all of them
pub filled_lines : (t : ChannelTable) (first size : ℕ) (chunks : List (List ℕ)) →
    length t.entries ≤ length (windows_of t) → AreFilled t first size chunks →
    flat_map (λ chunk. chunk) chunks ≡ lines_from t first (length chunks * size)
filled_lines t first size [] enough filled = sym (ap (lines_from t first) (zero-mul size))
filled_lines t first size (chunk ∷ chunks) enough filled =
    let own : chunk ≡ lines_from t first size =
    filled 0 [] (omega arith) ∙ ap (λ n. lines_from t n size) (omega arith) in
    let others = filled_lines t (first + size) size chunks enough
    (λ k d lt. filled (suc k) d (omega (arith, lt)) ∙ ap (λ n. lines_from t n size) (omega (arith, suc-mul k size))) in
    (λ i. own i ++ others i) ∙ lines_join t first size (length chunks * size) enough
    ∙ ap (lines_from t first) (omega (arith, suc-mul (length chunks) size))

-- the lines of the first windows, followed by those of the others and by a rest
pub lines_before : (t : ChannelTable) (n : ℕ) (end : List ℕ) → length t.entries ≤ length (windows_of t)
    → lines_from t 0 n ++ entries_then (drop n (windows_of t)) (drop n t.entries) end
    ≡ entries_then (windows_of t) t.entries end
lines_before t n end enough =
    entries_append (windows_of t) (take n t.entries) [] (entries_then (drop n (windows_of t)) (drop n t.entries) end)
    ∙ sym (entries_split n (windows_of t) t.entries end enough)

-- the lines of all windows, followed by a rest
pub lines_all : (t : ChannelTable) (n : ℕ) (end : List ℕ) → length t.entries ≤ n
    → lines_from t 0 n ++ end ≡ entries_then (windows_of t) t.entries end
lines_all t n end all =
    ap (λ cs. entries_then (windows_of t) cs [] ++ end) (take_all n t.entries all)
    ∙ entries_append (windows_of t) t.entries [] end

-- the first two lines, followed by the others
pub whole_text : (t : ChannelTable) (s : Separation)
    → head_then (written Two t s) [] ++ entries_then (windows_of t) t.entries (end_then []) ≡ table_text t s
unfolding text_of lines_then
whole_text t s = head_append (written Two t s) [] (entries_then (windows_of t) t.entries (end_then []))
