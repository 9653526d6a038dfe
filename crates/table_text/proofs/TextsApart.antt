-- No table text is a proper prefix of another.
use Rattle.std.proofs.Common.{◌≡◌, ℕ, List, [], ◌∷◌, ◌++◌, drop, refl, sym, ap, ◌∙◌, append_assoc}
use Rattle.std.specs.Prelude.{codes}
use Rattle.std.specs.Fmt.{decimal}
use Rattle.channel_tables.specs.Tables.{windows_of}
use Rattle.channel_tables.specs.declared.separation.Separation.{Separation}
use Rattle.table_text.specs.declared.version.Version.{Version}
use Rattle.table_text.specs.declared.version.Version.TheVariants.{One, Two}
use Rattle.table_text.specs.TableText.{Written, title_then, counts_then, counts_end, distances_then, sizes_then}
use Rattle.table_text.specs.TableText.{ids_then, entry_then, entries_then, end_then, head_then, lines_then, text_of}
use Rattle.table_text.specs.Laws.{TableTextsAreApart}
use Rattle.table_text.proofs.TablesOnce.{tables_once}

-- what is appended to a number and its rest is appended to the rest
field_append : (number end : ℕ) (rest more : List ℕ) →
    (decimal number ++ end ∷ rest) ++ more ≡ decimal number ++ end ∷ (rest ++ more)
field_append number end rest more = append_assoc (decimal number) (end ∷ rest) more

pub ids_append : (ids rest more : List ℕ) → ids_then ids rest ++ more ≡ ids_then ids (rest ++ more)
ids_append [] rest more = refl
ids_append (id ∷ ids) rest more =
    field_append id 32 (ids_then ids rest) more ∙ ap (λ l. decimal id ++ 32 ∷ l) (ids_append ids rest more)

pub entry_append : (window : List ℕ) (channel : ℕ) (rest more : List ℕ) →
    entry_then window channel rest ++ more ≡ entry_then window channel (rest ++ more)
entry_append window channel rest more =
    ids_append window (codes ": " ++ (decimal channel ++ 10 ∷ rest)) more
    ∙ ap (λ l. ids_then window (codes ": " ++ l)) (field_append channel 10 rest more)

pub entries_append : (windows : List (List ℕ)) (channels rest more : List ℕ)
    → entries_then windows channels rest ++ more ≡ entries_then windows channels (rest ++ more)
entries_append windows [] rest more = refl
entries_append [] (c ∷ channels) rest more = refl
entries_append (w ∷ windows) (c ∷ channels) rest more =
    entry_append w c (entries_then windows channels rest) more
    ∙ ap (entry_then w c) (entries_append windows channels rest more)

counts_append : (rounds ids channels end : ℕ) (rest more : List ℕ)
    → counts_then rounds ids channels end rest ++ more ≡ counts_then rounds ids channels end (rest ++ more)
counts_append rounds ids channels end rest more =
    let third = codes "channels " ++ (decimal channels ++ end ∷ rest) in
    let second = codes "ids " ++ (decimal ids ++ 32 ∷ third) in
    ap (λ l. codes "rounds " ++ l) (field_append rounds 32 second more)
    ∙ ap (λ l. codes "rounds " ++ (decimal rounds ++ 32 ∷ (codes "ids " ++ l))) (field_append ids 32 third more)
    ∙ ap (λ l. codes "rounds "
    ++ (decimal rounds ++ 32 ∷ (codes "ids " ++ (decimal ids ++ 32 ∷ (codes "channels " ++ l)))))
    (field_append channels end rest more)

distances_append : (version : Version) (s : Separation) (rest more : List ℕ) →
    distances_then version s rest ++ more ≡ distances_then version s (rest ++ more)
distances_append One s rest more = refl
distances_append Two s rest more =
    ap (λ l. codes "near " ++ l) (field_append s.near 32 (codes "far " ++ (decimal s.far ++ 10 ∷ rest)) more)
    ∙ ap (λ l. codes "near " ++ (decimal s.near ++ 32 ∷ (codes "far " ++ l))) (field_append s.far 10 rest more)

title_append : (version : Version) (rest more : List ℕ) →
    title_then version rest ++ more ≡ title_then version (rest ++ more)
title_append One rest more = refl
title_append Two rest more = refl

pub head_append : (w : Written) (rest more : List ℕ) → head_then w rest ++ more ≡ head_then w (rest ++ more)
head_append w rest more =
    let t = w.table in
    title_append w.version (sizes_then w.version t.rounds t.ids t.channels w.separation rest) more
    ∙ ap (title_then w.version)
    (counts_append t.rounds t.ids t.channels (counts_end w.version)
    (distances_then w.version w.separation rest) more
    ∙ ap (counts_then t.rounds t.ids t.channels (counts_end w.version))
    (distances_append w.version w.separation rest more))

-- what is appended to the lines of a table and their rest is appended to the rest
pub lines_append : (w : Written) (rest more : List ℕ) → lines_then w rest ++ more ≡ lines_then w (rest ++ more)
unfolding lines_then
lines_append w rest more =
    head_append w (entries_then (windows_of w.table) w.table.entries rest) more
    ∙ ap (head_then w) (entries_append (windows_of w.table) w.table.entries rest more)

pub texts_apart : TableTextsAreApart
unfolding text_of
texts_apart v w more p q same =
    let one = tables_once v w (end_then more) (end_then []) p q (sym (lines_append v (end_then []) more) ∙ sym same) in
    (one.0, ap (drop 4) one.1)
