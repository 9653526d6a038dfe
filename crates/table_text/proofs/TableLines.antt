-- The lines of a begun table, and one more line.
use Rattle.std.proofs.Common.{◌≡◌, ℕ, ◌<◌, ◌≤◌, List, [], ◌∷◌, ◌++◌, Some, length, slice_get, ◌+◌, sym, ap, ◌∙◌}
use Rattle.std.proofs.Common.{arith, length-append}
use Rattle.std.specs.Prelude.{codes}
use Rattle.std.specs.Fmt.{decimal}
use Rattle.std.proofs.lemmas.List.Elements.{All-cons, All-nil}
use Rattle.channel_tables.specs.Tables.{ChannelTable, IsBegun, windows_of}
use Rattle.channel_tables.specs.declared.separation.Separation.{Separation}
use Rattle.channel_tables.proofs.Tables.{begun_with}
use Rattle.table_text.specs.declared.version.Version.{Version}
use Rattle.table_text.specs.declared.version.Version.TheVariants.{One, Two}
use Rattle.table_text.specs.TableText.{Written, written, title_then, counts_then, counts_end, distances_then}
use Rattle.table_text.specs.TableText.{sizes_then, ids_then, entry_then, entries_then, end_then, head_then, lines_then}
use Rattle.table_text.specs.Faults.{IsMalformed, no_title, no_sizes, no_entry, no_end, bytes_after}

-- a table with one more entry
abbrev pub with_entry : ChannelTable → ℕ → ChannelTable
with_entry t channel = record t { entries = t.entries ++ channel ∷ [] }

-- the lines with one more entry are the lines before, followed by that of the next window
pub entries_more : (windows : List (List ℕ)) (channels window : List ℕ) (channel : ℕ) (rest : List ℕ)
    → slice_get windows (length channels) ≡ Some window
    → entries_then windows (channels ++ channel ∷ []) rest
    ≡ entries_then windows channels (entry_then window channel rest)
entries_more [] channels window channel rest next = absurd (cc)
entries_more (w ∷ windows) [] window channel rest next = ap (λ x. entry_then x channel rest) (cc)
entries_more (w ∷ windows) (c ∷ channels) window channel rest next =
    ap (entry_then w c) (entries_more windows channels window channel rest next)

pub lines_more : (version : Version) (t : ChannelTable) (s : Separation) (text here window : List ℕ)
    (channel : ℕ) (rest : List ℕ)
    → text ≡ lines_then (written version t s) here → slice_get (windows_of t) (length t.entries)
    ≡ Some window → here ≡ entry_then window channel rest
    → text ≡ lines_then (written version (with_entry t channel) s) rest
unfolding lines_then
lines_more version t s text here window channel rest read next line =
    read ∙ ap (λ l. head_then (written version t s) (entries_then (windows_of t) t.entries l)) line
    ∙ ap (λ l. head_then (written version t s) l) (sym (entries_more (windows_of t) t.entries window channel rest next))

-- a begun table with one more entry
pub begun_more : (t : ChannelTable) (channel : ℕ) → IsBegun t → length t.entries < length (windows_of t) →
    channel < t.channels
    → IsBegun (with_entry t channel)
begun_more t channel begun room below =
    begun_with t (channel ∷ []) begun (omega (arith, room))
    (All-cons (λ c. c < t.channels) channel [] below (All-nil (λ c. c < t.channels)))

-- the text after a field is no longer than the whole text
field_length : (name : List ℕ) (number end : ℕ) (rest : List ℕ) →
    length rest ≤ length (name ++ (decimal number ++ end ∷ rest))
field_length name number end rest =
    omega (arith, length-append name (decimal number ++ end ∷ rest), length-append (decimal number) (end ∷ rest))

ids_length : (ids rest : List ℕ) → length rest ≤ length (ids_then ids rest)
ids_length [] rest = omega arith
ids_length (id ∷ ids) rest = omega (arith, ids_length ids rest, length-append (decimal id) (32 ∷ ids_then ids rest))

entries_length : (windows : List (List ℕ)) (channels rest : List ℕ) →
    length rest ≤ length (entries_then windows channels rest)
entries_length windows [] rest = omega arith
entries_length [] (c ∷ channels) rest = omega arith
entries_length (w ∷ windows) (c ∷ channels) rest =
    let more = entries_then windows channels rest in
    omega (
      arith,
      entries_length windows channels rest,
      field_length (codes ": ") c 10 more,
      ids_length w (codes ": " ++ (decimal c ++ 10 ∷ more)),
    )

counts_length : (rounds ids channels end : ℕ) (rest : List ℕ) →
    length rest ≤ length (counts_then rounds ids channels end rest)
counts_length rounds ids channels end rest =
    let third = codes "channels " ++ (decimal channels ++ end ∷ rest) in
    let second = codes "ids " ++ (decimal ids ++ 32 ∷ third) in
    omega (
      arith,
      field_length (codes "channels ") channels end rest,
      field_length (codes "ids ") ids 32 third,
      field_length (codes "rounds ") rounds 32 second,
    )

distances_length : (version : Version) (s : Separation) (rest : List ℕ) →
    length rest ≤ length (distances_then version s rest)
distances_length One s rest = omega arith
distances_length Two s rest =
    let second = codes "far " ++ (decimal s.far ++ 10 ∷ rest) in
    omega (arith, field_length (codes "far ") s.far 10 rest, field_length (codes "near ") s.near 32 second)

sizes_length : (version : Version) (rounds ids channels : ℕ) (s : Separation) (rest : List ℕ)
    → length rest ≤ length (sizes_then version rounds ids channels s rest)
sizes_length version rounds ids channels s rest =
    omega (
      arith,
      distances_length version s rest,
      counts_length rounds ids channels (counts_end version) (distances_then version s rest),
    )

pub title_length : (version : Version) (rest : List ℕ) → length (title_then version rest) ≡ 13 + length rest
title_length One rest = omega arith
title_length Two rest = omega arith

lines_length : (w : Written) (rest : List ℕ) → length rest ≤ length (lines_then w rest)
unfolding lines_then
lines_length w rest =
    let t = w.table in
    let entries = entries_then (windows_of t) t.entries rest in
    omega (
      arith,
      entries_length (windows_of t) t.entries rest,
      sizes_length w.version t.rounds t.ids t.channels w.separation entries,
      title_length w.version (sizes_then w.version t.rounds t.ids t.channels w.separation entries),
    )

-- the text from a line that does not have its form is no longer than the whole text
pub rest_within : (text rest : List ℕ) → IsMalformed text rest → length rest ≤ length text
rest_within text rest (no_title same none) = omega (arith, ap length same)
rest_within text rest (no_sizes version same none) = omega (arith, ap length same, title_length version rest)
rest_within text rest (no_entry w within none) = omega (arith, ap length within.before, lines_length w rest)
rest_within text rest (no_end w is same none) = omega (arith, ap length same, lines_length w rest)
rest_within text rest (bytes_after w is same more) = omega (arith, ap length same, lines_length w (end_then rest))
