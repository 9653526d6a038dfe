-- The first fault of a text that is not the text of a table and a separation.
use Rattle.std.specs.Prelude.{◌≡◌, ◌≢◌, ◌⊎◌, ℕ, ◌+◌, ◌*◌, ◌<◌, ◌≤◌, List, [], Some, length, slice_get}
use Rattle.channel_tables.specs.Tables.{ChannelTable, windows_of}
use Rattle.table_text.specs.declared.version.Version.{Version}
use Rattle.table_text.specs.TableText.{Written, title_then, end_then, lines_then}
use Rattle.table_text.specs.Texts.{IsBegunText, IsWritten}
use Rattle.table_text.specs.LineForms.{HasTitle, HasSizes, IsEntry, HasEntry, HasEnd}
use Rattle.table_text.specs.declared.limits.TheConstants.{LONGEST_TABLE_TEXT}
use Rattle.table_text.specs.declared.fault.TableFault.{TableFault}
use Rattle.table_text.specs.declared.fault.TableFault.TheVariants.{Syntax, WrongWindow, ChannelTooLarge, OutOfMemory}

-- the text is the lines of a begun table that lacks an entry, followed by the rest
pub record IsWithin (text : List ℕ) (w : Written) (rest : List ℕ) : Type 0 where
  pub begun : IsBegunText w
  pub before : text ≡ lines_then w rest
  pub more : length w.table.entries < length (windows_of w.table)

-- the first line of the text that does not have its form begins at the rest
pub data IsMalformed (text rest : List ℕ) : Type 0 where
  no_title : rest ≡ text → (¬ HasTitle rest) → IsMalformed text rest
  no_sizes : (version : Version) → text ≡ title_then version rest → (¬ HasSizes version rest) → IsMalformed text rest
  no_entry : (w : Written) → IsWithin text w rest → (¬ HasEntry (2 * w.table.rounds + 1) rest) → IsMalformed text rest
  no_end : (w : Written) → IsWritten w → text ≡ lines_then w rest → (¬ HasEnd rest) → IsMalformed text rest
  bytes_after : (w : Written) → IsWritten w → text ≡ lines_then w (end_then rest) → rest ≢ [] → IsMalformed text rest

-- the lines of a begun table are followed by a line with these identifiers and this channel
abbrev pub HasNext : List ℕ → Written → List ℕ → ℕ → Type 0
HasNext text w ids channel =
    (here : List ℕ) × (rest : List ℕ) × IsWithin text w here × IsEntry (2 * w.table.rounds + 1) here ids channel rest

-- the identifiers are the next window of the begun table t
abbrev pub IsNextWindow : ChannelTable → List ℕ → Type 0
IsNextWindow t ids = slice_get (windows_of t) (length t.entries) ≡ Some ids

-- the lines are checked in order, and each by its form, then by its window, then by its channel. Two lines precede
-- those of the entries. OutOfMemory can replace any fault except that of the length
abbrev pub IsFault : List ℕ → TableFault → Type 0
IsFault text (Syntax offset) =
    ((LONGEST_TABLE_TEXT < length text) × (offset ≡ LONGEST_TABLE_TEXT))
    ⊎ ((length text ≤ LONGEST_TABLE_TEXT) × (rest : List ℕ) × IsMalformed text rest
    × (offset + length rest ≡ length text))
IsFault text (WrongWindow line) =
    (length text ≤ LONGEST_TABLE_TEXT)
    × (w : Written) × (ids : List ℕ) × (channel : ℕ) × HasNext text w ids channel × (¬ IsNextWindow w.table ids)
    × (line ≡ length w.table.entries + 3)
IsFault text (ChannelTooLarge line) =
    (length text ≤ LONGEST_TABLE_TEXT)
    × (w : Written) × (ids : List ℕ) × (channel : ℕ) × HasNext text w ids channel × IsNextWindow w.table ids
    × (w.table.channels ≤ channel) × (line ≡ length w.table.entries + 3)
IsFault text OutOfMemory = length text ≤ LONGEST_TABLE_TEXT
