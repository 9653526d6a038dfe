-- Sections of the lines of a table. No public contract cites this file.
use Rattle.std.specs.Prelude.{◌≡◌, ℕ, ◌+◌, ◌*◌, ◌<◌, ◌≤◌, List, [], ◌∷◌, ◌++◌, length, take, drop, slice_index_or}
use Rattle.channel_tables.specs.Tables.{ChannelTable, windows_of}
use Rattle.table_text.specs.TableText.{entries_then}
use Rattle.table_text.specs.Odometers.{ShowsNumber}
use Rattle.table_text.specs.Pieces.{id_text, channel_text}
use Rattle.table_text.specs.declared.odometer.Odometer.{Odometer}

-- the odometer shows the table's window of this number, if there is one
abbrev pub Shows : ChannelTable → ℕ → Odometer → Type 0
Shows t = ShowsNumber t.rounds t.ids

-- the odometer shows the table's window of this number, and so many windows from that one on are of one bucket
pub record ShowsBucket (t : ChannelTable) (first count : ℕ) (o : Odometer) : Type 0 where
  pub shows : Shows t first o
  pub bucket : o.last + count ≤ o.ids
  pub within : first + count ≤ length (windows_of t)

-- the lines of this many windows from a number on, as far as there are so many
abbrev pub lines_from : ChannelTable → ℕ → ℕ → List ℕ
lines_from t first count = entries_then (drop first (windows_of t)) (take count (drop first t.entries)) []

-- a line for each of these identifiers and the channel at its place, each line with the same text before the identifier
abbrev pub bucket_lines : List ℕ → List ℕ → List ℕ → List ℕ
bucket_lines prefix ids [] = []
bucket_lines prefix [] (channel ∷ channels) = []
bucket_lines prefix (id ∷ ids) (channel ∷ channels) =
    prefix ++ (id_text id ++ (channel_text channel ++ bucket_lines prefix ids channels))

-- the chunks have no bytes
abbrev pub AreEmpty : List (List ℕ) → Type 0
AreEmpty chunks = (k : ℕ) (d : List ℕ) → k < length chunks → slice_index_or chunks k d ≡ []

-- chunk k has the lines of section k, if sections have this many windows and the first one begins with this window
abbrev pub AreFilled : ChannelTable → ℕ → ℕ → List (List ℕ) → Type 0
AreFilled t first size chunks =
    (k : ℕ) (d : List ℕ) → k < length chunks → slice_index_or chunks k d ≡ lines_from t (first + k * size) size
