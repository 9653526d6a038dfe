-- What other crates cite of table texts. Of the files here they import this one alone.
use Rattle.std.proofs.Common.{◌≡◌, ℕ, ◌<◌, ◌≤◌, List, [], ◌∷◌, ◌++◌, Some, length, slice_get}
use Rattle.channel_tables.specs.Tables.{ChannelTable, IsBegun, windows_of}
use Rattle.channel_tables.specs.declared.separation.Separation.{Separation}
use Rattle.table_text.specs.declared.version.Version.{Version}
use Rattle.table_text.specs.TableText.{written, entry_then, lines_then}
use Rattle.table_text.specs.Faults.{IsMalformed}
use Rattle.table_text.proofs.TableLines

-- the lines of a begun table, followed by the line of the next entry, are those of the table with that entry
pub lines_more : (version : Version) (t : ChannelTable) (s : Separation) (text here window : List ℕ) (channel : ℕ)
    (rest : List ℕ)
    → text ≡ lines_then (written version t s) here → slice_get (windows_of t) (length t.entries) ≡ Some window
    → here ≡ entry_then window channel rest
    → text ≡ lines_then (written version (record t { entries = t.entries ++ channel ∷ [] }) s) rest
lines_more = TableLines.lines_more

-- a begun table with one more entry is begun
pub begun_more : (t : ChannelTable) (channel : ℕ) → IsBegun t → length t.entries < length (windows_of t)
    → channel < t.channels
    → IsBegun (record t { entries = t.entries ++ channel ∷ [] })
begun_more = TableLines.begun_more

-- the text from a line that does not have its form is no longer than the whole text
pub rest_within : (text rest : List ℕ) → IsMalformed text rest → length rest ≤ length text
rest_within = TableLines.rest_within
