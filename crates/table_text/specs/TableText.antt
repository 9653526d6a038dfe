-- The text of a table and a separation in each of two versions. Each definition is a part of the text followed by the
-- rest. A number is in decimal without leading zeros, single blanks (byte 32) separate the words, and byte 10 ends each
-- line.
use Rattle.std.specs.Prelude.{ℕ, List, [], ◌∷◌, ◌++◌, codes}
use Rattle.std.specs.Fmt.{decimal}
use Rattle.channel_tables.specs.Tables.{ChannelTable, windows_of}
use Rattle.channel_tables.specs.declared.separation.Separation.{Separation}
use Rattle.table_text.specs.declared.version.Version.{Version}
use Rattle.table_text.specs.declared.version.Version.TheVariants.{One, Two}

-- the contents of a table text: a table and its separation, in one of the versions
pub record Written : Type 0 where
  pub version : Version
  pub table : ChannelTable
  pub separation : Separation

-- a table and a separation, in this version
abbrev pub written : Version → ChannelTable → Separation → Written
written version t s = record { version = version; table = t; separation = s }

-- the line of the version
abbrev pub title_then : Version → List ℕ → List ℕ
title_then One rest = codes "nbhd-table 1" ++ 10 ∷ rest
title_then Two rest = codes "nbhd-table 2" ++ 10 ∷ rest

-- the numbers of rounds, of identifiers and of channels, and the byte after them
abbrev pub counts_then : ℕ → ℕ → ℕ → ℕ → List ℕ → List ℕ
counts_then rounds ids channels end rest =
    codes "rounds " ++ (decimal rounds ++ 32
    ∷ (codes "ids " ++ (decimal ids ++ 32 ∷ (codes "channels " ++ (decimal channels ++ end ∷ rest)))))

-- the byte after the number of channels: it ends the line in version 1, and near and far follow it in version 2
abbrev pub counts_end : Version → ℕ
counts_end One = 10
counts_end Two = 32

-- near and far, which version 1 omits
abbrev pub distances_then : Version → Separation → List ℕ → List ℕ
distances_then One s rest = rest
distances_then Two s rest = codes "near " ++ (decimal s.near ++ 32 ∷ (codes "far " ++ (decimal s.far ++ 10 ∷ rest)))

-- the line of the numbers of rounds, identifiers and channels, and in version 2 of near and far
abbrev pub sizes_then : Version → ℕ → ℕ → ℕ → Separation → List ℕ → List ℕ
sizes_then version rounds ids channels s rest =
    counts_then rounds ids channels (counts_end version) (distances_then version s rest)

-- identifiers, each followed by a blank
abbrev pub ids_then : List ℕ → List ℕ → List ℕ
ids_then [] rest = rest
ids_then (id ∷ ids) rest = decimal id ++ 32 ∷ ids_then ids rest

-- the line of a window and its channel
abbrev pub entry_then : List ℕ → ℕ → List ℕ → List ℕ
entry_then window channel rest = ids_then window (codes ": " ++ (decimal channel ++ 10 ∷ rest))

-- a line for each channel and the window with its number; if there are fewer channels than windows, the last windows
-- have no line
abbrev pub entries_then : List (List ℕ) → List ℕ → List ℕ → List ℕ
entries_then windows [] rest = rest
entries_then [] (channel ∷ channels) rest = rest
entries_then (window ∷ windows) (channel ∷ channels) rest =
    entry_then window channel (entries_then windows channels rest)

-- the last line
abbrev pub end_then : List ℕ → List ℕ
end_then rest = codes "end" ++ 10 ∷ rest

-- the first two lines
abbrev pub head_then : Written → List ℕ → List ℕ
head_then w rest =
    title_then w.version (sizes_then w.version w.table.rounds w.table.ids w.table.channels w.separation rest)

-- the first two lines, and a line for each entry of the table
unfoldable pub lines_then : Written → List ℕ → List ℕ
lines_then w rest = head_then w (entries_then (windows_of w.table) w.table.entries rest)

-- those lines and the last line
unfoldable pub text_of : Written → List ℕ
text_of w = lines_then w (end_then [])

-- the text of a table and a separation, in version 2
abbrev pub table_text : ChannelTable → Separation → List ℕ
table_text t s = text_of (written Two t s)
