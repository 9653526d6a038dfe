-- Prefixes of a text. No public contract cites this file.
use Rattle.std.specs.Prelude.{◌≢◌, ℕ, List, length}
use Rattle.table_text.specs.LineForms.{IsEntry, HasEntry}
use Rattle.table_text.specs.declared.lines.WindowLine.{WindowLine}
use Rattle.table_text.specs.declared.lines.WindowLine.TheVariants.{Malformed, OtherWindow, Entry}

-- the first line of the text, where the line of this window is expected
abbrev pub IsLine : List ℕ → List ℕ → WindowLine → Type 0
IsLine window text Malformed = ¬ HasEntry (length window) text
IsLine window text OtherWindow =
    (ids : List ℕ) × (channel : ℕ) × (rest : List ℕ) × IsEntry (length window) text ids channel rest × (ids ≢ window)
IsLine window text (Entry channel rest) = IsEntry (length window) text window channel rest.now
