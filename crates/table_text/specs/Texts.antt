-- The texts of tables and separations.
use Rattle.std.specs.Prelude.{◌≡◌, ℕ, List}
use Rattle.channel_tables.specs.Tables.{ChannelTable, IsBegun, IsTable}
use Rattle.channel_tables.specs.declared.separation.Separation.{Separation}
use Rattle.table_text.specs.declared.version.Version.{Version}
use Rattle.table_text.specs.TableText.{Written, written, text_of}
use Rattle.table_text.specs.LineForms.{IsSeparationOf}

-- a begun table, and a separation that a text of the version can give
pub record IsBegunText (w : Written) : Type 0 where
  pub begun : IsBegun w.table
  pub told : IsSeparationOf w.version w.separation

-- a table, and a separation that a text of the version can give
pub record IsWritten (w : Written) : Type 0 where
  pub table : IsTable w.table
  pub told : IsSeparationOf w.version w.separation

-- the text is that of the table and the separation, in one of the versions
abbrev pub IsTextOf : List ℕ → ChannelTable → Separation → Type 0
IsTextOf text t s =
    (version : Version) × IsWritten (written version t s)
    × (text ≡ text_of (written version t s))
