-- The forms of the lines of a table text. A form includes the byte 10 that ends its line.
use Rattle.std.specs.Prelude.{◌≡◌, ℕ, ◌^◌, ◌<◌, ◌≤◌, List, All, length}
use Rattle.node_program.specs.declared.limits.TheConstants.{MAX_CHANNELS}
use Rattle.win_index.specs.declared.limits.TheConstants.{MAX_ROUNDS}
use Rattle.win_index.specs.ShapeRange.{IsShape}
use Rattle.channel_tables.specs.declared.separation.Separation.{Separation}
use Rattle.table_text.specs.declared.version.Version.{Version}
use Rattle.table_text.specs.declared.version.Version.TheVariants.{One, Two}
use Rattle.table_text.specs.TableText.{title_then, sizes_then, entry_then, end_then}

-- the numbers of rounds, of identifiers and of channels of a table
pub record AreSizes (rounds ids channels : ℕ) : Type 0 where
  pub few_rounds : rounds ≤ MAX_ROUNDS
  pub shape : IsShape ids rounds
  pub some_channels : 1 ≤ channels
  pub few_channels : channels ≤ MAX_CHANNELS

-- near is 1 to MAX_CHANNELS, and far 0 to MAX_CHANNELS
pub record IsSeparation (s : Separation) : Type 0 where
  pub some_near : 1 ≤ s.near
  pub small_near : s.near ≤ MAX_CHANNELS
  pub small_far : s.far ≤ MAX_CHANNELS

-- a text of this version can give the separation: version 1 only near 1 and far 0, version 2 any
abbrev pub IsSeparationOf : Version → Separation → Type 0
IsSeparationOf One s = s ≡ record { near = 1; far = 0 }
IsSeparationOf Two s = IsSeparation s

-- the text begins with the first line of a version
abbrev pub HasTitle : List ℕ → Type 0
HasTitle text = (version : Version) × (rest : List ℕ) × (text ≡ title_then version rest)

-- the text begins with the second line of this version
abbrev pub HasSizes : Version → List ℕ → Type 0
HasSizes version text =
    (rounds : ℕ) × (ids : ℕ) × (channels : ℕ) × (s : Separation) × (rest : List ℕ) × AreSizes rounds ids channels
    × IsSeparationOf version s × (text ≡ sizes_then version rounds ids channels s rest)

-- the text is the first two lines of this version with these numbers and this separation, followed by the rest
pub record IsHead (version : Version) (text : List ℕ) (rounds ids channels : ℕ) (s : Separation)
    (rest : List ℕ) : Type 0 where
  pub sizes : AreSizes rounds ids channels
  pub told : IsSeparationOf version s
  pub lines : text ≡ title_then version (sizes_then version rounds ids channels s rest)

-- the text begins with the first two lines of a version, and they give these numbers of rounds and of identifiers
abbrev pub HasShape : List ℕ → ℕ → ℕ → Type 0
HasShape text rounds ids =
    (version : Version) × (channels : ℕ) × (s : Separation) × (rest : List ℕ)
    × IsHead version text rounds ids channels s rest

-- the text is the line of `width` identifiers and of a channel, each a number below 2^32, followed by the rest
pub record IsEntry (width : ℕ) (text ids : List ℕ) (channel : ℕ) (rest : List ℕ) : Type 0 where
  pub size : length ids ≡ width
  pub ids_fit : All (λ id. id < 2 ^ 32) ids
  pub channel_fits : channel < 2 ^ 32
  pub spelled : text ≡ entry_then ids channel rest

-- the text begins with such a line
abbrev pub HasEntry : ℕ → List ℕ → Type 0
HasEntry width text = (ids : List ℕ) × (channel : ℕ) × (rest : List ℕ) × IsEntry width text ids channel rest

-- the text begins with the last line
abbrev pub HasEnd : List ℕ → Type 0
HasEnd text = (rest : List ℕ) × (text ≡ end_then rest)
