-- Short texts from which the lines of windows are made. No public contract cites this file.
use Rattle.std.specs.Prelude.{◌≡◌, ℕ, List, [], ◌∷◌, ◌++◌, take, map, length, codes}
use Rattle.std.specs.List.{range_with_len}
use Rattle.std.specs.Fmt.{decimal}
use Rattle.table_text.specs.declared.piece.Piece.{Piece}
use Rattle.table_text.specs.declared.piece.Pieces.{Pieces}
use Rattle.table_text.specs.declared.pieces.Kind.{Kind}
use Rattle.table_text.specs.declared.pieces.Kind.TheVariants.{Id, Channel}
use Rattle.table_text.specs.declared.line_prefix.LinePrefix.{LinePrefix}

-- the text of a piece
abbrev pub piece_text : Piece → List ℕ
piece_text piece = take piece.len piece.bytes

-- the text of a prefix
abbrev pub prefix_text : LinePrefix → List ℕ
prefix_text prefix = take prefix.len prefix.bytes

-- an identifier and a blank
abbrev pub id_text : ℕ → List ℕ
id_text id = decimal id ++ 32 ∷ []

-- the text after the identifiers of a line with this channel
abbrev pub channel_text : ℕ → List ℕ
channel_text channel = codes ": " ++ (decimal channel ++ 10 ∷ [])

abbrev pub text_of : Kind → ℕ → List ℕ
text_of Id = id_text
text_of Channel = channel_text

-- the piece at each index has the text of the index
abbrev pub AreTexts : (ℕ → List ℕ) → List Piece → Type 0
AreTexts text pieces = map piece_text pieces ≡ map text (range_with_len 0 (length pieces))

-- the pieces are those of so many identifiers and channels
pub record ArePieces (ids channels : ℕ) (pieces : Pieces) : Type 0 where
  pub ids_are : AreTexts id_text pieces.ids.items
  pub all_ids : length pieces.ids.items ≡ ids
  pub channels_are : AreTexts channel_text pieces.channels.items
  pub all_channels : length pieces.channels.items ≡ channels
