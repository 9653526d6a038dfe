use Rattle.std.proofs.Common.{◌++◌, ap, ◌∙◌, arith}
use Rattle.table_text.specs.Pieces.{piece_text, channel_text}
use Rattle.table_text.proofs.PieceTexts.{piece_at}
use Rattle.table_text.proofs.lines.known_channel.Goals as goal

pub returns : goal.returns
returns c =
    let piece = ap piece_text c.index-ends-channel.is
    ∙ piece_at channel_text c.args.ends.now c.guess-channel.result _ c.requires (omega arith) in
    (omega arith, c.in_ok-rest.ensures ∙ ap (λ text. text ++ c.in_ok-rest.rest.now) piece)
