use Rattle.std.proofs.Common.{◌≡◌, ◌^◌, ◌<◌, ◌++◌, length, refl, ap, ◌∙◌, arith}
use Rattle.std.proofs.lemmas.List.Elements.{All-weaker}
use Rattle.std.proofs.lemmas.Option.{IfSome_then}
use Rattle.table_text.specs.Pieces.{AreTexts, piece_text, id_text}
use Rattle.table_text.specs.Odometers.{front_of, last_of, window_of}
use Rattle.table_text.proofs.Odometers.{window_below}
use Rattle.table_text.proofs.PieceTexts.{piece_at}
use Rattle.table_text.proofs.WrittenLines.{line_before}
use Rattle.table_text.proofs.lines.known_line.Goals as goal

pub returns : goal.returns
returns c =
    IfSome_then c.known_channel.result c.known_channel.ensures
    (λ read is.
    let o = c.args.odometer.now in
    let ids : AreTexts id_text c.deref-ids.result.now = rw c.deref-ids.ensures.value c.requires.texts.0 in
    let few = ap length c.deref.ensures.value in
    let piece : piece_text c.index-ids-last_id.result ≡ id_text (last_of o) =
    ap piece_text c.index-ids-last_id.is ∙ piece_at id_text c.deref-ids.result.now c.last_id.result _ ids
    (omega (arith, c.last_id.ensures.below, c.requires.odometer.1, ap length c.deref-ids.ensures.value))
    ∙ ap id_text c.last_id.ensures.last in
    record {
      size = refl;
      ids_fit = All-weaker (λ id. id < o.ids) (λ id. id < 2 ^ 32)
          (λ x lt. omega (arith, lt, c.requires.odometer.0.few)) (window_of o) (window_below o c.requires.odometer.0);
      channel_fits = omega (arith, is.0, few, c.requires.few);
      spelled = c.in_ok-more.ensures
          ∙ (λ i. c.requires.odometer.0.text i ++ (c.in_ok-end.ensures ∙ (λ j. piece j ++ is.1 j)) i)
          ∙ line_before (front_of o) (last_of o) read.0 read.1.now;
    })
