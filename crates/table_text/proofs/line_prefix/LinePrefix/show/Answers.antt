use Rattle.std.proofs.Common.{◌≡◌, ◌+◌, ◌<◌, [], ◌++◌, length, length-take-le, take, get_or, refl, sym, ap, ◌∙◌, arith}
use Rattle.std.proofs.Common.{add-zero, append-nil}
use Rattle.std.proofs.lemmas.List.{take_more, take-take, get_or-set_same}
use Rattle.table_text.specs.TableText.{ids_then}
use Rattle.table_text.specs.Pieces.{piece_text, id_text}
use Rattle.table_text.proofs.WrittenLines.{ids_more}
use Rattle.table_text.proofs.PieceTexts.{piece_at}
use Rattle.table_text.proofs.PrefixTexts.{same_front, texts_more}
use Rattle.table_text.proofs.line_prefix.LinePrefix.show.Goals as goal

-- The text of one identifier more is written.
pub loop-place-preserved : goal.loop-place-preserved
loop-place-preserved c =
    let front = c.args.front.now in
    let place = c.loop-place.place in
    let id = get_or front place 0 in
    let within : place < length front = c.loop-place-test.true in
    let inv = c.loop-place.invariant in
    let size = length-take-le place front (omega arith) in
    let piece : piece_text c.index-ids-front.result ≡ id_text id =
    ap piece_text c.index-ids-front.is
    ∙ piece_at id_text c.args.ids.now id _ c.requires.ids.0 (c.requires.ids.1 place 0 within) in
    let end = c.loop-place.len + c.index-ids-front.result.len in
    let room : place + 1 < length c.loop-place.self.ends = omega (arith, c.requires.short, inv.texts.room) in
    let kept : take c.loop-place.len c.write_at.new.bytes ≡ take c.loop-place.len c.loop-place.self.bytes =
    rw add-zero at (c.write_at.ensures.fronts 0 (omega arith)) ∙ append-nil _ in
    record {
      texts = texts_more c.loop-place.self.bytes c.loop-place.self.ends _ _ front place end inv.texts
          (record {
            within = within;
            room = room;
            set_is = refl;
            later = omega (arith, inv.end);
            few = omega (arith, inv.end, inv.texts.few place (omega (arith, size)), c.index-ids-front.result.short);
            same = λ i le. same_front c.loop-place.self.bytes c.loop-place.self.ends c.write_at.new.bytes
                (take place front) place i inv.texts le (omega (arith, size)) (rw (sym inv.end) kept);
            text = c.write_at.ensures.fronts _ (omega arith)
                ∙ (λ k. (ap (λ e. take e c.loop-place.self.bytes) inv.end
                ∙ inv.texts.each place (omega (arith, size))
                ∙ ap (λ l. ids_then l []) (take-take place place front (omega arith))) k ++ piece k)
                ∙ sym (ids_more (take place front) id [])
                ∙ ap (λ xs. ids_then xs []) (sym (take_more front place 0 within));
          });
      end = sym (get_or-set_same c.loop-place.self.ends (place + 1) end 0 room);
    }
