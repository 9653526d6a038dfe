use Rattle.std.proofs.Common.{◌≡◌, ℕ, ◌<◌, List, ◌++◌, length, length-take, take, get_or, ap, sym, ◌∙◌, arith}
use Rattle.std.proofs.Common.{rules, append_assoc}
use Rattle.devices.specs.Output.{buffered_text}
use Rattle.table_text.specs.Pieces.{piece_text, id_text, channel_text, AreTexts}
use Rattle.table_text.specs.Sections.{bucket_lines}
use Rattle.table_text.proofs.PieceTexts.{piece_at}
use Rattle.table_text.proofs.BucketLines.{bucket_more}
use Rattle.table_text.proofs.sections.BucketLinesToBytes.store.Goals as goal

regroup : (a b c d e : List ℕ) → (((a ++ b) ++ c) ++ d) ++ e ≡ a ++ (b ++ (c ++ (d ++ e)))
regroup a b c d e = simp append_assoc

-- One more line is stored.
pub loop-index-preserved : goal.loop-index-preserved
loop-index-preserved c =
    let lines = c.args.self.now in
    let prefix = buffered_text lines.prefix in
    let j = c.loop-index.index in
    let inv = c.loop-index.invariant in
    let last_ids = lines.last_ids.now in
    let channels = lines.channels.now in
    let within : j < length channels = c.loop-index-test.true in
    let ids : AreTexts id_text c.deref-ids.result.now = search rules in
    let ends : AreTexts channel_text c.deref-ends.result.now = search rules in
    let last : buffered_text c.buffered.result ≡ id_text (get_or last_ids j 0) =
    c.buffered.ensures.text ∙ ap piece_text c.index-ids-self.is
    ∙ piece_at id_text c.deref-ids.result.now (get_or last_ids j 0) _ ids (search rules) in
    let end : buffered_text c.buffered-in-loop-index.result ≡ channel_text (get_or channels j 0) =
    c.buffered-in-loop-index.ensures.text ∙ ap piece_text c.index-ends-self.is
    ∙ piece_at channel_text c.deref-ends.result.now (get_or channels j 0) _ ends (search rules) in
    let first = c.write_buffered-end.ensures in
    let second = c.write_buffered-end-in-loop-index.ensures in
    let third = c.write_buffered-end-in-loop-index-2.ensures in
    record {
      from = omega (arith, inv.from, first.end, second.end, third.end);
      few = omega (
        arith,
        inv.few,
        first.end,
        second.end,
        third.end,
        length-take lines.prefix.len lines.prefix.buffer.now,
      );
      stored = third.text
          ∙ (λ i. (second.text ∙ (λ k. (first.text ∙ (λ m. inv.stored m ++ prefix)) k ++ last k)) i ++ end i)
          ∙ regroup (take c.args.start c.args.bytes.now)
          (bucket_lines prefix (take j last_ids) (take j channels)) prefix _ _
          ∙ ap (λ l. take c.args.start c.args.bytes.now ++ l)
          (sym (bucket_more j prefix last_ids channels (omega (arith, lines.count, within)) within));
    }
