use Rattle.std.proofs.Common.{◌≡◌, ℕ, ◌+◌, ◌*◌, ◌≤◌, List, [], ◌++◌, length, drop, refl, sym, ap, ◌∙◌, subst, arith}
use Rattle.std.proofs.Common.{rules, add-one}
use Rattle.std.specs.Prelude.{flat_map}
use Rattle.std.specs.Io.KnownBytes.{Appends}
use Rattle.std.proofs.Math.Nat.{suc-mul}
use Rattle.std.proofs.KnownBytes.{Appends-trans}
use Rattle.channel_tables.specs.Tables.{ChannelTable, windows_of}
use Rattle.devices.proofs.Writing.{on_err, sends_all, tells_front}
use Rattle.table_text.specs.TableText.{entries_then, end_then}
use Rattle.table_text.specs.declared.parallel.TheConstants.{CHUNKS}
use Rattle.table_text.specs.Sections.{lines_from, AreFilled}
use Rattle.table_text.proofs.WrittenLines.{filled_lines, lines_all, lines_before, lines_join, sections_all}
use Rattle.table_text.proofs.parallel.write_rest.Given.{Over}
use Rattle.table_text.proofs.parallel.write_rest.Goals.{After-send}
use Rattle.table_text.proofs.parallel.write_rest.Goals as goal

-- the lines of the parts so far, and the contents of the chunks
one_more : (t : ChannelTable) (part size n : ℕ) (chunks : List (List ℕ)) → length t.entries ≡ length (windows_of t) →
    length chunks ≡ CHUNKS → n ≡ size * CHUNKS → AreFilled t (part * n) size chunks
    → lines_from t 0 (part * n) ++ flat_map (λ chunk. chunk) chunks ≡ lines_from t 0 ((part + 1) * n)
one_more t part size n chunks full count n_is filled =
    let enough : length t.entries ≤ length (windows_of t) = omega (arith, full) in
    let first : 0 + part * n ≡ part * n = omega arith in
    let len : length chunks * size ≡ CHUNKS * size = ap (λ k. k * size) count in
    let turned : (part + 1) * n ≡ part * n + n = rw add-one (suc-mul part n) in
    ap (λ l. lines_from t 0 (part * n) ++ l) (filled_lines t (part * n) size chunks enough filled
    ∙ ap (λ k. lines_from t k (length chunks * size)) (sym first))
    ∙ lines_join t 0 (part * n) (length chunks * size) enough
    ∙ ap (lines_from t 0) (omega (arith, len, turned, n_is))

pub loop-part-preserved : goal.loop-part-preserved
loop-part-preserved g c =
    let more = one_more c.args.lines.table.now c.loop-part.part c.args.lines.size _ c.fill_chunks.new.chunks c.args.lines.full
    (c.fill_chunks.auto.chunks ∙ c.loop-part.invariant.count) refl c.fill_chunks.ensures in
    record {
      working = search rules;
      count = search rules;
      empty = c.in_ok-send_chunks.ensures.empty;
      sent = subst (Appends _ _) more
          (Appends-trans _ _ _ _ _ c.loop-part.invariant.sent c.in_ok-send_chunks.ensures.sent.ok);
    }

pub returns-in_err-send_chunks : goal.returns-in_err-send_chunks
returns-in_err-send_chunks g c =
    let t = c.args.lines.table.now in
    let n : ℕ = (c.loop-part.part + 1) * (c.args.lines.size * CHUNKS) in
    let rest = entries_then (drop n (windows_of t)) (drop n t.entries) (end_then []) in
    let more = one_more c.args.lines.table.now c.loop-part.part c.args.lines.size _ c.fill_chunks.new.chunks c.args.lines.full
    (c.fill_chunks.auto.chunks ∙ c.loop-part.invariant.count) refl c.fill_chunks.ensures in
    record {
      ok = search rules;
      front = on_err c.from_residual.result
          (tells_front _ _ _ _ _ _ rest (_, c.loop-part.invariant.sent, refl) c.in_err-send_chunks.ensures.sent.front
          (ap (λ l. l ++ rest) more ∙ lines_before t n (end_then []) (omega (arith, c.args.lines.full))));
      fault = search rules;
    }

module _ (g : Over) (c : After-send g) where
  all : lines_from c.args.lines.table.now 0 (c.loop-part.part * (c.args.lines.size * CHUNKS)) ++ end_then []
      ≡ entries_then (windows_of c.args.lines.table.now) c.args.lines.table.now.entries (end_then [])
  all =
      lines_all c.args.lines.table.now _ (end_then []) (omega (
        arith,
        c.args.lines.full,
        c.count.ensures.value,
        sections_all c.loop-part.part (c.args.lines.size * CHUNKS) c.count.result (omega (arith, c.args.lines.some))
            (rw c.div_ceil-part-end.ensures at c.loop-part-test.false),
      ))

pub returns : goal.returns
returns g c = sends_all _ _ _ _ _ _ c.send.result (_, c.loop-part.invariant.sent, all g c) c.send.ensures
