use Rattle.std.proofs.Common.{◌≡◌, ℕ, ◌+◌, ◌-◌, ◌*◌, ◌≤◌, ◌++◌, length, ap, sym, ◌∙◌, arith, append_assoc}
use Rattle.std.proofs.Math.Nat.{mul-le-mul_right}
use Rattle.channel_tables.specs.Tables.{windows_of}
use Rattle.table_text.specs.Sections.{lines_from}
use Rattle.table_text.proofs.Odometers.{shows_later}
use Rattle.table_text.proofs.WrittenLines.{lines_join}
use Rattle.table_text.proofs.sections.Lines.store_next.Goals as goal

longer : (done count width : ℕ) → (done + count) * width ≡ done * width + count * width
longer done count width = omega arith

pub store_bucket-requires-clause-room : goal.store_bucket-requires-clause-room
store_bucket-requires-clause-room c =
    let t = c.args.self.table.now in
    let width : ℕ = 16 * t.rounds + 16 in
    let inv = c.loop-next.invariant in
    let done : ℕ = c.loop-next.next - c.args.first in
    let count : ℕ = c.min-count.result in
    let few : done + count ≤ c.args.self.size = omega (arith, inv.from, c.min-count.ensures) in
    omega (arith, inv.filled, c.requires.room, c.args.self.fits, mul-le-mul_right width few)

-- The lines of the rest of a bucket are stored, as far as they are of the section.
pub loop-next-preserved : goal.loop-next-preserved
loop-next-preserved c =
    let t = c.args.self.table.now in
    let inv = c.loop-next.invariant in
    let first = c.args.first in
    let next = c.loop-next.next in
    let count = c.min-count.result in
    let done : ℕ = next - first in
    let here : first + done ≡ next = omega arith in
    let more : next + count - first ≡ done + count = omega arith in
    let width : ℕ = 16 * t.rounds + 16 in
    let wide : (next + count - first) * width ≡ done * width + count * width =
    ap (λ n. n * width) more ∙ longer done count width in
    let enough : length t.entries ≤ length (windows_of t) = omega arith in
    let joined : lines_from t first done ++ lines_from t next count ≡ lines_from t first (next + count - first) =
    ap (λ n. lines_from t first done ++ lines_from t n count) (sym here) ∙ lines_join t first done count enough
    ∙ ap (lines_from t first) (sym more) in
    record {
      from = omega arith;
      within = omega (arith, c.min-count.ensures);
      shows = shows_later count t.rounds t.ids next c.loop-next.odometer c.advance_by.new.self inv.shows c.advance_by.ensures;
      stored = c.store_bucket.ensures.lines
          ∙ ap (λ l. l ++ lines_from t next count) inv.stored
          ∙ append_assoc c.args.chunk.now (lines_from t first done) (lines_from t next count)
          ∙ ap (λ l. c.args.chunk.now ++ l) joined;
      filled = omega (arith, inv.filled, c.store_bucket.ensures.filled, wide);
    }
