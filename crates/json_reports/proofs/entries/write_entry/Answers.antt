use Rattle.std.proofs.Common.{◌≡◌, ◌^◌, ◌<◌, ◌≤◌, ◌++◌, ℕ, length, drop, ap, ◌∙◌, arith}
use Rattle.std.specs.Fmt.{decimal}
use Rattle.std.proofs.lemmas.Fmt.{length-decimal-le}
use Rattle.json_reports.proofs.EntryTexts.{comma_before}
use Rattle.json_reports.proofs.entries.write_entry.Goals as goal

-- A number of 16 bits has at most five digits.
five_digits : (number : ℕ) {entry : ℕ} → number ≡ entry → entry < 2 ^ 16 → length (decimal number) ≤ 5
five_digits number is below =
    length-decimal-le 5 number (omega arith) (omega (arith, is, below)) (omega (arith, is, below))

pub write_digits-start-requires : goal.write_digits-start-requires
write_digits-start-requires c =
    (omega (arith, five_digits c.from.result c.from.ensures c.ranges.entry.fits), omega (arith, c.told-cells))

pub overflow_sub-cells : goal.overflow_sub-cells
overflow_sub-cells c = omega (arith, c.write_digits-start.ensures.start, five_digits c.from.result c.from.ensures c.ranges.entry.fits)

pub overflow_sub-result : goal.overflow_sub-result
overflow_sub-result c = omega (arith, c.write_digits-start.ensures.start, five_digits c.from.result c.from.ensures c.ranges.entry.fits)

pub returns-clause-start : goal.returns-clause-start
returns-clause-start c =
    let same : length (decimal c.from.result) ≡ length (decimal c.args.entry) =
    ap (λ n. length (decimal n)) c.from.ensures in
    omega (arith, same, c.write_digits-start.ensures.start, five_digits c.from.result c.from.ensures c.ranges.entry.fits)

pub returns-clause-text : goal.returns-clause-text
returns-clause-text c =
    let start = c.write_digits-start.result in
    let bytes = c.write_digits-start.new.buf in
    let short = five_digits c.from.result c.from.ensures c.ranges.entry.fits in
    let digits : drop start bytes ≡ decimal c.args.entry ++ drop 6 c.args.cells.now =
    c.write_digits-start.ensures.written ∙ ap (λ n. decimal n ++ drop 6 c.args.cells.now) c.from.ensures in
    comma_before start bytes (decimal c.args.entry ++ drop 6 c.args.cells.now)
    (omega (arith, c.write_digits-start.ensures.start, short))
    (omega (arith, c.write_digits-start.ensures.start, c.told-cells, c.write_digits-start.auto.buf)) digits
