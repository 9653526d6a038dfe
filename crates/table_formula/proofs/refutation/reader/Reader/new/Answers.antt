use Rattle.std.proofs.Common.{◌==◌, length, ap, arith}
use Rattle.std.proofs.lemmas.List.Splits.{length-slice_split}
use Rattle.std.proofs.lemmas.List.Sums.{count_by-le-length}
use Rattle.table_formula.proofs.refutation.reader.Reader.new.Goals as goal

pub invariant_of-result : goal.invariant_of-result
invariant_of-result c =
    let text = c.args.text.now in
    record { countable = omega (arith, ap length c.new.ensures, length-slice_split (λ byte. byte == 10) text, count_by-le-length (λ byte. byte == 10) text) }
