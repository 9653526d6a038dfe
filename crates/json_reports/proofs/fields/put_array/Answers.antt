use Rattle.std.proofs.Common.{map}
use Rattle.json_reports.specs.Values.{numeral}
use Rattle.json_reports.proofs.Closings.{puts_array}
use Rattle.json_reports.proofs.fields.put_array.Goals as goal

pub returns : goal.returns
returns c =
    puts_array c.end_array.result _ _ _ _ (map numeral c.args.list.now)
    c.in_ok-begin_array.ensures c.in_ok-put_numerals.ensures c.end_array.ensures
