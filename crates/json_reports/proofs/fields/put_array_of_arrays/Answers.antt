use Rattle.std.proofs.Common.{map}
use Rattle.json_reports.specs.Values.{numbers}
use Rattle.json_reports.proofs.Closings.{puts_array}
use Rattle.json_reports.proofs.fields.put_array_of_arrays.Goals as goal

pub returns : goal.returns
returns c =
    puts_array c.end_array.result _ _ _ _ (map numbers (map (λ list. list.items) c.args.lists.now))
    c.in_ok-begin_array.ensures c.in_ok-put_arrays.ensures c.end_array.ensures
