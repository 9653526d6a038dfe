use Rattle.json_reports.specs.Json.{entries_of}
use Rattle.json_reports.proofs.Closings.{puts_array}
use Rattle.json_reports.proofs.noes.put_pattern.Goals as goal

pub returns : goal.returns
returns c =
    puts_array c.end_array.result _ _ _ _ (entries_of c.args.pattern)
    c.in_ok-begin_array.ensures c.in_ok-put_entries.ensures c.end_array.ensures
