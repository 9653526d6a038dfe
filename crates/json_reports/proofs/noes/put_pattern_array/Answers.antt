use Rattle.std.proofs.Common.{map}
use Rattle.json_reports.specs.Json.{pattern_value}
use Rattle.json_reports.proofs.Closings.{puts_array}
use Rattle.json_reports.proofs.noes.put_pattern_array.Goals as goal

pub returns : goal.returns
returns c =
    puts_array c.end_array.result _ _ _ _ (map pattern_value c.args.patterns.now)
    c.in_ok-begin_array.ensures c.in_ok-put_each_pattern.ensures c.end_array.ensures
