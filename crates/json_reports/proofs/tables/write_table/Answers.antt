use Rattle.std.proofs.Common.{◌≡◌, ◌++◌, List, ℕ, drop, subst, ◌∙◌, arith, rules}
use Rattle.devices.specs.Watched.{device_of, has_failed}
use Rattle.reports.specs.Written.{WritesBytes}
use Rattle.json_reports.specs.TableTexts.{rest_text, table_json}
use Rattle.json_reports.proofs.ReadBack.{on_ok}
use Rattle.json_reports.proofs.TableParts.{table_is}
use Rattle.json_reports.proofs.TableRead.{table_is_read}
use Rattle.json_reports.proofs.tables.write_table.Goals as goal

pub returns-clause-writes : goal.returns-clause-writes
returns-clause-writes g c =
    let report = c.args.report.now in
    let parts = c.deref.result.now ++ rest_text (drop 1 c.entries.result.now) in
    let is : parts ≡ table_json report.table report.separation =
    (λ i. (c.deref.ensures.value ∙ c.in_ok-head.ensures) i ++ rest_text (drop 1 (c.entries.ensures.value i)))
    ∙ table_is report.table report.separation in
    let before = g.W.Write.contents (device_of c.args.writer.now) in
    let after = g.W.Write.contents (device_of c.write_parts.new.writer) in
    let failed = has_failed c.write_parts.new.writer in
    let sent : WritesBytes parts before after failed c.write_parts.result = search rules in
    subst (λ (bytes : List ℕ). WritesBytes bytes before after failed c.write_parts.result) is sent

pub returns-clause-reads : goal.returns-clause-reads
returns-clause-reads g c =
    let report = c.args.report.now in
    on_ok c.write_parts.result
    (table_is_read report.table report.separation c.entries.ensures.table (omega (arith, report.in_range.small_near)) (omega (arith, report.in_range.small_far)))
