use Rattle.std.proofs.Common.{◌≡◌, List, ℕ, sym, subst, ◌∙◌, rules}
use Rattle.devices.specs.Watched.{device_of, has_failed}
use Rattle.reports.specs.Findings.{answer_of}
use Rattle.reports.specs.Written.{WritesBytes}
use Rattle.json_reports.specs.Json.{json_bytes}
use Rattle.json_reports.specs.Reports.{note_of}
use Rattle.json_reports.proofs.ReadBack.{on_ok}
use Rattle.json_reports.proofs.Objects.{answer_bytes, answer_read}
use Rattle.json_reports.proofs.writing.write_json.Goals as goal

pub returns-in_ok-text-in-Answer-clause-writes : goal.returns-in_ok-text-in-Answer-clause-writes
returns-in_ok-text-in-Answer-clause-writes g c =
    let report = c.args.report in
    let answer = c.in-Answer.answer in
    let text : c.deref.result.now ≡ json_bytes report.text.now (answer_of answer) (note_of report) =
    c.deref.ensures.value ∙ c.in_ok-text-in-Answer.ensures.text
    ∙ sym (answer_bytes report.text.now answer (note_of report)) in
    let before = g.W.Write.contents (device_of c.args.writer.now) in
    let after = g.W.Write.contents (device_of c.send.new.writer) in
    let failed = has_failed c.send.new.writer in
    let sent : WritesBytes c.deref.result.now before after failed c.send.result = search rules in
    rw c.in-Answer.is (subst (λ (bytes : List ℕ). WritesBytes bytes before after failed c.send.result) text sent)

pub returns-in_ok-text-in-Answer-clause-reads : goal.returns-in_ok-text-in-Answer-clause-reads
returns-in_ok-text-in-Answer-clause-reads g c =
    let report = c.args.report in
    rw c.in-Answer.is (on_ok c.send.result (answer_read report.text.now c.in-Answer.answer (note_of report) c.in_ok-text-in-Answer.ensures.read))
