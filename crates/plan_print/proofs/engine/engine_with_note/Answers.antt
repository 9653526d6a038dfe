use Rattle.std.proofs.Common.{ℕ, List, subst, sym, ◌∙◌, rules}
use Rattle.devices.specs.Input.{GivesInput}
use Rattle.devices.specs.Watched.{device_of}
use Rattle.reports.specs.Findings.{value_of}
use Rattle.plan_print.specs.Formats.{LeavesPrefix, WritesAll}
use Rattle.plan_print.specs.Notes.{IsNoteOn, IsFound}
use Rattle.plan_print.specs.Engine.{max_read, streams_of, LeavesOutput}
use Rattle.plan_print.specs.TaskReport.{IsReport}
use Rattle.plan_print.proofs.OfInput.{found}
use Rattle.plan_print.proofs.Left.{left_after}
use Rattle.plan_print.proofs.engine.engine_with_note.Goals as goal

-- The report and the note are on the input that was read.
pub returns : goal.returns
returns g c =
    let input : List ℕ = c.in_ok-input.input.items in
    let report = value_of c.in_ok-finding.finding in
    let read : GivesInput (g.R.Read.remaining (device_of c.args.reader.now))
    (g.R.Read.remaining (device_of c.read_input.new.reader)) (max_read c.args.request.task) input
    = search rules in
    record {
      report = record {
        report = record {
          input = input;
          read = read;
          report = report;
          is_report = subst (λ (input : List ℕ). IsReport c.args.request.task input report) c.deref.ensures.value c.in_ok-finding.ensures.report;
          written = subst (λ (input : List ℕ). WritesAll c.args.request.format input report (g.W.Write.contents (device_of c.args.writer.now))
              (g.W.Write.contents (device_of c.write.new.writer))) c.deref-2.ensures.value c.in_ok-note.ensures.writes.written;
          status_is = c.status-status.ensures;
        };
        note = subst (λ (input : List ℕ). IsNoteOn input report c.in_ok-note.note) c.deref-2.ensures.value c.in_ok-note.ensures.note;
      };
      left = tt;
      taken = tt;
      asked = search rules;
      threads = tt;
      failed = search rules;
    }

-- The input could not be read.
pub returns-in_err-input : goal.returns-in_err-input
returns-in_err-input g c = record {
  report = search rules;
  left = search rules;
  taken = search rules;
  asked = search rules;
  threads = search rules;
  failed = search rules;
}

-- A fault of writing leaves a prefix of the report, or nothing.
pub returns-in_err-note : goal.returns-in_err-note
returns-in_err-note g c =
    let input : List ℕ = c.in_ok-input.input.items in
    let report = value_of c.in_ok-finding.finding in
    let read : GivesInput (g.R.Read.remaining (device_of c.args.reader.now))
    (g.R.Read.remaining (device_of c.read_input.new.reader)) (max_read c.args.request.task) input
    = search rules in
    let is = subst (λ (input : List ℕ). IsReport c.args.request.task input report) c.deref.ensures.value c.in_ok-finding.ensures.report in
    let streams = streams_of g.R.Read.remaining g.W.Write.contents c.args.reader.now c.read_input.new.reader c.args.writer.now c.write.new.writer in
    let fault = c.in_err-note.field-0.0 in
    let prefix = subst (λ (input : List ℕ). LeavesPrefix c.args.request.format input report (g.W.Write.contents (device_of c.args.writer.now))
    (g.W.Write.contents (device_of c.write.new.writer)) fault) c.deref-2.ensures.value c.in_err-note.ensures.writes.left in
    let left : LeavesOutput c.args.request.format c.args.request.task streams fault =
    left_after c.args.request.format c.args.request.task streams input report fault read is prefix in
    record {
      report = search rules;
      left = search rules;
      taken = search rules;
      asked = search rules;
      threads = search rules;
      failed = search rules;
    }

-- What is found is of the input.
pub write-requires-clause-found : goal.write-requires-clause-found
write-requires-clause-found g c _ _ =
    let report = value_of c.in_ok-finding.finding in
    let is = found c.one_witness.ensures.places c.args.request.task c.requires.runnable c.deref.result.now report c.in_ok-finding.ensures.report in
    subst (λ (input : List ℕ). IsFound input report) (c.deref.ensures.value ∙ sym c.deref-2.ensures.value) is
