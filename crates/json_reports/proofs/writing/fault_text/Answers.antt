use Rattle.std.proofs.Common.{◌∙◌}
use Rattle.json_reports.specs.Json.{fault_fields, note_fields}
use Rattle.json_reports.proofs.Closings.{noted_tokens}
use Rattle.json_reports.proofs.Objects.{fault_depth}
use Rattle.reports.specs.Findings.{fault_of}
use Rattle.std.specs.Prelude.{option_map}
use Rattle.json_reports.proofs.writing.fault_text.Goals as goal

pub returns : goal.returns
returns c =
    c.ended.ensures _
    (c.in_ok-put_note.ensures.before ∙ c.in_ok-put_fault.ensures.before ∙ c.in_ok-begin_object.ensures.room.0
    ∙ c.new-writer.ensures.before ∙ c.new.ensures.items)
    (noted_tokens _ _ _ _ (fault_fields c.args.text.now (fault_of c.args.fault.now)) (note_fields (option_map (λ n. n.now) c.args.note))
    c.new-writer.ensures.tokens c.in_ok-begin_object.ensures.ok c.in_ok-put_fault.ensures.ok c.in_ok-put_note.ensures.ok)
    (fault_depth c.args.text.now (fault_of c.args.fault.now) (option_map (λ n. n.now) c.args.note))
