use Rattle.std.proofs.Common.{◌∙◌}
use Rattle.json_reports.specs.Json.{answer_fields, note_fields}
use Rattle.json_reports.proofs.Closings.{noted_tokens}
use Rattle.json_reports.proofs.Objects.{answer_depth}
use Rattle.reports.specs.Findings.{answer_of}
use Rattle.std.specs.Prelude.{option_map}
use Rattle.json_reports.proofs.writing.answer_text.Goals as goal

pub returns : goal.returns
returns c =
    c.in_ok-ended.ensures _
    (c.in_ok-put_note.ensures.before ∙ c.in_ok-put_answer.ensures.before ∙ c.in_ok-begin_object.ensures.room.0
    ∙ c.new-writer.ensures.before ∙ c.new.ensures.items)
    (noted_tokens _ _ _ _ (answer_fields (answer_of c.args.answer.now)) (note_fields (option_map (λ n. n.now) c.args.note))
    c.new-writer.ensures.tokens c.in_ok-begin_object.ensures.ok c.in_ok-put_answer.ensures.ok c.in_ok-put_note.ensures.ok)
    (answer_depth c.args.answer.now (option_map (λ n. n.now) c.args.note))
