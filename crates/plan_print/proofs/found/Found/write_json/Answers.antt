use Rattle.std.proofs.Common.{List, ℕ, Option, sym, subst}
use Rattle.reports.specs.Findings.{value_of}
use Rattle.std.specs.Prelude.{option_map}
use Rattle.plan_print.specs.Formats.{IsNoteOf}
use Rattle.plan_print.proofs.Left.{json_writes, note_is}
use Rattle.plan_print.proofs.found.Found.write_json.Goals as goal

pub returns : goal.returns
returns g c =
    let input = c.args.self.now.input.now in
    let f = value_of c.args.self.now.finding.now in
    let note : Option (List ℕ) = option_map (λ n. n.now) c.in_ok-note.note in
    let is = subst (IsNoteOf input f) (sym c.in_ok-note.ensures.text)
    (note_is input f c.args.note.now c.requires.note c.in_ok-note.ensures.memory) in
    json_writes input f note _ _ _ c.write_json.result is c.write_json.ensures.writes c.write_json.ensures.reads
