-- Reports in JSON: their bytes, and that they can be read back.
use Rattle.std.specs.Prelude.{◌≡◌, ℕ, List, [], ◌∷◌, ◌++◌, Option, Some, option_map, ⊤}
use Rattle.json.specs.Json.{Json, document}
use Rattle.reports.specs.Findings.{Finding, value_of}
use Rattle.reports.specs.Findings as value
use Rattle.json_reports.specs.Json.{json_bytes, json_of}
use Rattle.json_reports.specs.Values.{Field, json_text, object_of}
use Rattle.json_reports.specs.declared.writing.Report.{Report}

-- a JSON reader finds the value in its text
abbrev pub IsRead : Json → Type 0
IsRead value = document (json_text value) ≡ Some value

-- a JSON reader finds in the report what was found in a text, with the note; a formula is not in JSON
abbrev pub IsReadBack : List ℕ → Finding → Option (List ℕ) → Type 0
IsReadBack text (value.formula p) noted = ⊤
IsReadBack text f noted = IsRead (json_of text f noted)

-- the bytes are the text of an object with these members and a line feed, and a JSON reader finds the object in the
-- text
pub record IsObject (fields : List Field) (bytes : List ℕ) : Type 0 where
  pub text : bytes ≡ json_text (object_of fields) ++ 10 ∷ []
  pub read : IsRead (object_of fields)

-- the note of a report
abbrev pub note_of : Report → Option (List ℕ)
note_of report = option_map (λ note. note.now) report.note

-- the bytes of a report
abbrev pub report_bytes : Report → List ℕ
report_bytes report = json_bytes report.text.now (value_of report.finding.now) (note_of report)

-- a JSON reader finds in a report what was found
abbrev pub IsReportRead : Report → Type 0
IsReportRead report = IsReadBack report.text.now (value_of report.finding.now) (note_of report)
