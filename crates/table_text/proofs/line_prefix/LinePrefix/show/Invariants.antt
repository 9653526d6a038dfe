use Rattle.std.proofs.Common.{◌≡◌, take, get_or}
use Rattle.table_text.specs.Prefixes.{HasTexts}
use Rattle.table_text.proofs.line_prefix.LinePrefix.show.Given as goal

-- the texts of the identifiers so far are written
abbrev pub invariant-loop-place : goal.invariant-loop-place
invariant-loop-place l = record {
  texts : HasTexts l.self.bytes l.self.ends (take l.place l.front);
  end : l.len ≡ get_or l.self.ends l.place 0;
}
