use Rattle.std.proofs.Common.{◌≡◌}
use Rattle.source_text.specs.Lines.{after_lines}
use Rattle.source_text.proofs.lines.from_line.Given as goal

abbrev pub invariant-lines : goal.invariant-lines
invariant-lines l = l.rest ≡ after_lines l._line l.text
