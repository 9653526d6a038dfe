use Rattle.std.proofs.Common.{◌∙◌}
use Rattle.source_text.proofs.Tables.{beside_found}
use Rattle.source_text.proofs.first_lines.by_beginning.Goals as goal

pub returns : goal.returns
returns c = c.beside_beginning.ensures ∙ beside_found c.args.line.now c.args.table.now
