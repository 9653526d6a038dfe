use Rattle.source_text.specs.Kinds.{kind_by_beginning}
use Rattle.source_text.proofs.first_lines.kind_by_beginning.Goals as goal

pub returns : goal.returns
unfolding kind_by_beginning
returns c = c.by_beginning.ensures
