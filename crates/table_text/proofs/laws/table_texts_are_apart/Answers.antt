use Rattle.table_text.proofs.TextsApart.{texts_apart}
use Rattle.table_text.proofs.laws.table_texts_are_apart.Goals as goal

pub returns : goal.returns
returns c = texts_apart
