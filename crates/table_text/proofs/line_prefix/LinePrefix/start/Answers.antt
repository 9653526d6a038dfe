use Rattle.std.proofs.Common.{take, ap, ◌∙◌}
use Rattle.std.proofs.lemmas.List.{take-take}
use Rattle.table_text.specs.declared.line_prefix.TheConstants.{SHORT_LEN}
use Rattle.table_text.proofs.line_prefix.LinePrefix.start.Goals as goal

pub returns : goal.returns
returns c =
    let len = c.args.self.now.len in
    ap (take len) c.copy_from_slice.ensures.after ∙ take-take len SHORT_LEN c.args.self.now.bytes c.requires
