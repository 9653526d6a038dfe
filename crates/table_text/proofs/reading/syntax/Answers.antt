use Rattle.std.proofs.Common.{inr, arith}
use Rattle.table_text.proofs.TableLines.{rest_within}
use Rattle.table_text.proofs.reading.syntax.Goals as goal

pub overflow_sub-result : goal.overflow_sub-result
overflow_sub-result c = rest_within c.args.text.now c.args.rest.now c.requires.malformed

pub returns : goal.returns
returns c =
    let within = rest_within c.args.text.now c.args.rest.now c.requires.malformed in
    inr (c.requires.short, c.args.rest.now, c.requires.malformed, omega (arith, within))
