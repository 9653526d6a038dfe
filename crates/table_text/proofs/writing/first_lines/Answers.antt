use Rattle.std.proofs.Common.{◌≡◌, [], length, arith, ap, rules}
use Rattle.std.specs.Prelude.{IfOk, string_bytes}
use Rattle.std.proofs.lemmas.Result.{IfOk-weaker}
use Rattle.table_text.specs.declared.version.Version.TheVariants.{Two}
use Rattle.table_text.specs.TableText.{written, head_then}
use Rattle.table_text.proofs.TextLimit.{any_head_short}
use Rattle.table_text.proofs.writing.first_lines.Goals as goal

pub returns-clause-short : goal.returns-clause-short
returns-clause-short c =
    let t = c.args.table.now in
    let s = c.args.separation in
    let head : IfOk c.format.result (λ text. string_bytes text ≡ head_then (written Two t s) []) = search rules in
    let begun = c.channels-channels.ensures.table.begun in
    let short = any_head_short t s [] begun (omega arith) (omega arith) in
    IfOk-weaker c.format.result _ _ (λ text is. omega (arith, ap length is, short)) head
