use Rattle.std.proofs.Common.{ap, Err}
use Rattle.node_lang.specs.Faults as fault
use Rattle.node_lang.specs.declared.fault.FaultKind.TheVariants as kind
use Rattle.node_lang.proofs.Judging.{one_high_byte}
use Rattle.node_lang.proofs.text.parse.Goals as goal

pub returns-then-text-gt-LONGEST_TEXT-clause-fault : goal.returns-then-text-gt-LONGEST_TEXT-clause-fault
returns-then-text-gt-LONGEST_TEXT-clause-fault c _ = rw c.at.ensures (fault.too_long c.if-text-gt-LONGEST_TEXT.true)

pub returns-in-Some-clause-fault : goal.returns-in-Some-clause-fault
returns-in-Some-clause-fault c _ =
    rw c.at-in-Some.ensures (fault.not_ascii c.in-Some.offset c.if-text-gt-LONGEST_TEXT.false c.in-Some.ensures.found)

pub returns-in-Some-clause-not_ascii : goal.returns-in-Some-clause-not_ascii
returns-in-Some-clause-not_ascii c offset short first =
    rw c.at-in-Some.ensures (ap (λ n. Err (record { kind = kind.NotAscii; offset = n }))
    (one_high_byte c.args.text.now c.in-Some.offset offset c.in-Some.ensures.found first))
