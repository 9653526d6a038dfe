use Rattle.std.proofs.Common.{inr}
use Rattle.shared_memo.proofs.looks.learn_from.Goals as goal

pub returns-in-Ok-Some-clause-answer : goal.returns-in-Ok-Some-clause-answer
returns-in-Ok-Some-clause-answer c =
    let answer = rw c.in-Ok-Some.field-0-is at c.in-Ok-Some.ensures in
    (answer.0, inr (c.in-Ok-Some.known, answer.1, c.learn.ensures.joined))
