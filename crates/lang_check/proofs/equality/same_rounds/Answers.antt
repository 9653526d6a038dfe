use Rattle.std.proofs.Common.{arith}
use Rattle.std.proofs.lemmas.Bool.{false≢true}
use Rattle.node_program.specs.Term.{step_of}
use Rattle.lang_check.proofs.Images.{same_at}
use Rattle.lang_check.proofs.equality.same_rounds.Goals as goal

pub returns-then-not-same_round : goal.returns-then-not-same_round
returns-then-not-same_round c = (
  λ never. absurd (false≢true never),
  λ same.
      c.if-not-same_round.ensures.1
      (same_at step_of c.args.a.now c.args.b.now c.loop-i.i c.index-a-i.result c.index-b-i.result (omega arith)
      c.index-a-i.is c.index-b-i.is same),
)
