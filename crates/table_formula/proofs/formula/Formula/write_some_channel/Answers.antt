use Rattle.std.proofs.Common.{◌<◌, ◌++◌, ◌∷◌, [], length, sym, ap, ◌∙◌, arith}
use Rattle.table_formula.specs.Problems.{Problem}
use Rattle.table_formula.proofs.Numbered.{some_more, take_set_more}
use Rattle.table_formula.proofs.formula.Formula.write_some_channel.Goals as goal

pub loop-channel-preserved : goal.loop-channel-preserved
loop-channel-preserved c =
    let channels = ap (λ (p : Problem). p.channels) c.self.view_is in
    let within : c.loop-channel.channel < length c.loop-channel.out =
    omega (arith, channels, c.loop-channel-test.true, c.requires.room, c.loop-channel.auto.out) in
    take_set_more c.loop-channel.out c.loop-channel.channel c.literal.result within
    ∙ (λ i. c.loop-channel.invariant i ++ c.literal.ensures i ∷ [])
    ∙ sym (some_more c.args.self.now c.args.window c.loop-channel.channel)
