use Rattle.std.proofs.Common.{length, sym, ◌∙◌, ap}
use Rattle.border_exchange.specs.declared.Side.TheVariants.{Rightward, Leftward}
use Rattle.border_exchange.specs.Segments.{RingSegment}
use Rattle.ring_core.specs.Machine.{BorderState}
use Rattle.ring_core.specs.MachinePromises.{sent_at}
use Rattle.ring_core.specs.Progress.{rightward_headings, leftward_headings}
use Rattle.ring_core.proofs.Readings.{same_border, values_are}
use Rattle.ring_core.proofs.world.World.sent.Goals as goal

pub returns-in-Rightward-clause-value : goal.returns-in-Rightward-clause-value
returns-in-Rightward-clause-value c =
    let m = c.args.self.now in
    let b = c.args.border in
    let size = c.sent.ensures.size ∙ c.part.ensures.rightward in
    values_are m b Rightward c.sent.result.now c.promises.ensures.messages c.requires size
    (λ k message at. c.sent.ensures.each k message at ∙ ap (λ (a : RingSegment). rightward_headings a k)
    c.part.ensures.segment)
    ∙ ap (sent_at m b) (sym c.in-Rightward.is)

pub returns-in-Leftward-clause-value : goal.returns-in-Leftward-clause-value
returns-in-Leftward-clause-value c =
    let m = c.args.self.now in
    let b = c.args.border in
    let next = rw c.count.ensures.value at c.part-in-Leftward.ensures.segment in
    let size = c.sent-in-Leftward.ensures.size ∙ (rw c.count.ensures.value at c.part-in-Leftward.ensures.leftward)
    ∙ ap (λ (border : BorderState). length border.leftward) (same_border m b c.requires) in
    values_are m b Leftward c.sent-in-Leftward.result.now c.promises.ensures.messages c.requires size
    (λ k message at. c.sent-in-Leftward.ensures.each k message at
    ∙ ap (λ (a : RingSegment). leftward_headings a k) next)
    ∙ ap (sent_at m b) (sym c.in-Leftward.is)
