use Rattle.std.proofs.Common.{rules, length, sym, ap, ◌∙◌, arith}
use Rattle.fill_core.specs.FillMachine.{Worker}
use Rattle.fill_core.proofs.FillViews.{Seen, seen}
use Rattle.fill_core.proofs.world.FillWorld.knows.Goals as goal

pub index-requires : goal.index-requires
index-requires c =
    let own : Seen c.self.inside.world.workers.items c.args.worker c.in-Some.hand.now = search (rules, seen) in
    let size = sym (ap (λ (v : Worker). length v.knows) own.is) ∙ c.self.invariant.marks c.args.worker own.inside in
    let inside = rw (c.shape.ensures.ids, c.shape.ensures.rounds) at c.in-Some-job_number.ensures.below in
    omega (arith, size, inside)
