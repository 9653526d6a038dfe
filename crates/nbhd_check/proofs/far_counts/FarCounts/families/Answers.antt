use Rattle.std.proofs.Common.{arith}
use Rattle.nbhd_check.proofs.ThirdFamilies.{families_few}
use Rattle.nbhd_check.proofs.far_counts.FarCounts.families.Goals as goal

pub returns-clause-few : goal.returns-clause-few
returns-clause-few c =
    let t = c.args.self.table.now in
    let shape = c.shape-shape.ensures.table.begun.shape in
    let value = rw (c.rounds.ensures, c.shape-shape.ensures.rounds, c.shape-shape.ensures.ids) at c.count.ensures.value in
    omega (arith, value, families_few t c.args.self.some.0 shape.ids.enough, shape.few_windows)
