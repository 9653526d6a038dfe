use Rattle.std.proofs.Common.{rules, ◌≡◌}
use Rattle.shared_memo.specs.Passes.{known}
use Rattle.unroll.specs.declared.fault.MakeFault.TheVariants.{Missing}
use Rattle.table_fill.proofs.Unknown.{fewer_after}
use Rattle.table_fill.proofs.cell_maker.CellMaker.+fill.Goals as goal

-- the block that was missing is known then
pub attempt-smaller : goal.attempt-smaller
attempt-smaller t c =
    let made = c.make.new.self in
    let low = c.in_ok-low-in-Err.low in
    let below = c.in_ok-low-in-Err.below in
    let plan = made.reader.pass.plan.now in
    let is : c.in-Err.fault ≡ Missing low below = search rules in
    let names = rw (is, ← c.make.ensures.goes_on.same_plan) at c.in-Err.ensures.missing in
    fewer_after c.jobs_have_numbers.ensures.at c.jobs_have_numbers.ensures.exact c.attempt.self.reader.pass.plan.now plan c.fill.new.self.reader.pass.plan.now
    (known c.attempt.self.reader.pass) (known made.reader.pass) (known c.fill.new.self.reader.pass) low below c.make.ensures.goes_on.same_plan
    c.fill.ensures.goes_on.same_plan c.make.ensures.goes_on.grows c.fill.ensures.goes_on.grows names.1 names.2 (search rules)
