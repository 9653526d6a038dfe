use Rattle.table_text.proofs.Odometers.{later_below}
use Rattle.table_text.proofs.odometer.Odometer.last_id.Goals as goal

pub returns-clause-below : goal.returns-clause-below
returns-clause-below c =
    let o = c.args.self.now in
    later_below o.front o.ids o.last o.order c.requires.order c.requires.from c.requires.within
