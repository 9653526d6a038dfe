use Rattle.std.proofs.Common.{refl, rules}
use Rattle.table_text.proofs.Orders.{later_of_bucket}
use Rattle.table_text.proofs.odometer.Odometer.advance.Goals as goal

pub returns-then-self : goal.returns-then-self
returns-then-self c =
    let o = c.args.self.now in
    record {
      odometer = search rules;
      front = refl;
      ids = refl;
      later = later_of_bucket 1 o.front o.ids o.last o.order c.requires.is.order c.requires.is.from c.if-self.true;
    }
