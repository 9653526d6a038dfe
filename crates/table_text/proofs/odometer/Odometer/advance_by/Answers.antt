use Rattle.std.proofs.Common.{◌≡◌, ℕ, ◌+◌, ◌-◌, arith}
use Rattle.table_text.proofs.Orders.{later_of_bucket}
use Rattle.table_text.proofs.odometer.Odometer.advance_by.Goals as goal

pub returns : goal.returns
returns c =
    let o = c.args.self.now in
    let is = c.requires.is in
    let moved = c.advance.ensures in
    let passed : ℕ = c.args.count - 1 in
    record {
      odometer = moved.odometer;
      front = moved.front;
      ids = moved.ids;
      later = λ n item more.
          let all : n + passed + 1 ≡ n + c.args.count = omega arith in
          let last = later_of_bucket passed o.front o.ids o.last o.order is.order is.from (omega arith) n item
          (omega arith) in
          rw all at (moved.later (n + passed) last (omega arith));
    }
