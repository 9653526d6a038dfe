use Rattle.std.proofs.Common.{◌≡◌, ◌+◌, ◌-◌, arith}
use Rattle.table_text.proofs.Odometers.{bucket_below}
use Rattle.table_text.proofs.odometer.Odometer.last_ids.Goals as goal

pub returns-clause-below : goal.returns-clause-below
returns-clause-below c =
    let o = c.args.self.now in
    let count : o.last + c.args.count - o.last ≡ c.args.count = omega arith in
    rw count (bucket_below o c.args.count c.requires.is c.requires.within)
