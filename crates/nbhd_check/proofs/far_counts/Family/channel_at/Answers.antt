use Rattle.std.proofs.Common.{◌<◌, length, ap, arith}
use Rattle.std.proofs.lemmas.Option.{slice_get_within}
use Rattle.channel_tables.specs.Tables.{windows_of}
use Rattle.nbhd_check.proofs.far_counts.Family.channel_at.Goals as goal

pub bounds-entries-number : goal.bounds-entries-number
bounds-entries-number c =
    let below = slice_get_within (windows_of c.args.self.table.now) c.args.number c.requires.0 c.requires.1 in
    omega (arith, below, c.entries.ensures.table.size, ap length c.entries.ensures.value)

pub returns-clause-few : goal.returns-clause-few
returns-clause-few c =
    let below = slice_get_within (windows_of c.args.self.table.now) c.args.number c.requires.0 c.requires.1 in
    let inside : c.args.number < length c.args.self.table.now.entries =
    omega (arith, below, c.entries.ensures.table.size) in
    rw (c.from.ensures, c.entries.ensures.value) (c.args.self.fit.limit c.args.number 0 inside)
