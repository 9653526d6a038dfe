use Rattle.std.proofs.Common.{◌+◌, ◌*◌}
use Rattle.nbhd_check.proofs.Ends.{window_moved}
use Rattle.nbhd_check.proofs.far_counts.Family.numbers_of.Goals as goal

pub number_after-requires : goal.number_after-requires
number_after-requires c =
    (window_moved (2 * c.args.self.table.now.rounds + 1) c.args.self.table.now.ids c.args.first c.args.second
    c.args.self.shared.now c.requires).0

pub number_after-requires-2 : goal.number_after-requires-2
number_after-requires-2 c =
    (window_moved (2 * c.args.self.table.now.rounds + 1) c.args.self.table.now.ids c.args.first c.args.second
    c.args.self.shared.now c.requires).1
