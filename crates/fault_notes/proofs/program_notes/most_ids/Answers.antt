use Rattle.std.proofs.Common.{◌-◌, arith}
use Rattle.win_index.specs.declared.limits.TheConstants.{MAX_IDS}
use Rattle.fault_notes.proofs.MostIds.{shapes_between}
use Rattle.fault_notes.proofs.program_notes.most_ids.Goals as goal

pub returns-then-makes_shape-clause-most : goal.returns-then-makes_shape-clause-most
returns-then-makes_shape-clause-most c =
    let makes = c.makes_shape.ensures.0 c.if-makes_shape.true in
    record {
      makes = makes;
      greatest = λ m h s. c.fewer.invariant m (omega (arith, h)) s;
      between = λ m enough le. shapes_between c.count_of_windows.ensures c.args.rounds (MAX_IDS - c.fewer.fewer)
          m makes enough le;
    }
