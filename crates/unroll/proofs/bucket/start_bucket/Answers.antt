use Rattle.std.proofs.Common.{rules, ◌+◌, ◌*◌, take, refl, ◌∙◌, arith}
use Rattle.unroll.specs.Below.{part, IsPartNumber}
use Rattle.unroll.specs.Parts.{window_in}
use Rattle.unroll.proofs.Known.{asked_both, missing_later, own_entry, part_known, state_held}
use Rattle.win_index.proofs.Windows.{number_of_is}
use Rattle.unroll.proofs.NextBuckets.{middle_at, rest_of_prefix}
use Rattle.unroll.proofs.SameBucket.{first_grows}
use Rattle.unroll.proofs.bucket.start_bucket.Goals as goal

pub returns-in_err-middle : goal.returns-in_err-middle
returns-in_err-middle g c =
    missing_later _ c.from_residual-in_err-middle.ensures.1 c.in_ok-first.ensures.asked c.in_err-middle.ensures

pub part_block-requires : goal.part_block-requires
part_block-requires g c κs =
    let upper = c.args.upper in
    let w = window_in upper c.args.index in
    let at' = middle_at upper.plan.now.ids upper.below w c.args.prefix c.requires.here.has in
    let number = number_of_is _ _ c.args.prefix.middle (part w upper.below 1) at' in
    let is : IsPartNumber upper.plan.now.ids upper.below w c.args.prefix.middle =
    record { offset = 1; three = omega arith; number_is = number } in
    ((refl, tt), (search rules, (c.requires.here.is.inside, (is, search rules))))

pub returns : goal.returns
returns g c =
    let plan = c.args.upper.plan.now in
    let low = c.args.upper.below in
    let w = window_in c.args.upper c.args.index in
    let here = c.requires.here in
    let entries = g.S.Source.entries in
    let holds = c.in_ok-middle.ensures.found in
    let block = c.in_ok-middle.middle.now in
    let at' = middle_at plan.ids low w c.args.prefix here.has in
    let number = number_of_is (2 * low + 1) plan.ids c.args.prefix.middle (part w low 1) at' in
    let state = rw (holds.block.plan_is, holds.block.level_is) at c.state.ensures in
    record {
      asked = asked_both c.in_ok-first.ensures.asked c.in_ok-middle.ensures.asked;
      found = record {
        start_is = rw (c.shape-shape.ensures.ids, rest_of_prefix low w) at
            (c.last_bucket_start.ensures (take (2 * low + 2) w) (rw c.shape-shape.ensures.ids here.has));
        places_are = rw c.shape-shape.ensures.ids at
            (c.prefix_places.ensures w (rw c.shape-shape.ensures.ids here.is.window)
            (rw c.shape-shape.ensures.ids here.has));
        first_is = record {
          number_is = c.in_ok-first.ensures.found.number_is;
          first_is = first_grows plan (entries c.first_part.new.source) (entries c.part_block.new.source) low c.in_ok-middle.ensures.asked.grows c.in_ok-first.first c.in_ok-first.ensures.found.first_is;
        };
        middle_is = own_entry plan (entries c.part_block.new.source) low _ block holds.block;
        own_is = state.value ∙ state_held plan (entries c.part_block.new.source) low c.args.prefix.middle c.in_ok-middle.at block (part w low 1) holds at';
        own_cells = state.cells;
        own_known = part_known plan (entries c.part_block.new.source) low c.args.prefix.middle c.in_ok-middle.at 1 block w holds number;
      };
      missing = tt;
    }
