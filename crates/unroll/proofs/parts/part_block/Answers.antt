use Rattle.std.proofs.Common.{ℕ, ◌+◌, ◌*◌, ◌<◌, List, length, refl, arith}
use Rattle.std.proofs.lemmas.Option.{slice_get_within}
use Rattle.win_index.specs.Windows.{windows}
use Rattle.win_index.proofs.Windows.{number_of_some}
use Rattle.unroll.specs.Below.{part, IsPartNumber}
use Rattle.unroll.proofs.parts.part_block.Goals as goal

-- the number of a part is that of a window
inside_level : (m low n : ℕ) (w : List ℕ) → IsPartNumber m low w n → n < length (windows (2 * low + 1) m)
inside_level m low n w is =
    slice_get_within (windows (2 * low + 1) m) n (part w low is.offset) (number_of_some _ _ _ _ is.number_is)

pub known_block-requires : goal.known_block-requires
known_block-requires g c κs =
    let upper = c.args.upper in
    let inside = inside_level upper.plan.now.ids upper.below c.args.number _ c.requires.part in
    ((refl, tt), (c.requires.plan, ((omega (arith, upper.above), omega (arith, inside)), c.requires.last)))

pub returns : goal.returns
returns g c =
    let upper = c.args.upper in
    let inside = inside_level upper.plan.now.ids upper.below c.args.number _ c.requires.part in
    record {
      asked = c.in-Some.ensures.asked;
      found = record { block = c.in-Some.ensures.block; place = refl; inside = omega (arith, inside) };
      missing = tt;
    }

pub returns-in_default : goal.returns-in_default
returns-in_default g c =
    record {
      asked = c.in_default.ensures.asked;
      found = tt;
      missing = (
        record {
          one_lower = refl;
          place = c.args.index;
          inside = c.requires.inside;
          number = c.args.number;
          is_part = c.requires.part;
          block_is = refl;
        },
        c.in_default.ensures.block,
      );
    }
