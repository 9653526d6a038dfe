use Rattle.std.proofs.Common.{◌≡◌, ◌+◌, ◌*◌, slice_get, Some, refl, arith}
use Rattle.win_index.specs.Windows.{windows}
use Rattle.win_index.proofs.Windows.{number_of_is}
use Rattle.unroll.specs.Below.{part, IsPartNumber}
use Rattle.unroll.specs.Parts.{window_in}
use Rattle.unroll.proofs.bucket.first_part.Given.{Over}
use Rattle.unroll.proofs.bucket.first_part.Goals.{After-first_part_number-number}
use Rattle.unroll.proofs.bucket.first_part.Goals as goal

-- the first part has the number
module _ (g : Over) (c : After-first_part_number-number g) where
  first_at : slice_get (windows (2 * c.args.upper.below + 1) c.args.upper.plan.now.ids) c.first_part_number-number.result ≡ Some (part (window_in c.args.upper c.args.index) c.args.upper.below 0)
  first_at =
      let m = c.args.upper.plan.now.ids in
      let low = c.args.upper.below in
      let here : slice_get (windows (2 * low + 3) m) (c.first_number.result + c.args.index)
      ≡ Some (window_in c.args.upper c.args.index) = grind (arith, c.first_number.ensures, c.requires.here.here) in
      rw c.shape-shape.ensures.ids at
      (c.first_part_number-number.ensures (window_in c.args.upper c.args.index)
      (rw c.shape-shape.ensures.ids here))

pub part_block-requires : goal.part_block-requires
part_block-requires g c κs =
    let number = number_of_is _ _ _ _ (first_at g (goal.at.part_block-requires g c).After-first_part_number-number) in
    let upper = c.args.upper in
    let is : IsPartNumber upper.plan.now.ids upper.below (window_in upper c.args.index) c.first_part_number-number.result =
    record { offset = 0; three = omega arith; number_is = number } in
    ((refl, tt), (c.requires.plan, (c.requires.here.inside, (is, tt))))
