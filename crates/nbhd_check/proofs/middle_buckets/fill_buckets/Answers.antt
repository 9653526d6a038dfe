use Rattle.std.proofs.Common.{◌+◌, ◌∙◌, arith}
use Rattle.std.proofs.Math.Nat.{mul-le-mul_right}
use Rattle.std.proofs.lemmas.Option.{get_or_from_slice_get, slice_get_within}
use Rattle.nbhd_check.specs.Buckets.{wide}
use Rattle.nbhd_check.proofs.MiddleSteps.{known_part}
use Rattle.nbhd_check.proofs.middle_buckets.fill_buckets.Goals as goal

pub for_each_chunk_mut-requires-clause-accepts : goal.for_each_chunk_mut-requires-clause-accepts
for_each_chunk_mut-requires-clause-accepts g c κs κs_f start part chunk =
    (c.requires.rounds, omega (arith, mul-le-mul_right (wide c.args.table.now) chunk.in_bounds, c.requires.room))

pub returns-clause-buckets : goal.returns-clause-buckets
returns-clause-buckets g c i middle item =
    let lt = slice_get_within _ i middle item in
    let call = (c.for_each_chunk_mut.ensures.by_index i middle (omega (arith, lt))).1 in
    known_part c.args.table.now call.start call.offset (0 + i) call.after_call.now middle call.call.1
    (omega (arith, call.offset_in_chunk, call.call.0))
    (omega (arith, call.start_plus_offset)) (call.new_element ∙ get_or_from_slice_get _ i middle middle item)
