use Rattle.std.proofs.Common.{length, length-take, length-take-le, take, arith}
use Rattle.win_index.proofs.Windows.{window_within}
use Rattle.table_text.proofs.odometer.write_order.Goals as goal

pub slice_bounds-copy_from_slice-end : goal.slice_bounds-copy_from_slice-end
slice_bounds-copy_from_slice-end c =
    omega (
      arith,
      window_within _ _ c.args.window.now c.requires.window,
      length-take-le c.args.ids c.args.order.now c.requires.ids.0,
    )

pub slice_bounds-copy_from_slice-end-2 : goal.slice_bounds-copy_from_slice-end-2
slice_bounds-copy_from_slice-end-2 c =
    omega (
      arith,
      window_within _ _ c.args.window.now c.requires.window,
      length-take-le c.args.ids c.args.order.now c.requires.ids.0,
      length-take (length c.args.window.now) (take c.args.ids c.args.order.now),
    )

pub copy_from_slice-requires : goal.copy_from_slice-requires
copy_from_slice-requires c =
    omega (
      arith,
      window_within _ _ c.args.window.now c.requires.window,
      length-take-le c.args.ids c.args.order.now c.requires.ids.0,
      length-take (length c.args.window.now) (take c.args.ids c.args.order.now),
    )
