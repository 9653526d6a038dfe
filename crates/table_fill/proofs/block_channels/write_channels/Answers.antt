use Rattle.std.proofs.Common.{◌≡◌, ◌+◌, ◌*◌, ◌<◌, [], length, get_or, take, subst, sym, ap, ◌∙◌, arith}
use Rattle.std.proofs.lemmas.List.{get_or-map, get_or-take, length-take-le}
use Rattle.node_program.specs.Node.{channel}
use Rattle.node_program.specs.Bounds.{register_bounds, IsWithin}
use Rattle.round_eval.specs.BlockStates.{block_len, window_numbered}
use Rattle.round_eval.specs.Line.{middle_state}
use Rattle.table_fill.proofs.Programs.{numbered_is_window}
use Rattle.table_fill.proofs.block_channels.write_channels.Goals as goal
use Rattle.win_index.specs.declared.limits.TheConstants.{BLOCK_WINDOWS}

pub returns-clause-channels : goal.returns-clause-channels
returns-clause-channels c =
    let plan = c.args.block.now.plan in
    let p = plan.program in
    let m = plan.ids in
    let t = length p.steps in
    let b = c.args.block.now.number in
    let states = c.args.states.now.states in
    let keyed = c.requires.block in
    let last : c.args.block.now.level ≡ t = keyed.1 ∙ sym (λ i. length (keyed.0 i).program.steps) in
    let held = rw last at c.requires.states.each in
    let wrote = rw (← keyed.0) at c.channel_columns.ensures in
    let new = c.channel_columns.new.out in
    let size : length (take (block_len m t b) new) ≡ block_len m t b =
    length-take-le (block_len m t b) new (omega (arith, c.channel_columns.auto.out, c.requires.room.1)) in
    rw (← keyed.0) (record {
      size = omega (arith, size);
      each = λ i lt.
          let inside : i < block_len m t b = omega (arith, lt, size) in
          let is = numbered_is_window m t (BLOCK_WINDOWS * b + i) (omega (arith, inside)) in
          let bound = c.windows_are_within.ensures p m t (window_numbered m t (BLOCK_WINDOWS * b + i)) is in
          let state : get_or states i []
          ≡ middle_state p t (window_numbered m t (BLOCK_WINDOWS * b + i)) = held i inside in
          let few : i < length states = omega (arith, inside, c.requires.states.wide.0) in
          rw (get_or-take (block_len m t b) new i 0 inside) (
            ap (λ cs. get_or cs i 0) wrote.channels ∙ get_or-map (channel p) states i [] 0 few ∙ ap (channel p) state,
            wrote.below i few (subst (λ s. IsWithin s (register_bounds p m t)) (sym state) bound),
          );
    })
