use Rattle.std.proofs.Common.{ap, ◌∙◌}
use Rattle.win_index.specs.Arcs.{window_around}
use Rattle.reports.proofs.TableLines.{no_channel, same_shape}
use Rattle.reports.proofs.ring_channels.channel_of_place.Goals as goal

pub unreachable-requires : goal.unreachable-requires
unreachable-requires c =
    let ring = c.args.ring.now.places in
    let rounds = c.rounds-rounds.ensures ∙ c.shape.ensures.rounds in
    no_channel c.tables_have_channels.ensures c.args.table.now ring c.window_at.new.out c.args.place
    (same_shape _ _ c.args.table.now ring c.requires.ids c.requires.rounds c.window_at.ensures.valid) c.requires.place
    (c.window_at.ensures.window ∙ ap (λ r. window_around ring r c.args.place) rounds) c.in-None.ensures.value
