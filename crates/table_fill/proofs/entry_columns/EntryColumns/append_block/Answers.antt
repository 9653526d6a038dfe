use Rattle.std.proofs.Common.{◌≡◌, length, ◌∙◌}
use Rattle.std.proofs.lemmas.List.{with_items_is}
use Rattle.round_eval.specs.BlockStates.{block_len}
use Rattle.table_fill.proofs.JoinedEntries.{joined_entries}
use Rattle.table_fill.proofs.entry_columns.EntryColumns.append_block.Goals as goal

pub returns-clause-entries : goal.returns-clause-entries
returns-clause-entries c =
    let plan = c.args.code.now in
    let b = c.args.block.now.number in
    let keyed = c.requires.block in
    let len : c.len.result ≡ block_len plan.ids (length plan.program.steps) b =
    c.len.ensures ∙ (λ i. block_len (keyed.0 i).ids (keyed.1 i) b) in
    let channels = with_items_is c.args.self.now.channels c.write_channels.new.channels (c.write_channels.auto.channels
    ∙ c.deref_mut.ensures.len) in (
      c.append_below.ensures.capacity,
      λ first before. rw (c.append_below.ensures.items, len, c.deref.ensures.value, channels)
          (joined_entries _ _ _ _ _ _ before c.write_channels.ensures.channels),
    )
