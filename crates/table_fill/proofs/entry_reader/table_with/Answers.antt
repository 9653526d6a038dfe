use Rattle.std.proofs.Common.{◌≡◌, [], ◌+◌, ◌*◌, length, map, sym, ◌∙◌, arith}
use Rattle.std.proofs.lemmas.List.{ext_get_or, get_or-map, length-map}
use Rattle.win_index.specs.Windows.{windows}
use Rattle.table_fill.specs.ProgramTables.{window_channel}
use Rattle.table_fill.proofs.Programs.{table_with}
use Rattle.table_fill.proofs.entry_reader.table_with.Goals as goal

pub returns : goal.returns
returns c =
    let p = c.args.code.now.program in
    let ws = windows (2 * length p.steps + 1) c.args.code.now.ids in
    let entries = c.args.entries.items in
    let size : length entries ≡ length ws = omega (arith, c.requires.size) in
    let same : entries ≡ map (window_channel p) ws =
    ext_get_or 0 entries (map (window_channel p) ws) (size ∙ sym (length-map ws (window_channel p))) (λ i lt.
    let from_first : 0 + i ≡ i = omega arith in
    (rw from_first at (c.requires.each i lt).0)
    ∙ sym (get_or-map (window_channel p) ws i [] 0 (omega (arith, lt, size)))) in
    let is = c.plan-plan.ensures in
    c.new.ensures ∙ table_with p c.args.code.now.ids _ (rw is at c.shape.ensures.ids) (rw is at c.shape.ensures.rounds)
    (rw (c.program.ensures.value, is) at c.channels.ensures.value) same
