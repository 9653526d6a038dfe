use Rattle.std.proofs.Common.{rules, ◌≡◌, true, is_ok, refl}
use Rattle.shared_memo.specs.Known.{known_of, look_of}
use Rattle.shared_memo.proofs.Sets.{cells_more, none_more}
use Rattle.shared_memo.proofs.memo.Memo.pass.Goals as goal

pub loop-cell-preserved : goal.loop-cell-preserved
loop-cell-preserved c =
    let inv = c.loop-cell.invariant in
    let es = c.loop-cell.entries.items in
    let ok : is_ok c.push.result ≡ true = search rules in
    let items = rw ok at c.push.ensures.items in
    rw items (record {
      cells = cells_more es _ c.args.self.now.cells.items c.loop-cell.cell-index c.cell-item.result inv.cells
          (search rules) (search rules) c.note.ensures.0;
      blank = none_more known_of es _ refl inv.blank;
      no_look = none_more look_of es _ refl inv.no_look;
    })
