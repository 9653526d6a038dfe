use Rattle.std.proofs.Common.{◌≡◌, length}
use Rattle.table_formula.specs.Split.{parts_left}
use Rattle.table_formula.specs.Lines.{list_in}
use Rattle.table_formula.proofs.ItemLists.{with_items}
use Rattle.table_formula.proofs.refutation.forms.read_list.Given as goal

abbrev pub invariant-loop-word : goal.invariant-loop-word
invariant-loop-word g l =
    let item_in = g.T.Spelled.item_in in
    with_items l.items.items (list_in item_in (parts_left l.words)) ≡ list_in item_in (parts_left l.fn.words)

abbrev pub decreases-loop-word : goal.decreases-loop-word
decreases-loop-word g l = length (parts_left l.words)
