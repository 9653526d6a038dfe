use Rattle.std.proofs.Common.{◌≡◌, ◌∙◌, ap, sym, Some, ◌+◌, length, slice_get, ◌/◌, ◌%◌, []}
use Rattle.std.proofs.lemmas.Option.{get_or_from_slice_get}
use Rattle.table_formula.specs.Formula.{windows_of, tuples_of, not_both, apart_formula}
use Rattle.table_formula.proofs.Numbered.{some_tuples, splits, pair_clause}
use Rattle.table_formula.proofs.formula.Formula.write_pair.Goals as goal

pub conflict_count-count-requires : goal.conflict_count-count-requires
conflict_count-count-requires c = some_tuples c.args.self.now c.args.index c.requires.below

pub nonzero_div-index : goal.nonzero_div-index
nonzero_div-index c =
    (splits c.args.self.now c.args.index c.conflict_count-count.result c.requires.below
    c.conflict_count-count.ensures).some

pub nonzero_rem-index : goal.nonzero_rem-index
nonzero_rem-index c =
    (splits c.args.self.now c.args.index c.conflict_count-count.result c.requires.below
    c.conflict_count-count.ensures).some

pub write-requires-clause-below : goal.write-requires-clause-below
write-requires-clause-below c =
    rw (c.lists-lists.ensures.rounds, c.lists-lists.ensures.ids, c.lists-lists.ensures.separation)
    (splits c.args.self.now c.args.index c.conflict_count-count.result c.requires.below
    c.conflict_count-count.ensures).tuple

pub conflict-conflict-requires : goal.conflict-conflict-requires
conflict-conflict-requires c = record {
  some = some_tuples c.args.self.now c.args.index c.requires.below;
  below =
      (splits c.args.self.now c.args.index c.conflict_count-count.result c.requires.below
      c.conflict_count-count.ensures).pair;
}

pub returns-clause-item : goal.returns-clause-item
returns-clause-item c =
    let p = c.args.self.now in
    let count = c.conflict_count-count.result in
    let index = c.args.index in
    let cut = splits p index count c.requires.below c.conflict_count-count.ensures in
    let clause : slice_get (apart_formula p) (length (windows_of p) + index)
    ≡ Some (not_both p c.write.new.out c.conflict-conflict.result) =
    pair_clause p (index / count) (index % count) (length (windows_of p) + index) c.write.new.out
    c.conflict-conflict.result cut.tuple cut.pair
    (ap (λ n. length (windows_of p) + n) cut.at')
    (get_or_from_slice_get (tuples_of p) (index / count) c.write.new.out [] (rw (c.lists-lists.ensures.rounds, c.lists-lists.ensures.ids, c.lists-lists.ensures.separation) at c.write.ensures.item))
    c.conflict-conflict.ensures.item c.requires.below in
    clause ∙ ap Some (sym c.write_not_both.ensures.items)
