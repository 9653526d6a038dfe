use Rattle.std.proofs.Common.{◌<◌, List, [], ◌∷◌, sym, ap, ◌∙◌, length, subst, All}
use Rattle.table_formula.specs.declared.literal.Literal.{Literal}
use Rattle.table_formula.specs.Formula.{windows_of, variable_count, lacks_channel}
use Rattle.table_formula.proofs.Numbered.{two_cells, pair_within}
use Rattle.table_formula.proofs.formula.Formula.write_not_both.Goals as goal

pub returns-clause-items : goal.returns-clause-items
returns-clause-items c =
    let p = c.args.self.now in
    let here = c.literal.ensures ∙ ap (λ w. lacks_channel p w c.args.conflict.first) c.window_at-here.ensures.value in
    let there = c.literal-2.ensures
    ∙ ap (λ w. lacks_channel p w c.args.conflict.second) c.window_at-there.ensures.value in
    two_cells c.args.out.now c.literal.result c.literal-2.result c.requires.room ∙ (λ i. here i ∷ there i ∷ [])

pub returns-clause-within : goal.returns-clause-within
returns-clause-within c =
    let p = c.args.self.now in
    subst (λ (clause : List Literal). All (λ (l : Literal). l.variable < variable_count p) clause)
    (sym (returns-clause-items c))
    (pair_within p c.args.tuple.now c.args.conflict
    (subst (λ w. w < length (windows_of p)) c.window_at-here.ensures.value c.window_at-here.ensures.below)
    (subst (λ w. w < length (windows_of p)) c.window_at-there.ensures.value c.window_at-there.ensures.below)
    c.requires.pair.first c.requires.pair.second)
