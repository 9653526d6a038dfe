use Rattle.std.proofs.Common.{◌<◌, List, Some, All, length, sym, ap, ◌∙◌, subst, arith}
use Rattle.table_formula.specs.declared.literal.Literal.{Literal}
use Rattle.table_formula.specs.Formula.{windows_of, variable_count}
use Rattle.table_formula.proofs.Numbered.{window_clause, some_within}
use Rattle.table_formula.proofs.formula.Formula.write_apart.Goals as goal

pub returns-then-index-windows-clause-item : goal.returns-then-index-windows-clause-item
returns-then-index-windows-clause-item c =
    let below : c.args.index < length (windows_of c.args.self.now) =
    omega (arith, c.if-index-windows.true, c.from-windows.ensures, c.windows.ensures.value) in
    window_clause c.args.self.now c.args.index below ∙ ap Some (sym c.write_some_channel.ensures.items)

pub returns-then-index-windows-clause-within : goal.returns-then-index-windows-clause-within
returns-then-index-windows-clause-within c =
    let below : c.args.index < length (windows_of c.args.self.now) =
    omega (arith, c.if-index-windows.true, c.from-windows.ensures, c.windows.ensures.value) in
    subst (λ (clause : List Literal). All (λ (l : Literal). l.variable < variable_count c.args.self.now) clause)
    (sym c.write_some_channel.ensures.items) (some_within c.args.self.now c.args.index below)
