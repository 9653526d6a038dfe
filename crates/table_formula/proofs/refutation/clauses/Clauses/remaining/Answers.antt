use Rattle.std.proofs.Common.{◌<◌, ℕ, ap, sym, option_map, subst, All}
use Rattle.table_formula.specs.Marked.{variables_of}
use Rattle.table_formula.specs.declared.literal.Literal.{Literal}
use Rattle.table_formula.proofs.refutation.clauses.Clauses.remaining.Goals as goal

pub remaining-requires : goal.remaining-requires
remaining-requires c =
    let items = c.in_ok-clause.clause.now.items in
    let within = c.args.self.now.within c.args.number items
    (ap (option_map (λ clause. clause.items)) (sym c.in_ok-clause.ensures.value)) in
    subst (All (λ (l : Literal). l.variable < variables_of c.args.marks.now)) (sym c.deref.ensures.value)
    (subst (λ (n : ℕ). All (λ (l : Literal). l.variable < n) items) (sym c.requires.variables) within)
