use Rattle.std.proofs.Common.{◌≡◌, ◌-◌, ◌*◌, ◌<◌, List, All, length, slice_get, take, ap, ◌∙◌, subst, arith}
use Rattle.std.proofs.lemmas.Option.{slice_get_within, get_or_from_slice_get}
use Rattle.win_index.proofs.Windows.{slice_get-append_left, slice_get-append_right}
use Rattle.table_formula.specs.declared.literal.Literal.{Literal}
use Rattle.table_formula.specs.Problems.{Problem}
use Rattle.table_formula.specs.Formula.{windows_of, apart_formula, pattern_clauses}
use Rattle.table_formula.proofs.ClauseLists.{formula_parts, formula_length}
use Rattle.table_formula.proofs.PatternClauses.{patterns_within}
use Rattle.table_formula.proofs.formula.Formula.write_clause.Goals as goal

pub write_of_pattern-requires-clause-below : goal.write_of_pattern-requires-clause-below
write_of_pattern-requires-clause-below c =
    let p = c.args.self.now in
    let apart : c.self.inside.apart ≡ length (apart_formula p) =
    c.self.invariant.apart_is ∙ ap (λ (q : Problem). length (apart_formula q)) c.self.view_is in
    omega (arith, formula_length p, apart, c.requires.index, c.if-index-self.false)

pub returns-then-index-self-clause-written : goal.returns-then-index-self-clause-written
returns-then-index-self-clause-written c =
    let p = c.args.self.now in
    let apart : c.self.inside.apart ≡ length (apart_formula p) =
    c.self.invariant.apart_is ∙ ap (λ (q : Problem). length (apart_formula q)) c.self.view_is in
    record {
      fits = omega (arith, c.write_apart.ensures.fits, c.write_apart.auto.out);
      item =
          ap (λ list. slice_get list c.args.index) (formula_parts p)
          ∙ slice_get-append_left (apart_formula p) (pattern_clauses p) c.args.index
          (omega (arith, apart, c.if-index-self.true))
          ∙ c.write_apart.ensures.item;
      within = c.write_apart.ensures.within;
    }

pub returns-else-index-self-clause-written : goal.returns-else-index-self-clause-written
returns-else-index-self-clause-written c =
    let p = c.args.self.now in
    let place = c.args.index - c.self.inside.apart in
    let clause = take c.write_of_pattern.result c.write_of_pattern.new.out in
    let item = c.write_of_pattern.ensures.item in
    let apart : c.self.inside.apart ≡ length (apart_formula p) =
    c.self.invariant.apart_is ∙ ap (λ (q : Problem). length (apart_formula q)) c.self.view_is in
    record {
      fits = omega (arith, c.write_of_pattern.ensures.fits, c.requires.room, c.write_of_pattern.auto.out);
      item =
          ap (λ list. slice_get list c.args.index) (formula_parts p)
          ∙ slice_get-append_right (apart_formula p) (pattern_clauses p) c.args.index place
          (omega (arith, apart, c.if-index-self.false))
          ∙ item;
      within =
          subst (λ (list : List Literal). All (λ (l : Literal). l.variable < length (windows_of p) * p.channels) list)
          (get_or_from_slice_get (pattern_clauses p) place clause clause item)
          (patterns_within p place clause (slice_get_within (pattern_clauses p) place clause item));
    }
