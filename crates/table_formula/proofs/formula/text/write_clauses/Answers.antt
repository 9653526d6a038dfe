use Rattle.std.proofs.Common.{◌+◌, ◌≤◌, ◌++◌, arith, length, take, drop, refl, ap, ◌∙◌, subst, rules, List, ℕ}
use Rattle.std.specs.List.{flat_map}
use Rattle.std.proofs.lemmas.List.{take_all}
use Rattle.devices.specs.Output.{IsWrittenSoFar}
use Rattle.devices.proofs.Writing.{on_err, sends_all, tells_more, tells_moved, tells_front}
use Rattle.table_formula.specs.declared.literal.Literal.{Literal}
use Rattle.table_formula.specs.Formula.{formula}
use Rattle.table_formula.specs.Texts.{clause_text, head_text, clauses_text}
use Rattle.table_formula.proofs.FormulaText.{text_more, text_rest}
use Rattle.table_formula.proofs.formula.text.write_clauses.Goals as goal

pub loop-index-preserved : goal.loop-index-preserved
loop-index-preserved g c =
    let p = c.args.formula.now in
    let i = c.loop-index.index in
    let clause = take c.write_clause-len.result c.write_clause-len.new.out in
    let before = head_text p ++ flat_map clause_text (take i (formula p)) in
    let told = tells_more _ _ c.loop-index.chunk (c.loop-index.chunk ++ clause_text clause) (clause_text clause) before
    c.loop-index.invariant.told refl in
    let moved = tells_moved _ _ _ (c.loop-index.chunk ++ clause_text clause) c.write_clause.new.chunk
    (before ++ clause_text clause) told c.in_ok-write_clause.ensures.ok in
    let text = text_more clause_text (head_text p) before (before ++ clause_text clause) (formula p) i clause refl
    c.write_clause-len.ensures.written.item refl in
    record {
      told = subst (IsWrittenSoFar _ _ c.write_clause.new.chunk) text moved;
      working = search rules;
    }

pub returns-in_err-write_clause : goal.returns-in_err-write_clause
returns-in_err-write_clause g c =
    let p = c.args.formula.now in
    let i = c.loop-index.index in
    let clause = take c.write_clause-len.result c.write_clause-len.new.out in
    let before = head_text p ++ flat_map clause_text (take i (formula p)) in
    let text = text_more clause_text (head_text p) before (before ++ clause_text clause) (formula p) i clause refl
    c.write_clause-len.ensures.written.item refl in
    let rest = flat_map clause_text (drop (i + 1) (formula p)) in
    record {
      ok = search rules;
      front = on_err c.from_residual.result
          (tells_front _ _ _ (c.loop-index.chunk ++ clause_text clause) (before ++ clause_text clause) (clauses_text p) rest
          (tells_more _ _ c.loop-index.chunk _ (clause_text clause) before c.loop-index.invariant.told refl)
          c.in_err-write_clause.ensures.front
          (ap (λ (bytes : List ℕ). bytes ++ rest) text ∙ text_rest clause_text (head_text p) (formula p) (i + 1)));
      fault = search rules;
    }

pub returns : goal.returns
returns g c =
    let p = c.args.formula.now in
    let all : length (formula p) ≤ c.loop-index.index =
    omega (arith, c.count-index-end.ensures.value, c.loop-index-test.false) in
    let text = ap (λ (clauses : List (List Literal)). head_text p ++ flat_map clause_text clauses)
    (take_all c.loop-index.index (formula p) all) in
    let told = subst (IsWrittenSoFar _ _ c.loop-index.chunk) text c.loop-index.invariant.told in
    sends_all _ _ _ _ _ _ c.send.result told c.send.ensures.sent
