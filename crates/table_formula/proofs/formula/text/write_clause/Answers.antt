use Rattle.std.proofs.Common.{◌<◌, ◌≡◌, ◌++◌, ◌∷◌, [], List, ℕ, ◌≤◌, Option, Some, append_assoc, length, drop, take}
use Rattle.std.proofs.Common.{slice_get, refl, sym, ap, ◌∙◌, subst, rules}
use Rattle.std.specs.List.{flat_map}
use Rattle.std.proofs.lemmas.List.{take_all}
use Rattle.std.proofs.lemmas.Option.{slice_get-get_or}
use Rattle.devices.specs.Output.{IsWrittenSoFar}
use Rattle.devices.proofs.Writing.{on_err, tells_more, tells_moved, tells_front}
use Rattle.table_formula.specs.declared.literal.Literal.{Literal}
use Rattle.table_formula.specs.Texts.{literal_text, clause_text}
use Rattle.table_formula.proofs.FormulaText.{text_more, text_rest}
use Rattle.table_formula.proofs.formula.text.write_clause.Goals as goal

-- once all literals are taken, those so far are all
all_told : (a b : Option (List ℕ)) (chunk head : List ℕ) (clause : List Literal) (i : ℕ) → length clause ≤ i
    → IsWrittenSoFar a b chunk (head ++ flat_map literal_text (take i clause))
    → IsWrittenSoFar a b chunk (head ++ flat_map literal_text clause)
all_told a b chunk head clause i le told =
    subst (λ (k : List Literal). IsWrittenSoFar a b chunk (head ++ flat_map literal_text k)) (take_all i clause le) told

pub loop-l-preserved : goal.loop-l-preserved
loop-l-preserved g c =
    let head = c.args.chunk.now in
    let clause = c.args.clause.now in
    let i = c.loop-l.l-index in
    let item = c.l-item.result in
    let within : i < length clause = c.loop-l-test.true in
    let item_is : slice_get clause i ≡ Some item = slice_get-get_or clause i item within ∙ ap Some (sym c.l-item.is) in
    let moved = tells_moved _ _ _ c.loop-l.chunk _ _ c.loop-l.invariant.told c.in_ok-make_room.ensures.sent.ok in
    let more = tells_more _ _ _ c.push_literal.new.chunk (literal_text item)
    (head ++ flat_map literal_text (take i clause)) moved c.push_literal.ensures in
    let text = text_more literal_text head (head ++ flat_map literal_text (take i clause))
    (head ++ flat_map literal_text (take i clause) ++ literal_text item) clause i item refl
    item_is refl in
    record {
      told = subst (IsWrittenSoFar _ _ c.push_literal.new.chunk) text more;
      working = search rules;
    }

pub returns-in_err-make_room : goal.returns-in_err-make_room
returns-in_err-make_room g c =
    let head = c.args.chunk.now in
    let clause = c.args.clause.now in
    let i = c.loop-l.l-index in
    let rest = flat_map literal_text (drop i clause) in
    record {
      ok = search rules;
      front = on_err c.from_residual.result
          (tells_front _ _ _ _ _ (head ++ clause_text clause) (rest ++ 48 ∷ 10 ∷ []) c.loop-l.invariant.told
          c.in_err-make_room.ensures.sent.front
          (sym (append_assoc (head ++ flat_map literal_text (take i clause)) rest (48 ∷ 10 ∷ []))
          ∙ ap (λ (bytes : List ℕ). bytes ++ 48 ∷ 10 ∷ []) (text_rest literal_text head clause i)
          ∙ append_assoc head (flat_map literal_text clause) (48 ∷ 10 ∷ [])));
      fault = search rules;
    }

pub returns-in_err-make_room-2 : goal.returns-in_err-make_room-2
returns-in_err-make_room-2 g c =
    let head = c.args.chunk.now in
    let clause = c.args.clause.now in
    let told = all_told _ _ c.loop-l.chunk head clause c.loop-l.l-index c.loop-l-test.false c.loop-l.invariant.told in
    record {
      ok = search rules;
      front = on_err c.from_residual-in_err-make_room-2.result
          (tells_front _ _ _ _ _ (head ++ clause_text clause) (48 ∷ 10 ∷ []) told c.in_err-make_room-2.ensures.sent.front
          (append_assoc head (flat_map literal_text clause) (48 ∷ 10 ∷ [])));
      fault = search rules;
    }

pub returns : goal.returns
returns g c =
    let head = c.args.chunk.now in
    let literals = flat_map literal_text c.args.clause.now in
    let moved = tells_moved _ _ _ c.loop-l.chunk _ _
    (all_told _ _ c.loop-l.chunk head c.args.clause.now c.loop-l.l-index c.loop-l-test.false c.loop-l.invariant.told)
    c.in_ok-make_room-2.ensures.sent.ok in
    let more = tells_more _ _ _ c.push.new.self (48 ∷ 10 ∷ []) (head ++ literals) moved c.push.ensures in
    record {
      ok = subst (IsWrittenSoFar _ _ c.push.new.self) (append_assoc head literals (48 ∷ 10 ∷ [])) more;
      front = tt;
      fault = search rules;
    }
