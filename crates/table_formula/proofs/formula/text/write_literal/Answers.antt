use Rattle.std.proofs.Common.{◌≡◌, ◌+◌, ◌^◌, ◌<◌, ◌≤◌, ◌++◌, ◌∷◌, [], List, ℕ, false, length, drop, sym, ap, ◌∙◌, arith}
use Rattle.std.proofs.Common.{length-drop, cond}
use Rattle.std.specs.Fmt.{decimal}
use Rattle.std.proofs.lemmas.Fmt.{length-decimal-le}
use Rattle.table_formula.proofs.FormulaText.{sign_before}
use Rattle.table_formula.proofs.formula.text.write_literal.Goals as goal

-- The number of a variable has at most ten digits.
ten_digits : (number : ℕ) {variable : ℕ} → number ≡ variable → variable < 2 ^ 31 → length (decimal (number + 1)) ≤ 10
ten_digits number is below =
    length-decimal-le 10 (number + 1) (omega arith) (omega (arith, is, below)) (omega (arith, is, below))

pub write_digits-start-requires : goal.write_digits-start-requires
write_digits-start-requires c = (
  omega (arith, ten_digits c.from.result c.from.ensures c.variable.ensures.below),
  omega (arith, ap length c.requires, length-drop 11 c.args.bytes.now),
)

pub overflow_sub-bytes : goal.overflow_sub-bytes
overflow_sub-bytes c =
    omega (arith, c.write_digits-start.ensures.start, ten_digits c.from.result c.from.ensures c.variable.ensures.below)

pub overflow_sub-result : goal.overflow_sub-result
overflow_sub-result c =
    omega (arith, c.write_digits-start.ensures.start, ten_digits c.from.result c.from.ensures c.variable.ensures.below)

pub returns-clause-text : goal.returns-clause-text
returns-clause-text c =
    let start = c.write_digits-start.result in
    let bytes = c.write_digits-start.new.buf in
    let number : c.from.result ≡ c.args.l.variable = c.from.ensures ∙ c.variable.ensures.value in
    let negative : c.args.l.is_positive ≡ false = sym c.is_positive.ensures ∙ c.if-is_positive.false in
    let digits : drop start bytes ≡ decimal (c.from.result + 1) ++ 32 ∷ [] = c.write_digits-start.ensures.written
    ∙ ap (λ (rest : List ℕ). decimal (c.from.result + 1) ++ rest) c.requires in
    let short = ten_digits c.from.result c.from.ensures c.variable.ensures.below in
    let within = ap length c.requires in
    sign_before start bytes (decimal (c.from.result + 1) ++ 32 ∷ [])
    (omega (arith, c.write_digits-start.ensures.start, short))
    (omega (
      arith,
      c.write_digits-start.ensures.start,
      within,
      length-drop 11 c.args.bytes.now,
      c.write_digits-start.auto.buf,
    )) digits
    ∙ ap (λ n. 45 ∷ (decimal (n + 1) ++ 32 ∷ [])) number
    ∙ ap (λ b. cond b [] (45 ∷ []) ++ (decimal (c.args.l.variable + 1) ++ 32 ∷ [])) (sym negative)
