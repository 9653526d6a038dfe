use Rattle.std.proofs.Common.{◌≡◌, ℕ, ◌+◌, ◌-◌, ◌*◌, ◌≤◌, sym, arith}
use Rattle.channel_tables.specs.Apart.{extra}
use Rattle.channel_tables.proofs.Products.{product_few}
use Rattle.win_index.proofs.Windows.{falling_two}
use Rattle.channel_tables.proofs.tuples.Tuples.per_window.Goals as goal

pub overflow_mul-result : goal.overflow_mul-result
overflow_mul-result g c =
    let free : ℕ = c.from.result - (2 * c.from-2.result + 1) in
    let few : free ≤ 1024 = omega (arith, c.from.ensures, c.ids.ensures, c.shape-shape.result.in_range.few) in
    omega (arith, product_few free (free - 1) 1024 1024 1048576 few (omega (arith, few)) (omega arith))

pub returns-else-self-eq0-clause-few : goal.returns-else-self-eq0-clause-few
returns-else-self-eq0-clause-few g c =
    let free : ℕ = c.from.result - (2 * c.from-2.result + 1) in
    let few : free ≤ 1024 = omega (arith, c.from.ensures, c.ids.ensures, c.shape-shape.result.in_range.few) in
    product_few free (free - 1) 1024 1024 1048576 few (omega (arith, few)) (omega arith)

pub returns-else-self-eq0-clause-value : goal.returns-else-self-eq0-clause-value
returns-else-self-eq0-clause-value g c =
    let t = g.W.Windows.table c.args.self.windows.now in
    let free_is : c.from.result - (2 * c.from-2.result + 1) ≡ t.ids - (2 * t.rounds + 1) =
    omega (
      arith,
      c.from.ensures,
      c.ids.ensures,
      c.shape-shape.ensures.ids,
      c.from-2.ensures,
      c.rounds.ensures,
      c.shape-shape.ensures.rounds,
    ) in
    let two : extra c.args.self.separation ≡ 2 = omega (arith, c.if-self-eq0.false) in
    rw (free_is, two) (sym (falling_two (t.ids - (2 * t.rounds + 1))))
