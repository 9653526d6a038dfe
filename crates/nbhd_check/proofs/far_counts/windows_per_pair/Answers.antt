use Rattle.std.proofs.Common.{◌≡◌, ℕ, ◌+◌, ◌-◌, ◌*◌, ◌/◌, ◌<◌, ap, ◌∙◌, arith, refl}
use Rattle.std.proofs.Math.Nat.{mul-div_cancel_left}
use Rattle.win_index.specs.Falling.{falling}
use Rattle.win_index.proofs.Windows.{length-windows, falling-add, falling_two}
use Rattle.nbhd_check.specs.Counts.{shared_len}
use Rattle.nbhd_check.proofs.FarFree.{some_product}
use Rattle.nbhd_check.proofs.far_counts.windows_per_pair.Goals as goal

pub returns-clause-value : goal.returns-clause-value
returns-clause-value c =
    let t = c.args.table.now in
    let m : ℕ = c.ids-ids.result in
    let each : ℕ = falling (t.ids - 2) (shared_len t) in
    let ids_is : m ≡ t.ids = c.ids-ids.ensures ∙ c.shape.ensures.ids in
    let enough = c.shape.result.in_range.enough in
    let some : 0 < m * (m - 1) = some_product m (m - 1) (omega arith) (omega arith) in
    let size : 2 * t.rounds + 1 ≡ 2 + shared_len t = omega (arith, c.requires) in
    let all : c.window_count.result ≡ m * (m - 1) * each =
    c.window_count.ensures.value
    ∙ rw (
      size,
      length-windows (2 + shared_len t) t.ids,
      falling-add t.ids 2 (shared_len t),
      falling_two t.ids,
      ids_is,
    ) refl in
    ap (λ n. n / (m * (m - 1))) all ∙ mul-div_cancel_left each some
