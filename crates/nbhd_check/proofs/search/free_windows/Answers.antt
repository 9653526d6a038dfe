use Rattle.std.proofs.Common.{ℕ, ◌+◌, ◌*◌, ◌^◌, ◌<◌, ◌≤◌, subst, sym, arith}
use Rattle.std.proofs.Math.Nat.{mul_comm, mul-le-mul_right}
use Rattle.std.proofs.lemmas.Grind.{div_ceil_times}
use Rattle.nbhd_check.proofs.Cells.{row_more}
use Rattle.nbhd_check.proofs.Parts.{in_part}
use Rattle.nbhd_check.proofs.search.free_windows.Goals as goal

pub least_of_parts-least-requires-clause-each : goal.least_of_parts-least-requires-clause-each
least_of_parts-least-requires-clause-each g c κs within part lt =
    let parts : ℕ = c.part_count-parts.result in
    let each : ℕ = c.div_ceil-each.result in
    let pieces : ℕ = c.pieces-pieces.result in
    let upto : (part + 1) * each ≤ parts * each = mul-le-mul_right each (omega arith) in
    let all : each * parts < pieces + parts =
    subst (λ n. n * parts < pieces + parts) (sym c.div_ceil-each.ensures)
    (div_ceil_times pieces parts c.part_count-parts.ensures.some).1 in
    let few : part * each + each < 2 ^ 32 =
    omega (arith, upto, row_more part each, all, mul_comm each parts, c.pieces-pieces.ensures.few, c.part_count-parts.ensures.few) in
    (few, c.pieces-pieces.ensures.within)

pub returns-clause-free : goal.returns-clause-free
returns-clause-free g c number window from below item =
    let pieces : ℕ = c.pieces-pieces.result in
    let each : ℕ = c.div_ceil-each.result in
    let piece = c.pieces-pieces.ensures.all number window (omega (arith, below, c.min.ensures)) item in
    let own = in_part pieces c.part_count-parts.result piece.0 c.part_count-parts.ensures.some piece.1 in
    let low : own.part * each ≤ piece.0 = subst (λ n. own.part * n ≤ piece.0) (sym c.div_ceil-each.ensures) own.low in
    let high : piece.0 < own.part * each + each =
    subst (λ n. piece.0 < own.part * n + n) (sym c.div_ceil-each.ensures) own.high in
    let found = c.least_of_parts-least.ensures own.part own.few in
    found.1 piece.0 number window low (omega (arith, high, piece.1)) piece.2
    (omega (arith, below, c.min.ensures, found.2)) item
