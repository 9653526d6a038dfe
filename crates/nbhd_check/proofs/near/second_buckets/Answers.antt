use Rattle.std.proofs.Common.{◌≡◌, ℕ, ◌+◌, ◌-◌, ◌*◌, length, take, drop, slice_get, Some, subst, sym, ap, ◌∙◌}
use Rattle.std.proofs.Common.{arith, length-drop}
use Rattle.std.proofs.Math.Nat.{mul-le-mul}
use Rattle.std.proofs.lemmas.List.{get_or-take, length-take-le}
use Rattle.win_index.specs.Windows.{unused, windows, IsWindow}
use Rattle.win_index.proofs.Windows.{place_of_last, bucket_of, one_bucket, window_take, windows_all, back_window}
use Rattle.nbhd_check.specs.Buckets.{wide}
use Rattle.nbhd_check.proofs.Suffixes.{shared_cut}
use Rattle.nbhd_check.proofs.near.second_buckets.Goals as goal

pub slice_bounds-shared-end : goal.slice_bounds-shared-end
slice_bounds-shared-end c =
    let t = c.args.table.now in
    let is = windows_all (2 * t.rounds + 1) t.ids _ c.args.window.now c.requires.window in
    let size = is.size in
    omega (arith, size, c.rounds-level.ensures, c.shape-shape.ensures.rounds)

pub window_number-number-requires-clause-window : goal.window_number-number-requires-clause-window
window_number-number-requires-clause-window c =
    let t = c.args.table.now in
    let window = c.args.window.now in
    let is = windows_all (2 * t.rounds + 1) t.ids _ window c.requires.window in
    let rounds_is : c.rounds-level.result ≡ t.rounds = c.rounds-level.ensures ∙ c.shape-shape.ensures.rounds in
    let rest = back_window (2 * t.rounds) t.ids window is in
    let part = window_take (2 * t.rounds) t.ids (2 * c.rounds-level.result - 1) (drop 1 window) (omega arith) rest in
    let len : 2 * c.rounds-level.result - 1 ≡ 2 * (c.rounds-level.result - 1) + 1 =
    omega (arith, rounds_is, c.requires.some) in
    subst (λ m. IsWindow (2 * (c.rounds-level.result - 1) + 1) m (take (2 * c.rounds-level.result - 1) (drop 1 window)))
    (sym c.shape-shape.ensures.ids)
    (subst (λ k. IsWindow k t.ids (take (2 * c.rounds-level.result - 1) (drop 1 window))) len part)

pub place_among_unused-requires : goal.place_among_unused-requires
place_among_unused-requires c = (windows_all _ _ _ _ c.window_number-number.ensures.item).distinct

pub returns-clause-buckets : goal.returns-clause-buckets
returns-clause-buckets c =
    let t = c.args.table.now in
    let window = c.args.window.now in
    let k : ℕ = 2 * t.rounds in
    let own = bucket_of k t.ids (c.args.bucket * wide t) window c.requires.window in
    let is = own.is in
    let size = is.size in
    let inside = own.inside in
    let number = own.number_is in
    let same = one_bucket (wide t) own.number (place_of_last k window) c.args.bucket
    (c.args.bucket * wide t) inside number
    (omega arith) (omega arith) in
    let rounds_is : c.rounds-level.result ≡ t.rounds = c.rounds-level.ensures ∙ c.shape-shape.ensures.rounds in
    let ids_is : c.shape-shape.result.ids ≡ t.ids = c.shape-shape.ensures.ids in
    let shared = shared_cut 1 t c.rounds-level.result window rounds_is (omega (arith, c.requires.some)) in
    let short : length (take (2 * c.rounds-level.result - 1) (drop 1 window)) ≡ 2 * (t.rounds - 1) + 1 =
    length-take-le (2 * c.rounds-level.result - 1) (drop 1 window) (omega (arith, length-drop 1 window))
    ∙ omega (arith, rounds_is, c.requires.some) in
    let n : ℕ = c.window_number-number.result in
    record {
      some = c.requires.some;
      front = take k window;
      front_at = ap (slice_get (windows k t.ids)) (sym same) ∙ own.front_at;
      number = n;
      number_at = (λ q. slice_get (windows (2 * (sym rounds_is q - 1) + 1) (sym ids_is q)) n)
          ∙ c.window_number-number.ensures.item ∙ ap Some shared;
      first_is = λ q. n * ((c.ids.ensures ∙ ids_is) q - short q);
      gap_is = c.place_among_unused.ensures
          ∙ (λ q. length (unused (sym (get_or-take k window 0 0 (omega (arith, c.requires.some))) q) (shared q)));
    }

pub overflow_mul-result : goal.overflow_mul-result
overflow_mul-result c =
    omega (
      arith,
      mul-le-mul {n₁ = c.window_number-number.result}
          {m₁ = c.ids.result - length (take (2 * c.rounds-level.result - 1) (drop 1 c.args.window.now))}
          {n₂ = 4294967296} {m₂ = 1024} (omega (arith, c.window_number-number.type_inv))
          (omega (arith, c.ids.ensures, c.shape-shape.result.in_range.few)),
    )
