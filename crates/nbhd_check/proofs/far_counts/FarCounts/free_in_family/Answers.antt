use Rattle.std.proofs.Common.{◌≡◌, List, ℕ, drop, slice_get, Some, sym, ap, ◌∙◌, arith}
use Rattle.std.proofs.lemmas.Option.{same_Some}
use Rattle.nbhd_check.specs.Counts.{shared_lists}
use Rattle.nbhd_check.proofs.far_counts.FarCounts.free_in_family.Goals as goal

pub window-requires-clause-below : goal.window-requires-clause-below
window-requires-clause-below c =
    rw (c.rounds-below.ensures ∙ c.shape-shape.ensures.rounds, c.shape-shape.ensures.ids)
    (omega (arith, c.requires.number))

pub count_family-requires-clause-shared : goal.count_family-requires-clause-shared
count_family-requires-clause-shared c =
    rw (c.rounds-below.ensures ∙ c.shape-shape.ensures.rounds, c.shape-shape.ensures.ids) at c.window.ensures.window

pub invariant_of-family : goal.invariant_of-family
invariant_of-family c =
    let rounds_is = c.rounds-below.ensures ∙ c.shape-shape.ensures.rounds in
    record {
      some = c.args.self.some;
      window = rw (rounds_is, c.shape-shape.ensures.ids) at c.window.ensures.window;
      numbered = rw (rounds_is, c.shape-shape.ensures.ids) at c.window.ensures.item;
      fit = c.count_family.ensures.fit;
      each_is = (c.windows_per_pair.ensures.value, c.windows_per_pair.ensures.few);
    }

pub returns-clause-free : goal.returns-clause-free
returns-clause-free c = λ n window below item own.
    let t = c.args.self.table.now in
    let shared : List ℕ = c.window.new.out in
    let here : slice_get (shared_lists t) c.args.number ≡ Some shared =
    rw (c.rounds-below.ensures ∙ c.shape-shape.ensures.rounds, c.shape-shape.ensures.ids) at c.window.ensures.item in
    let same : own.0 ≡ c.args.number = omega (arith, own.1, own.2) in
    c.free.ensures.free n window below item
    (same_Some (drop 2 window) shared (sym own.3 ∙ ap (slice_get (shared_lists t)) same ∙ here))
