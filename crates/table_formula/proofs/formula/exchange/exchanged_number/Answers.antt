use Rattle.std.proofs.Common.{◌≡◌, ℕ, ◌+◌, ◌*◌, ◌<◌, List, [], map, length, get_or, sym, ap, ◌∙◌, subst}
use Rattle.std.proofs.lemmas.Option.{get_or_from_slice_get, slice_get_within}
use Rattle.win_index.specs.Windows.{windows, number_of, IsWindow}
use Rattle.table_formula.specs.Exchanges.{exchanged}
use Rattle.table_formula.proofs.Exchanged.{window_stays}
use Rattle.table_formula.proofs.formula.exchange.exchanged_number.Goals as goal

pub window_number-requires-clause-window : goal.window_number-requires-clause-window
window_number-requires-clause-window c =
    subst (IsWindow (2 * c.rounds-rounds.result + 1) c.args.shape.ids) (sym c.exchange_in.ensures)
    (window_stays c.args.first c.args.second (2 * c.rounds-rounds.result + 1) c.args.shape.ids c.window.new.out
    c.requires.first c.requires.second c.window.ensures.window)

pub returns-clause-value : goal.returns-clause-value
returns-clause-value c =
    let ids = c.args.shape.ids in
    let number = c.args.number in
    let rounds = c.rounds-rounds.ensures in
    let turned : List ℕ → List ℕ = map (exchanged c.args.first c.args.second) in
    let list : turned (get_or (windows (2 * c.args.shape.rounds + 1) ids) number []) ≡ c.exchange_in.new.window =
    ap (λ r. turned (get_or (windows (2 * r + 1) ids) number [])) (sym rounds)
    ∙ ap turned (get_or_from_slice_get (windows (2 * c.rounds-rounds.result + 1) ids) number c.window.new.out [] c.window.ensures.item)
    ∙ sym c.exchange_in.ensures in
    (λ i. number_of (2 * sym rounds i + 1) ids (list i)) ∙ c.window_number.ensures.number

pub returns-clause-below : goal.returns-clause-below
returns-clause-below c =
    let result = c.window_number.result in
    subst (λ r. result < length (windows (2 * r + 1) c.args.shape.ids)) c.rounds-rounds.ensures
    (slice_get_within (windows (2 * c.rounds-rounds.result + 1) c.args.shape.ids) result c.exchange_in.new.window c.window_number.ensures.item)
