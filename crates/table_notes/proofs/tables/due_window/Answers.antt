use Rattle.std.proofs.Common.{◌≡◌, ℕ, ◌+◌, ◌-◌, ◌*◌, ◌≤◌, List, length, ap, ◌∙◌, subst, arith}
use Rattle.std.proofs.lemmas.Option.{slice_get_within}
use Rattle.table_text.specs.LineForms.{HasShape}
use Rattle.win_index.specs.Windows.{windows}
use Rattle.table_notes.specs.TableNotes.{IsDue}
use Rattle.table_notes.proofs.tables.due_window.Goals as goal

-- a line that is not one of those of the windows of the shape
none_due : (text : List ℕ) (line r i : ℕ) → ((t m : ℕ) → HasShape text t m → (t ≡ r) × (m ≡ i)) →
    length (windows (2 * r + 1) i) ≤ line - 3 →
    (window : List ℕ) → ¬ IsDue text line window
none_due text line r i one past window due =
    let once = one due.rounds due.ids due.shape in
    let within = slice_get_within (windows (2 * due.rounds + 1) due.ids) due.number window due.numbered in
    let same : length (windows (2 * due.rounds + 1) due.ids) ≡ length (windows (2 * r + 1) i) =
    (λ k. length (windows (2 * once.0 k + 1) (once.1 k))) in
    omega (arith, due.place, within, same, past)

pub returns-in_default-clause-none : goal.returns-in_default-clause-none
returns-in_default-clause-none c window due = c.in_default.ensures.none due.rounds due.ids due.shape

pub returns-then-line-count-clause-none : goal.returns-then-line-count-clause-none
returns-then-line-count-clause-none c =
    let shape = c.in-Some.shape in
    let count = c.count.ensures.value ∙ ap (λ r. length (windows (2 * r + 1) shape.ids)) c.rounds-rounds.ensures in
    none_due c.args.text.now c.args.line shape.rounds shape.ids c.in-Some.ensures.one
    (subst (λ n. n ≤ c.args.line - 3) count c.if-line-count.true)
