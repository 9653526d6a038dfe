use Rattle.std.proofs.Common.{◌≡◌, ◌≢◌, ℕ, ◌+◌, ◌*◌, ◌<◌, ◌≤◌, List, Contains, drop, get_or, slice_get, Some, arith}
use Rattle.std.proofs.Common.{refl, rules, ⊎_elim}
use Rattle.std.proofs.lemmas.Bool.{cases_lt}
use Rattle.channel_tables.specs.Tables.{windows_of}
use Rattle.win_index.proofs.Windows.{windows_all}
use Rattle.nbhd_check.specs.Counts.{shared_len}
use Rattle.nbhd_check.proofs.Ends.{before_window, window_before}
use Rattle.nbhd_check.proofs.FarFree.{by_pair, first_two}
use Rattle.nbhd_check.proofs.far_counts.Family.free_with_first.Goals.{Joined-second-end, then-second-end}
use Rattle.nbhd_check.proofs.far_counts.Family.free_with_first.Goals.{else-second-end}
use Rattle.nbhd_check.proofs.far_counts.Family.free_with_first.Goals as goal

pub returns-then-contains-clause-free : goal.returns-then-contains-clause-free
returns-then-contains-clause-free c = λ number window below item own far.
    let t = c.args.self.table.now in
    let z = c.args.self.shared.now in
    let list = by_pair t number c.args.first (get_or window 1 0) window z c.args.self.some.0 item
    (own.0, refl, own.1) in
    let is = windows_all (2 * t.rounds + 1) t.ids number window item in
    (before_window _ _ c.args.first (get_or window 1 0) z (rw list at is)).1 (c.contains.ensures.0 c.if-contains.true)

pub returns-clause-free : goal.returns-clause-free
returns-clause-free c = λ number window below item own.
    let ids = first_two c.args.self.table.now number window c.args.self.some.0 item in
    c.loop-second.invariant.1 number window below item
    (own.0, omega (arith, ids.2, c.loop-second-test.false, c.ids-ids.ensures, c.shape.ensures.ids), own.1)

-- no window has the end as its second identifier
at_end : (c : Joined-second-end) (number : ℕ) (window : List ℕ)
    → slice_get (windows_of c.args.self.table.now) number ≡ Some window
    → get_or window 0 0 ≡ c.args.first → drop 2 window ≡ c.args.self.shared.now
    → get_or window 1 0 ≢ c.end_of_free-end.result
at_end c number window item first rest same =
    let t = c.args.self.table.now in
    let z = c.args.self.shared.now in
    let list = by_pair t number c.args.first c.end_of_free-end.result window z c.args.self.some.0 item
    (first, same, rest) in
    let parts = before_window _ _ c.args.first c.end_of_free-end.result z
    (rw list at (windows_all (2 * t.rounds + 1) t.ids number window item)) in
    let below = (first_two t number window c.args.self.some.0 item).2 in
    parts.2 (c.end_of_free-end.ensures.used (omega (arith, below, same)) parts.0)

-- Each identifier before the end makes a window with the first one.
pub free_with_seconds-least-requires-clause-seconds : goal.free_with_seconds-least-requires-clause-seconds
free_with_seconds-least-requires-clause-seconds c =
    let t = c.args.self.table.now in
    let z = c.args.self.shared.now in
    let end = c.end_of_free-end in
    let size : shared_len t + 2 ≡ 2 * t.rounds + 1 = omega (arith, c.args.self.some.0) in
    let lacks : ¬ Contains z c.args.first = search rules in
    record {
      some = c.if-second-end.true;
      windows = λ second from below.
          let free = end.ensures.free second from below in
          rw size at (window_before (shared_len t) t.ids c.args.first second z c.args.self.window
          c.requires.first (omega (arith, below, end.ensures.within)) free.0 lacks free.1);
    }

pub loop-second-preserved : goal.loop-second-preserved
loop-second-preserved c =
    let end = c.end_of_free-end in
    let before = c.loop-second.invariant in
    elim c.if-second-end.branch [
      | then-second-end w ↦ (
        omega (arith, w.least-is, w.free_with_seconds-least.ensures.less, before.0),
        λ number window below item own. ⊎_elim
            (λ (lt : get_or window 1 0 < c.loop-second.second).
            before.1 number window (omega (arith, below, w.least-is, w.free_with_seconds-least.ensures.less)) item
            (own.0, lt, own.2))
            (λ (ge : c.loop-second.second ≤ get_or window 1 0). ⊎_elim
            (λ (lt : get_or window 1 0 < end.result).
            w.free_with_seconds-least.ensures.free number window (omega (arith, below, w.least-is)) item
            (own.0, ge, lt, own.2))
            (λ (past : end.result ≤ get_or window 1 0). λ far. at_end c number window item own.0 own.2 (omega (arith, past, own.1)))
            (cases_lt (get_or window 1 0) end.result))
            (cases_lt (get_or window 1 0) c.loop-second.second),
        omega (arith, end.ensures.within),
      )
      | else-second-end w ↦ (
        omega (arith, w.least-is, before.0),
        λ number window below item own. ⊎_elim
            (λ (lt : get_or window 1 0 < c.loop-second.second).
            before.1 number window (omega (arith, below, w.least-is)) item (own.0, lt, own.2))
            (λ (ge : c.loop-second.second ≤ get_or window 1 0). λ far.
            at_end c number window item own.0 own.2 (omega (arith, ge, own.1, w.if-second-end.false)))
            (cases_lt (get_or window 1 0) c.loop-second.second),
        omega (arith, end.ensures.within),
      )
    ]
