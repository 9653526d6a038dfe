use Rattle.std.proofs.Common.{◌≡◌, ◌+◌, ◌-◌, ◌++◌, List, ℕ, ◌≤◌, Option, length, drop, take, codes, refl, subst, ap}
use Rattle.std.proofs.Common.{◌∙◌, arith, rules}
use Rattle.std.specs.List.{flat_map}
use Rattle.std.proofs.lemmas.List.{take_all}
use Rattle.devices.specs.Output.{IsWrittenSoFar}
use Rattle.devices.proofs.Writing.{on_err, sends_all, tells_more, tells_moved, tells_front}
use Rattle.json_reports.specs.TableTexts.{entry_text, rest_text}
use Rattle.json_reports.proofs.EntryTexts.{text_join, text_rest}
use Rattle.json_reports.proofs.tables.write_rest.Goals as goal

-- once all channels are taken, those so far are all
all_told : (a b : Option (List ℕ)) (chunk entries : List ℕ) (i : ℕ) → length entries ≤ i
    → IsWrittenSoFar a b chunk (flat_map entry_text (take i entries))
    → IsWrittenSoFar a b chunk (flat_map entry_text entries)
all_told a b chunk entries i le told =
    subst (λ (k : List ℕ). IsWrittenSoFar a b chunk (flat_map entry_text k)) (take_all i entries le) told

pub loop-first-preserved : goal.loop-first-preserved
loop-first-preserved g c =
    let entries = c.args.entries.now in
    let first = c.loop-first.first in
    let count = c.min-count.result in
    let front = flat_map entry_text (take first entries) in
    let exact : first + count - first ≡ count = omega arith in
    let moved = tells_moved _ _ _ c.loop-first.chunk _ _ c.loop-first.invariant.told c.in_ok-make_room.ensures.sent.ok in
    let more = tells_more _ _ _ c.push_stored.new.self
    (flat_map entry_text (take (first + count - first) (drop first entries))) front moved
    c.push_stored.ensures.text in
    record {
      within = omega (arith, c.loop-first.invariant.within, c.min-count.ensures);
      told = subst (IsWrittenSoFar _ _ c.push_stored.new.self)
          (ap (λ k. front ++ flat_map entry_text (take k (drop first entries))) exact
          ∙ text_join entries first count) more;
      working = search rules;
    }

pub returns-in_err-make_room : goal.returns-in_err-make_room
returns-in_err-make_room g c =
    let entries = c.args.entries.now in
    let i = c.loop-first.first in
    let rest = flat_map entry_text (drop i entries) ++ codes "]}\n" in
    record {
      ok = search rules;
      front = on_err c.from_residual.result
          (tells_front _ _ _ _ _ (rest_text entries) rest c.loop-first.invariant.told c.in_err-make_room.ensures.sent.front (text_rest entries i));
      fault = search rules;
    }

pub returns-in_err-make_room-2 : goal.returns-in_err-make_room-2
returns-in_err-make_room-2 g c =
    let entries = c.args.entries.now in
    let told = all_told _ _ c.loop-first.chunk entries c.loop-first.first c.loop-first-test.false c.loop-first.invariant.told in
    record {
      ok = search rules;
      front = on_err c.from_residual-in_err-make_room-2.result
          (tells_front _ _ _ _ _ (rest_text entries) (codes "]}\n") told c.in_err-make_room-2.ensures.sent.front refl);
      fault = search rules;
    }

pub returns : goal.returns
returns g c =
    let entries = c.args.entries.now in
    let moved = tells_moved _ _ _ c.loop-first.chunk _ _
    (all_told _ _ c.loop-first.chunk entries c.loop-first.first c.loop-first-test.false c.loop-first.invariant.told)
    c.in_ok-make_room-2.ensures.sent.ok in
    let more = tells_more _ _ _ c.push.new.self (codes "]}\n") (flat_map entry_text entries) moved c.push.ensures in
    sends_all _ _ _ _ _ _ c.send.result more c.send.ensures.sent
