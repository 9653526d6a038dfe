use Rattle.std.proofs.Common.{◌≡◌, ℕ, ◌+◌, ◌*◌, ◌≤◌, List, Option, [], ◌++◌, length, take, refl, sym, ap, ◌∙◌, subst}
use Rattle.std.proofs.Common.{arith, rules, add-one}
use Rattle.std.proofs.Math.Nat.{suc-mul}
use Rattle.std.proofs.lemmas.List.{take_all}
use Rattle.std.proofs.KnownBytes.{Appends-nil}
use Rattle.channel_tables.specs.Tables.{ChannelTable, windows_of}
use Rattle.channel_tables.specs.declared.separation.Separation.{Separation}
use Rattle.devices.specs.declared.chunk.TheConstants.{CHUNK_LEN}
use Rattle.table_text.specs.declared.version.Version.TheVariants.{Two}
use Rattle.table_text.specs.declared.sections.TheConstants.{LINE_LEN}
use Rattle.table_text.specs.declared.sections.Lines.{Lines}
use Rattle.table_text.specs.TableText.{Written, written, head_then, lines_then, end_then, text_of}
use Rattle.table_text.specs.Sections.{lines_from, Shows}
use Rattle.table_text.proofs.TextsApart.{lines_append}
use Rattle.table_text.proofs.WrittenLines.{front_of, section_more, sections_all, lines_front}
use Rattle.devices.specs.Output.{IsWrittenSoFar}
use Rattle.devices.specs.Watched.{device_of}
use Rattle.devices.proofs.Writing.{on_err, sends_all, tells_more, tells_moved, tells_front}
use Rattle.table_text.proofs.writing.write_lines.Given.{Over}
use Rattle.table_text.proofs.writing.write_lines.Goals.{After-send}
use Rattle.table_text.proofs.writing.write_lines.Goals as goal

full : (t : ChannelTable) (lines : Lines) → lines.table.now ≡ t → length t.entries ≡ length (windows_of t)
full t lines is = subst (λ u. length u.entries ≡ length (windows_of u)) is lines.full

le_same : {a b : ℕ} → a ≡ b → a ≤ b
le_same same = omega arith

-- Of no section there are the first two lines.
none_told : (t : ChannelTable) (s : Separation) (size : ℕ) → head_then (written Two t s) []
    ≡ lines_then (written Two (record t { entries = take (0 * size) t.entries }) s) []
unfolding lines_then
none_told t s size =
    let none : 0 * size ≡ 0 = omega arith in
    rw none refl

pub loop-section-init : goal.loop-section-init
loop-section-init g c =
    let start : 0 ≡ 0 * c.new-lines.result.size = omega arith in
    record {
      working = c.requires.working;
      shows = (λ (t : ChannelTable) (n : ℕ) (is : c.new-lines.result.table.now ≡ t) (at' : 0 ≡ n).
          rw (is, at') at c.odometer_at-odometer.ensures) c.args.table.now _ c.new-lines.ensures.table start;
      told = (
        [],
        Appends-nil _,
        c.requires.first ∙ none_told c.args.table.now c.args.separation c.new-lines.result.size,
      );
    }

pub make_room-requires-clause-working : goal.make_room-requires-clause-working
make_room-requires-clause-working g c = c.loop-section.invariant.working

pub make_room-requires-2-clause-working : goal.make_room-requires-2-clause-working
make_room-requires-2-clause-working g c = c.loop-section.invariant.working

-- The lines of one more section are in the chunk.
pub loop-section-preserved : goal.loop-section-preserved
loop-section-preserved g c =
    let t = c.args.table.now in
    let s = c.args.separation in
    let lines = c.new-lines.result in
    let first : ℕ = c.loop-section.section * lines.size in
    let moved = tells_moved _ _ _ c.loop-section.chunk _ _ c.loop-section.invariant.told c.in_ok-make_room.ensures.sent.ok in
    let stored : c.store_next.new.chunk ≡ c.make_room.new.self ++ lines_from t first lines.size =
    c.store_next.ensures.lines
    ∙ ap (λ u. c.make_room.new.self ++ lines_from u first lines.size) c.new-lines.ensures.table in
    let more = tells_more _ _ _ c.store_next.new.chunk (lines_from t first lines.size) _ moved stored in
    let enough = le_same (full c.args.table.now c.new-lines.result c.new-lines.ensures.table) in
    let next : first + lines.size ≡ (c.loop-section.section + 1) * lines.size =
    sym (rw add-one (suc-mul c.loop-section.section lines.size)) in
    record {
      working = search rules;
      shows = subst (λ u. Shows u ((c.loop-section.section + 1) * lines.size) c.store_next.new.odometer) c.new-lines.ensures.table
          (subst (λ n. Shows lines.table.now n c.store_next.new.odometer) next c.store_next.ensures.shows);
      told = subst (IsWrittenSoFar _ _ c.store_next.new.chunk)
          (section_more t s first lines.size enough ∙ ap (λ n. lines_then (written Two (front_of t n) s) []) next) more;
    }

-- The lines of all windows are written or in the chunk.
all_told : (t : ChannelTable) (s : Separation) (a b : Option (List ℕ)) (chunk : List ℕ) (n : ℕ) → length t.entries ≤ n
    → IsWrittenSoFar a b chunk (lines_then (written Two (record t { entries = take n t.entries }) s) [])
    → IsWrittenSoFar a b chunk (lines_then (written Two t s) [])
all_told t s a b chunk n all told =
    subst (λ (entries : List ℕ).
    IsWrittenSoFar a b chunk (lines_then (written Two (record t { entries = entries }) s) []))
    (take_all n t.entries all) told

-- The last line is in the chunk.
with_end : (w : Written) (a b : Option (List ℕ)) (chunk more end : List ℕ) →
    IsWrittenSoFar a b chunk (lines_then w []) →
    more ≡ chunk ++ end → end ≡ end_then [] → IsWrittenSoFar a b more (lines_then w [] ++ end_then [])
with_end w a b chunk more end told held is =
    tells_more a b chunk more (end_then []) (lines_then w []) told (held ∙ ap (λ piece. chunk ++ piece) is)

module _ (g : Over) (c : After-send g) where
  told : IsWrittenSoFar (g.W.Write.contents (device_of c.args.writer.now))
      (g.W.Write.contents (device_of c.make_room-2.new.writer)) c.push.new.self
      (lines_then (written Two c.args.table.now c.args.separation) [] ++ end_then [])
  told =
      let t = c.args.table.now in
      let all = sections_all c.loop-section.section c.new-lines.result.size c.count-count.result c.new-lines.result.some
      (rw c.div_ceil-section-end.ensures at c.loop-section-test.false) in
      let lines = all_told t c.args.separation _ _ c.loop-section.chunk
      (c.loop-section.section * c.new-lines.result.size)
      (omega (
        arith,
        all,
        (full c.args.table.now c.new-lines.result c.new-lines.ensures.table),
        c.count-count.ensures.value,
        ap (λ u. length (windows_of u)) c.new-lines.ensures.table,
      )) c.loop-section.invariant.told in
      let moved = tells_moved _ _ _ c.loop-section.chunk _ _ lines c.in_ok-make_room-2.ensures.sent.ok in
      with_end (written Two t c.args.separation) _ _ _ c.push.new.self _ moved c.push.ensures refl

pub returns : goal.returns
unfolding text_of
returns g c =
    let w = written Two c.args.table.now c.args.separation in
    sends_all _ _ _ _ _ _ c.send.result
    (subst (IsWrittenSoFar _ _ c.push.new.self) (lines_append w [] (end_then [])) (told g c)) c.send.ensures.sent

pub returns-in_err-make_room : goal.returns-in_err-make_room
returns-in_err-make_room g c =
    let t = c.args.table.now in
    let front = lines_front t c.args.separation (c.loop-section.section * c.new-lines.result.size)
    (le_same (full c.args.table.now c.new-lines.result c.new-lines.ensures.table)) in
    record {
      ok = search rules;
      front = on_err c.from_residual.result
          (tells_front _ _ _ c.loop-section.chunk _ _ front.0 c.loop-section.invariant.told
          c.in_err-make_room.ensures.sent.front front.1);
      fault = search rules;
    }

pub returns-in_err-make_room-2 : goal.returns-in_err-make_room-2
returns-in_err-make_room-2 g c =
    let t = c.args.table.now in
    let front = lines_front t c.args.separation (c.loop-section.section * c.new-lines.result.size)
    (le_same (full c.args.table.now c.new-lines.result c.new-lines.ensures.table)) in
    record {
      ok = search rules;
      front = on_err c.from_residual-in_err-make_room-2.result
          (tells_front _ _ _ c.loop-section.chunk _ _ front.0 c.loop-section.invariant.told
          c.in_err-make_room-2.ensures.sent.front front.1);
      fault = search rules;
    }
