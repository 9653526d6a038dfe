use Rattle.std.proofs.Common.{◌≡◌, ℕ, ◌+◌, ◌*◌, ◌<◌, ◌≤◌, Some, length, slice_get, sym, ap, subst, ◌∙◌, arith}
use Rattle.std.proofs.lemmas.List.Elements.{All-nil}
use Rattle.std.proofs.lemmas.List.{length_push}
use Rattle.channel_tables.specs.Tables.{IsBegun, windows_of}
use Rattle.table_text.specs.TableText.{written, lines_then}
use Rattle.table_text.specs.Odometers.{window_of}
use Rattle.table_text.specs.LineForms.{HasEntry}
use Rattle.table_text.specs.Faults.{IsWithin, no_entry}
use Rattle.table_text.proofs.Odometers.{window_size, shows_later}
use Rattle.table_text.proofs.TableLines.{begun_more, lines_more}
use Rattle.table_text.proofs.reading.entries.Goals as goal

none_le : (n : ℕ) → 0 ≤ n
none_le n = omega arith

room_for : (entries n count windows : ℕ) → entries ≡ n → n < count → count ≡ windows → entries < windows
room_for entries n count windows is lt count_is = omega arith

pub lines-init : goal.lines-init
unfolding lines_then
lines-init c =
    let made = c.in-Ok.ensures in
    let sizes = c.requires.head.sizes in
    record {
      ids = ap (λ t. t.ids) made;
      rounds = ap (λ t. t.rounds) made;
      channels = ap (λ t. t.channels) made;
      begun = subst IsBegun (sym made)
          (record {
            few_rounds = sizes.few_rounds;
            shape = sizes.shape;
            some_channels = sizes.some_channels;
            few_channels = sizes.few_channels;
            size = none_le _;
            below = All-nil (λ (x : ℕ). x < c.args.header.channels);
          });
      count = ap (λ t. length t.entries) made;
      shows = c.at-odometer.ensures;
      read =
          c.requires.head.lines ∙ ap
          (λ t. lines_then (written c.args.version t c.args.header.separation) c.args.start.now)
          (sym made);
    }

pub syntax-requires-clause-malformed : goal.syntax-requires-clause-malformed
syntax-requires-clause-malformed c =
    let inv = c.lines.invariant in
    let count = c.count-count.ensures.value in
    let w = written c.args.version c.lines.maker c.args.header.separation in
    let within : IsWithin c.args.text.now w c.lines.rest.now =
    record {
      begun = record { begun = inv.begun; told = c.requires.head.told };
      before = inv.read;
      more =
          rw (inv.rounds, inv.ids) (room_for _ _ _ _ inv.count c.lines-test.true (rw c.rounds-level.ensures at count));
    } in
    let width : length (window_of c.lines.odometer) ≡ 2 * c.lines.maker.rounds + 1 =
    rw inv.rounds (window_size c.lines.odometer inv.shows.odometer ∙ ap (λ n. n + 1) inv.shows.front) in
    no_entry w within (subst (λ k. HasEntry k c.lines.rest.now → ⊥) width c.in-Malformed.ensures)

pub lines-preserved : goal.lines-preserved
lines-preserved c =
    let inv = c.lines.invariant in
    let t = c.lines.maker in
    let channel = c.in-Entry.channel in
    let pushed = c.push.ensures in
    let level = c.rounds-level.ensures in
    let count = rw level at c.count-count.ensures.value in
    let room : length t.entries < length (windows_of t) =
    rw (inv.rounds, inv.ids) (room_for _ _ _ _ inv.count c.lines-test.true count) in
    let within = rw count at c.lines-test.true in
    let next : slice_get (windows_of t) (length t.entries) ≡ Some (window_of c.lines.odometer) =
    rw (inv.rounds, inv.ids, inv.count) (inv.shows.window within) in
    record {
      ids = ap (λ m. m.ids) pushed ∙ inv.ids;
      rounds = ap (λ m. m.rounds) pushed ∙ inv.rounds;
      channels = ap (λ m. m.channels) pushed ∙ inv.channels;
      begun =
          subst IsBegun (sym pushed)
          (begun_more t channel inv.begun room (rw inv.channels (c.is_too_large.ensures.no c.if-is_too_large.false)));
      count = ap (λ m. length m.entries) pushed ∙ length_push t.entries channel ∙ ap (λ n. n + 1) inv.count;
      shows = shows_later 1 c.args.header.shape.rounds c.args.header.shape.ids c.lines.number c.lines.odometer
          c.advance.new.self inv.shows c.advance.ensures;
      read = lines_more c.args.version t c.args.header.separation c.args.text.now c.lines.rest.now
          (window_of c.lines.odometer) channel c.in-Entry.after.now inv.read next c.in-Entry.ensures.spelled
          ∙ ap (λ m. lines_then (written c.args.version m c.args.header.separation) c.in-Entry.after.now) (sym pushed);
    }

pub returns-then-is_too_large-clause-fault : goal.returns-then-is_too_large-clause-fault
returns-then-is_too_large-clause-fault c =
    let inv = c.lines.invariant in
    let count = rw c.rounds-level.ensures at c.count-count.ensures.value in
    let w = written c.args.version c.lines.maker c.args.header.separation in
    let within : IsWithin c.args.text.now w c.lines.rest.now =
    record {
      begun = record { begun = inv.begun; told = c.requires.head.told };
      before = inv.read;
      more = rw (inv.rounds, inv.ids) (room_for _ _ _ _ inv.count c.lines-test.true count);
    } in
    let width : length (window_of c.lines.odometer) ≡ 2 * c.lines.maker.rounds + 1 =
    rw inv.rounds (window_size c.lines.odometer inv.shows.odometer ∙ ap (λ n. n + 1) inv.shows.front) in
    let own = rw width at c.in-Entry.ensures in
    let below = rw count at c.lines-test.true in
    let next : slice_get (windows_of c.lines.maker) (length c.lines.maker.entries)
    ≡ Some (window_of c.lines.odometer) = rw (inv.rounds, inv.ids, inv.count) (inv.shows.window below) in (
      c.requires.short,
      w,
      window_of c.lines.odometer,
      c.in-Entry.channel,
      (c.lines.rest.now, c.in-Entry.after.now, within, own),
      next,
      rw inv.channels (c.is_too_large.ensures.yes c.if-is_too_large.true),
      ap (λ n. n + 3) (sym inv.count),
    )
