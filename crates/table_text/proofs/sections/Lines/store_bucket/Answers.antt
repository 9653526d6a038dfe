use Rattle.std.proofs.Common.{◌≡◌, ℕ, ◌+◌, ◌-◌, ◌*◌, ◌≤◌, List, ◌++◌, length, length-take, take, drop, ap, ◌∙◌, arith}
use Rattle.std.proofs.Math.Nat.{mul-le-mul_left, mul-le-mul_right}
use Rattle.channel_tables.specs.Tables.{ChannelTable}
use Rattle.table_text.specs.Pieces.{prefix_text}
use Rattle.table_text.specs.Sections.{lines_from, bucket_lines, Shows, ShowsBucket}
use Rattle.table_text.specs.declared.odometer.Odometer.{Odometer}
use Rattle.table_text.proofs.Odometers.{prefix_short}
use Rattle.table_text.proofs.BucketLines.{lines_of_bucket}
use Rattle.table_text.proofs.sections.Lines.store_bucket.Goals as goal

-- the lines of these windows are short
fit : (t : ChannelTable) (o : Odometer) (first count : ℕ) (text entries : List ℕ) → Shows t first o →
    text ≡ prefix_text o.prefix
    → length (take (first + count - first) (drop first entries)) * (length text + 16) ≤ count * (16 * t.rounds + 16)
fit t o first count text entries shows text_is =
    let channels = take (first + count - first) (drop first entries) in
    let few : length channels ≤ count = omega (arith, length-take (first + count - first) (drop first entries)) in
    let short : length text + 16 ≤ 16 * t.rounds + 16 =
    omega (arith, ap length text_is, prefix_short o shows.odometer, shows.front) in
    omega (arith, mul-le-mul_right (length text + 16) few, mul-le-mul_left count short)

-- the lines of these windows, from what they are made of
stored : (t : ChannelTable) (o : Odometer) (first count n : ℕ) (text ids entries : List ℕ)
    → ShowsBucket t first count o →
    text ≡ prefix_text o.prefix →
    ids ≡ take count (drop o.last o.order) → entries ≡ t.entries → n ≡ count
    → bucket_lines text ids (take n (drop first entries)) ≡ lines_from t first count
stored t o first count n text ids entries bucket text_is ids_are entries_are all =
    (λ i. bucket_lines (text_is i) (ids_are i) (take (all i) (drop first (entries_are i))))
    ∙ lines_of_bucket t first count o bucket

pub push_stored-requires-else-prefix-le-SHORT_LEN : goal.push_stored-requires-else-prefix-le-SHORT_LEN
push_stored-requires-else-prefix-le-SHORT_LEN c =
    omega (
      arith,
      c.requires.room,
      fit c.args.self.table.now c.args.odometer.now c.args.first c.args.count _ c.entries.result.now c.requires.bucket.shows
          c.buffered-prefix.ensures.text,
    )

pub returns-then-prefix-le-SHORT_LEN-clause-lines : goal.returns-then-prefix-le-SHORT_LEN-clause-lines
returns-then-prefix-le-SHORT_LEN-clause-lines c =
    c.push_stored.ensures.text
    ∙ ap (λ l. c.args.chunk.now ++ l)
    (stored c.args.self.table.now c.args.odometer.now c.args.first c.args.count _ _ _ _ c.requires.bucket
    c.start-start.ensures c.last_ids-last_ids.ensures.ids c.entries.ensures.value (omega arith))

pub returns-else-prefix-le-SHORT_LEN-clause-lines : goal.returns-else-prefix-le-SHORT_LEN-clause-lines
returns-else-prefix-le-SHORT_LEN-clause-lines c =
    c.push_stored-else-prefix-le-SHORT_LEN.ensures.text
    ∙ ap (λ l. c.args.chunk.now ++ l)
    (stored c.args.self.table.now c.args.odometer.now c.args.first c.args.count _ _ _ _ c.requires.bucket
    c.buffered-prefix.ensures.text c.last_ids-last_ids.ensures.ids c.entries.ensures.value (omega arith))

pub returns-else-prefix-le-SHORT_LEN-clause-filled : goal.returns-else-prefix-le-SHORT_LEN-clause-filled
returns-else-prefix-le-SHORT_LEN-clause-filled c =
    omega (
      arith,
      c.push_stored-else-prefix-le-SHORT_LEN.ensures.few,
      fit c.args.self.table.now c.args.odometer.now c.args.first c.args.count _ c.entries.result.now c.requires.bucket.shows
          c.buffered-prefix.ensures.text,
    )
