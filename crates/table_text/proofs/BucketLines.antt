-- The lines of the windows of a bucket.
use Rattle.std.proofs.Common.{◌≡◌, ℕ, zero, suc, add-one, ◌*◌, ◌+◌, ◌<◌, ◌≤◌, List, [], ◌∷◌, ◌++◌, Some, length}
use Rattle.std.proofs.Common.{length-take, length-drop, take, drop, get_or, slice_get, refl, sym, ap, ◌∙◌, arith}
use Rattle.std.proofs.Common.{append_assoc, append-nil}
use Rattle.std.proofs.lemmas.List.{get_or-take, get_or-drop}
use Rattle.std.proofs.lemmas.Option.{none-some, same_Some, slice_get-get_or}
use Rattle.channel_tables.specs.Tables.{ChannelTable, windows_of}
use Rattle.table_text.specs.Odometers.{front_of}
use Rattle.table_text.specs.Pieces.{prefix_text, id_text, channel_text}
use Rattle.table_text.specs.Sections.{lines_from, bucket_lines, Shows, ShowsBucket}
use Rattle.table_text.specs.TableText.{ids_then, entry_then, entries_then}
use Rattle.table_text.specs.declared.odometer.Odometer.{Odometer}
use Rattle.table_text.proofs.Odometers.{later_at}
use Rattle.table_text.proofs.Orders.{later_of_bucket}
use Rattle.table_text.proofs.WrittenLines.{dropped_at, line_before}

one_more : (j : ℕ) (prefix ids channels : List ℕ) (id channel : ℕ) → slice_get ids j ≡ Some id →
    slice_get channels j ≡ Some channel
    → bucket_lines prefix (take (suc j) ids) (take (suc j) channels)
    ≡ bucket_lines prefix (take j ids) (take j channels) ++ (prefix ++ (id_text id ++ channel_text channel))
one_more j prefix [] channels id channel at_id at_c = absurd (none-some id at_id)
one_more j prefix (x ∷ ids) [] id channel at_id at_c = absurd (none-some channel at_c)
one_more zero prefix (x ∷ ids) (c ∷ channels) id channel at_id at_c =
    rw (same_Some x id at_id, same_Some c channel at_c) (ap (λ l. prefix ++ (id_text id ++ l)) (append-nil _))
one_more (suc j) prefix (x ∷ ids) (c ∷ channels) id channel at_id at_c =
    let rest = bucket_lines prefix (take j ids) (take j channels) in
    let line = prefix ++ (id_text id ++ channel_text channel) in
    ap (λ l. prefix ++ (id_text x ++ (channel_text c ++ l))) (one_more j prefix ids channels id channel at_id at_c)
    ∙ sym (append_assoc prefix (id_text x ++ (channel_text c ++ rest)) line
    ∙ ap (λ l. prefix ++ l) (append_assoc (id_text x) (channel_text c ++ rest) line
    ∙ ap (λ l. id_text x ++ l) (append_assoc (channel_text c) rest line)))

-- one more line
pub bucket_more : (j : ℕ) (prefix ids channels : List ℕ) → j < length ids → j < length channels
    → bucket_lines prefix (take (j + 1) ids) (take (j + 1) channels)
    ≡ bucket_lines prefix (take j ids) (take j channels)
    ++ (prefix ++ (id_text (get_or ids j 0) ++ channel_text (get_or channels j 0)))
bucket_more j prefix ids channels lt lt' =
    rw add-one (one_more j prefix ids channels (get_or ids j 0) (get_or channels j 0)
    (slice_get-get_or ids j 0 lt) (slice_get-get_or channels j 0 lt'))

-- windows with the same prefix
bucket_is : (front ids channels : List ℕ) (windows : List (List ℕ)) → length channels ≤ length ids
    → ((j : ℕ) → j < length channels → slice_get windows j ≡ Some (front ++ get_or ids j 0 ∷ []))
    → bucket_lines (ids_then front []) ids channels ≡ entries_then windows channels []
bucket_is front ids [] windows few at_j = refl
bucket_is front [] (c ∷ channels) windows few at_j = absurd (omega arith)
bucket_is front (id ∷ ids) (c ∷ channels) [] few at_j = absurd (none-some _ (at_j 0 (omega arith)))
bucket_is front (id ∷ ids) (c ∷ channels) (w ∷ windows) few at_j =
    let own : w ≡ front ++ id ∷ [] = same_Some w (front ++ id ∷ []) (at_j 0 (omega arith)) in
    let rest = bucket_is front ids channels windows (omega arith) (λ j lt. at_j (suc j) (omega arith)) in
    ap (λ l. ids_then front [] ++ (id_text id ++ (channel_text c ++ l))) rest
    ∙ line_before front id c (entries_then windows channels [])
    ∙ ap (λ window. entry_then window c (entries_then windows channels [])) (sym own)

-- a later window of the bucket
later_window : (t : ChannelTable) (first j : ℕ) (o : Odometer) → Shows t first o → o.last + j < o.ids →
    first + j < length (windows_of t)
    → slice_get (windows_of t) (first + j) ≡ Some (front_of o ++ get_or o.order (o.last + j) 0 ∷ [])
later_window t first j o shows lt within =
    let is = shows.odometer in
    later_at j (2 * t.rounds) t.ids o (record o { last = o.last + j }) shows.front shows.ids
    (later_of_bucket j o.front o.ids o.last o.order is.order is.from lt) first (shows.window (omega arith)) within

-- the lines of windows of a bucket, from that which the odometer shows on
pub lines_of_bucket : (t : ChannelTable) (first count : ℕ) (o : Odometer) → ShowsBucket t first count o
    → bucket_lines (prefix_text o.prefix) (take count (drop o.last o.order)) (take count (drop first t.entries))
    ≡ lines_from t first count
lines_of_bucket t first count o bucket =
    let ids = take count (drop o.last o.order) in
    let channels = take count (drop first t.entries) in
    let few : length channels ≤ count = omega (arith, length-take count (drop first t.entries)) in
    let long : length ids ≡ count =
    omega (
      arith,
      length-take count (drop o.last o.order),
      length-drop o.last o.order,
      length-take o.ids o.order,
      bucket.shows.odometer.order.size,
      bucket.bucket,
    ) in
    ap (λ text. bucket_lines text ids channels) bucket.shows.odometer.text
    ∙ bucket_is (front_of o) ids channels (drop first (windows_of t)) (omega arith) (λ j lt.
    dropped_at first j (first + j) (windows_of t) _ refl
    (later_window t first j o bucket.shows (omega (arith, bucket.bucket)) (omega (arith, bucket.within)))
    ∙ ap (λ id. Some (front_of o ++ id ∷ []))
    (sym (get_or-take count (drop o.last o.order) j 0 (omega arith) ∙ get_or-drop o.last o.order j 0)))
