-- The lines of a text are those of one table.
use Rattle.std.proofs.Common.{◌≡◌, ℕ, ◌+◌, ◌*◌, ◌^◌, ◌<◌, ◌≤◌, List, [], ◌∷◌, ◌++◌, Some, length, slice_get, drop, refl}
use Rattle.std.proofs.Common.{sym, ap, subst, ◌∙◌, arith}
use Rattle.std.specs.Prelude.{codes, All, is_some}
use Rattle.std.specs.Fmt.{decimal}
use Rattle.std.proofs.lemmas.List.{append_cancel_left}
use Rattle.std.proofs.lemmas.List.Elements.{All-head, All-tail}
use Rattle.win_index.specs.Windows.{windows, IsWindow}
use Rattle.win_index.specs.Laws.{NumberOfWindow, WindowsHaveNumbers}
use Rattle.channel_tables.specs.Tables.{ChannelTable, IsBegun, windows_of}
use Rattle.table_text.specs.TableText.{Written, ids_then, entry_then, entries_then, lines_then}
use Rattle.table_text.specs.LineForms.{AreSizes, IsEntry, IsHead}
use Rattle.table_text.specs.Texts.{IsBegunText, IsWritten}
use Rattle.table_text.proofs.IdTexts.{Fits32, ids_once}
use Rattle.numerals.proofs.NumbersInTexts.{field_once}
use Rattle.table_text.proofs.Headers.{head_once}

ids_same : (ids x y : List ℕ) → ids_then ids x ≡ ids_then ids y → x ≡ y
ids_same [] x y same = same
ids_same (id ∷ ids) x y same =
    ids_same ids x y (ap (drop 1) (append_cancel_left (decimal id) (32 ∷ ids_then ids x) (32 ∷ ids_then ids y) same))

-- two lines of one window have one channel
line_once : (window : List ℕ) (c d : ℕ) (x y : List ℕ) → c < 2 ^ 32 → d < 2 ^ 32 →
    entry_then window c x ≡ entry_then window d y
    → (c ≡ d) × (x ≡ y)
line_once window c d x y p q same =
    field_once (codes ": ") 10 c d x y (omega arith) p q
    (ids_same window (codes ": " ++ (decimal c ++ 10 ∷ x)) (codes ": " ++ (decimal d ++ 10 ∷ y)) same)

-- two lines with the form of an entry at the start of one text have the same identifiers and the same channel
pub entry_once : (k : ℕ) (text ids others : List ℕ) (c d : ℕ) (x y : List ℕ) → IsEntry k text ids c x →
    IsEntry k text others d y
    → (ids ≡ others) × (c ≡ d) × (x ≡ y)
entry_once k text ids others c d x y p q =
    let one = ids_once ids others (codes ": " ++ (decimal c ++ 10 ∷ x)) (codes ": " ++ (decimal d ++ 10 ∷ y))
    p.ids_fit q.ids_fit
    (p.size ∙ sym q.size) (sym p.spelled ∙ q.spelled) in
    let more = field_once (codes ": ") 10 c d x y (omega arith) p.channel_fits q.channel_fits one.1 in
    (one.0, more.0, more.1)

-- the same number of lines of the same windows have the same channels
entries_once : (ws : List (List ℕ)) (cs ds x y : List ℕ) → All Fits32 cs → All Fits32 ds →
    length cs ≡ length ds → length cs ≤ length ws
    → entries_then ws cs x ≡ entries_then ws ds y → (cs ≡ ds) × (x ≡ y)
entries_once ws [] [] x y p q size room same = (refl, same)
entries_once ws [] (d ∷ ds) x y p q size room same = absurd (omega (arith, size))
entries_once [] (c ∷ cs) ds x y p q size room same = absurd (omega (arith, room))
entries_once (w ∷ ws) (c ∷ cs) [] x y p q size room same = absurd (omega (arith, size))
entries_once (w ∷ ws) (c ∷ cs) (d ∷ ds) x y p q size room same =
    let one = line_once w c d (entries_then ws cs x) (entries_then ws ds y) (All-head Fits32 c cs p)
    (All-head Fits32 d ds q) same in
    let more = entries_once ws cs ds x y (All-tail Fits32 c cs p) (All-tail Fits32 d ds q) (omega (arith, size))
    (omega (arith, room)) one.1 in
    (cc, more.1)

-- the text begins with the line of the window at an index, with a channel below a bound
pub record HasLine (ws : List (List ℕ)) (place bound : ℕ) (text : List ℕ) : Type 0 where
  pub window : List ℕ
  pub channel : ℕ
  pub rest : List ℕ
  pub at : slice_get ws place ≡ Some window
  pub line : text ≡ entry_then window channel rest
  pub below : channel < bound

-- if one text has more lines of the same windows, the next of them follows the lines of the other
entries_next : (ws : List (List ℕ)) (cs ds x y : List ℕ) (bound : ℕ) → bound ≤ 2 ^ 32 →
    All (λ c. c < bound) cs → All (λ c. c < bound) ds
    → length cs < length ds → length ds ≤ length ws → entries_then ws cs x ≡ entries_then ws ds y →
    HasLine ws (length cs) bound x
entries_next ws cs [] x y bound fits p q less room same = absurd (omega (arith, less))
entries_next [] cs (d ∷ ds) x y bound fits p q less room same = absurd (omega (arith, room))
entries_next (w ∷ ws) [] (d ∷ ds) x y bound fits p q less room same =
    record {
      window = w;
      channel = d;
      rest = entries_then ws ds y;
      at = refl;
      line = same;
      below = All-head (λ c. c < bound) d ds q;
    }
entries_next (w ∷ ws) (c ∷ cs) (d ∷ ds) x y bound fits p q less room same =
    let one = line_once w c d (entries_then ws cs x) (entries_then ws ds y)
    (omega (arith, fits, All-head (λ n. n < bound) c cs p))
    (omega (arith, fits, All-head (λ n. n < bound) d ds q)) same in
    let more =
    entries_next ws cs ds x y bound fits (All-tail (λ n. n < bound) c cs p) (All-tail (λ n. n < bound) d ds q)
    (omega (arith, less)) (omega (arith, room)) one.1 in
    record {
      window = more.window;
      channel = more.channel;
      rest = more.rest;
      at = more.at;
      line = more.line;
      below = more.below;
    }

-- the numbers of a begun table
pub sizes_of : (t : ChannelTable) → IsBegun t → AreSizes t.rounds t.ids t.channels
sizes_of t begun =
    record {
      few_rounds = begun.few_rounds;
      shape = begun.shape;
      some_channels = begun.some_channels;
      few_channels = begun.few_channels;
    }

-- a table is a begun table
pub begun_of : (w : Written) → IsWritten w → IsBegunText w
begun_of w is = record { begun = is.table.begun; told = is.told }

-- the common start of the lines of two begun tables that begin one text, and the text after it
pub record HaveOneHead (v w : Written) (x y : List ℕ) : Type 0 where
  pub version : v.version ≡ w.version
  pub rounds : v.table.rounds ≡ w.table.rounds
  pub ids : v.table.ids ≡ w.table.ids
  pub channels : v.table.channels ≡ w.table.channels
  pub separation : v.separation ≡ w.separation
  pub entries : entries_then (windows_of v.table) v.table.entries x
      ≡ entries_then (windows_of w.table) w.table.entries y

-- the lines of a begun table begin with two lines that have its numbers
head_of : (w : Written) (text rest : List ℕ) → IsBegunText w → text ≡ lines_then w rest
    → IsHead w.version text w.table.rounds w.table.ids w.table.channels w.separation
    (entries_then (windows_of w.table) w.table.entries rest)
unfolding lines_then
head_of w text rest begun is = record { sizes = sizes_of w.table begun.begun; told = begun.told; lines = is }

pub header_once : (v w : Written) (x y : List ℕ) → IsBegunText v → IsBegunText w →
    lines_then v x ≡ lines_then w y → HaveOneHead v w x y
header_once v w x y p q same =
    let one = head_once (head_of v (lines_then v x) x p refl) (head_of w (lines_then v x) y q same) in
    record { version = one.0; rounds = one.1; ids = one.2; channels = one.3; separation = one.4; entries = one.5 }

-- two begun tables whose lines begin one text have the same windows
pub same_windows : (v w : Written) (x y : List ℕ) → HaveOneHead v w x y → windows_of v.table ≡ windows_of w.table
same_windows v w x y head = λ i. windows (2 * head.rounds i + 1) (head.ids i)

entries_fit : (t : ChannelTable) → IsBegun t → All Fits32 t.entries
entries_fit t begun = λ i d within. omega (arith, begun.below i d within, begun.few_channels)

-- with the same number of entries they are one table
pub lines_once : (v w : Written) (x y : List ℕ) → IsBegunText v → IsBegunText w → lines_then v x ≡ lines_then w y
    → length v.table.entries ≡ length w.table.entries → (v ≡ w) × (x ≡ y)
lines_once v w x y p q same size =
    let t = v.table in
    let u = w.table in
    let head = header_once v w x y p q same in
    let ws = same_windows v w x y head in
    let entries = entries_once (windows_of t) t.entries u.entries x y (entries_fit t p.begun)
    (entries_fit u q.begun) size p.begun.size
    (head.entries ∙ ap (λ l. entries_then l u.entries y) (sym ws)) in (
      λ i. record {
        version = head.version i;
        table = record { ids = head.ids i; rounds = head.rounds i; channels = head.channels i; entries = entries.0 i };
        separation = head.separation i;
      },
      entries.1,
    )

-- if the second has more entries, the next line follows the lines of the first
pub lines_next : (v w : Written) (x y : List ℕ) → IsBegunText v → IsBegunText w → lines_then v x ≡ lines_then w y
    → length v.table.entries < length w.table.entries →
    HasLine (windows_of v.table) (length v.table.entries) v.table.channels x
lines_next v w x y p q same less =
    let t = v.table in
    let u = w.table in
    let head = header_once v w x y p q same in
    let ws = same_windows v w x y head in
    let below = subst (λ n. All (λ c. c < n) u.entries) (sym head.channels) q.begun.below in
    entries_next (windows_of t) t.entries u.entries x y t.channels (omega (arith, p.begun.few_channels))
    p.begun.below below less
    (omega (arith, q.begun.size, ap length ws)) (head.entries ∙ ap (λ l. entries_then l u.entries y) (sym ws))

-- two tables whose lines begin one text are one
pub tables_once : (v w : Written) (x y : List ℕ) → IsWritten v → IsWritten w →
    lines_then v x ≡ lines_then w y → (v ≡ w) × (x ≡ y)
tables_once v w x y p q same =
    let count = ap length (same_windows v w x y (header_once v w x y (begun_of v p) (begun_of w q) same)) in
    lines_once v w x y (begun_of v p) (begun_of w q) same (p.table.size ∙ count ∙ sym q.table.size)

-- if the lines of a table begin a text, the next line follows those of a begun table that lacks an entry
pub table_next : (v w : Written) (x y : List ℕ) → IsBegunText v → IsWritten w → lines_then v x ≡ lines_then w y
    → length v.table.entries < length (windows_of v.table) →
    HasLine (windows_of v.table) (length v.table.entries) v.table.channels x
table_next v w x y p q same more =
    let count = ap length (same_windows v w x y (header_once v w x y p (begun_of w q) same)) in
    lines_next v w x y p (begun_of w q) same (omega (arith, more, count, q.table.size))

-- the list at an index among the windows is a window
pub window_at : NumberOfWindow → WindowsHaveNumbers → (k m n : ℕ) (window : List ℕ) →
    slice_get (windows k m) n ≡ Some window
    → IsWindow k m window
window_at number_of_window windows_have_numbers k m n window at =
    (windows_have_numbers k m window).0 (ap is_some (number_of_window k m n window at))

-- the line of a window has the form of an entry
pub line_entry : NumberOfWindow → WindowsHaveNumbers → (t : ChannelTable) (place : ℕ) (text : List ℕ) → IsBegun t
    → (h : HasLine (windows_of t) place t.channels text) → IsEntry (2 * t.rounds + 1) text h.window h.channel h.rest
line_entry number_of_window windows_have_numbers t place text begun h =
    let is = window_at number_of_window windows_have_numbers (2 * t.rounds + 1) t.ids place h.window h.at in
    record {
      size = is.size;
      ids_fit = λ i d within. omega (arith, is.below i d within, begun.shape.ids.few);
      channel_fits = omega (arith, h.below, begun.few_channels);
      spelled = h.line;
    }
