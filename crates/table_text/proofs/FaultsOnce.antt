-- A text has at most one fault besides OutOfMemory, and the text of a table has none.
use Rattle.std.proofs.Common.{◌≡◌, ◌≢◌, ◌⊎◌, inl, inr, ℕ, ◌+◌, ◌*◌, ◌<◌, ◌≤◌, List, [], length, drop, refl, sym, ap}
use Rattle.std.proofs.Common.{subst, ◌∙◌, arith}
use Rattle.std.proofs.lemmas.Bool.{cases_order}
use Rattle.win_index.specs.Laws.{NumberOfWindow, WindowsHaveNumbers}
use Rattle.channel_tables.specs.Tables.{ChannelTable, IsBegun, windows_of}
use Rattle.table_text.specs.declared.version.Version.{Version}
use Rattle.table_text.specs.TableText.{Written, title_then, end_then, lines_then, text_of}
use Rattle.table_text.specs.Texts.{IsBegunText, IsWritten}
use Rattle.table_text.specs.LineForms.{HasTitle, HasSizes, IsEntry, HasEntry, HasEnd}
use Rattle.table_text.specs.Faults.{IsWithin, IsMalformed, no_title, no_sizes, no_entry, no_end, bytes_after}
use Rattle.table_text.specs.Faults.{IsNextWindow, IsFault}
use Rattle.table_text.specs.Laws.{OneTableFault, TableTextsAreShort, TableTextsAreRead}
use Rattle.table_text.specs.declared.limits.TheConstants.{LONGEST_TABLE_TEXT}
use Rattle.table_text.specs.declared.fault.TableFault.{TableFault}
use Rattle.table_text.specs.declared.fault.TableFault.TheVariants.{Syntax, WrongWindow, ChannelTooLarge, OutOfMemory}
use Rattle.table_text.proofs.Headers.{title_once}
use Rattle.table_text.proofs.TablesOnce.{HasLine, begun_of, entry_once, sizes_of, lines_once, lines_next, tables_once}
use Rattle.table_text.proofs.TablesOnce.{table_next, line_entry}

-- the fault is one of form, at the offset of the rest
abbrev IsAt : List ℕ → List ℕ → TableFault → Type 0
IsAt text rest (Syntax offset) = offset + length rest ≡ length text
IsAt text rest (WrongWindow line) = ⊥
IsAt text rest (ChannelTooLarge line) = ⊥
IsAt text rest OutOfMemory = ⊥

-- the fault of a text at the next line of a begun table
data IsBadNext (text : List ℕ) (t : ChannelTable) (rest : List ℕ) (f : TableFault) : Type 0 where
  no_form : (¬ HasEntry (2 * t.rounds + 1) rest) → IsAt text rest f → IsBadNext text t rest f
  other_window : (ids : List ℕ) (channel : ℕ) (after : List ℕ) →
      IsEntry (2 * t.rounds + 1) rest ids channel after → (¬ IsNextWindow t ids)
      → f ≡ WrongWindow (length t.entries + 3) → IsBadNext text t rest f
  large_channel : (ids : List ℕ) (channel : ℕ) (after : List ℕ) →
      IsEntry (2 * t.rounds + 1) rest ids channel after → IsNextWindow t ids
      → t.channels ≤ channel → f ≡ ChannelTooLarge (length t.entries + 3) → IsBadNext text t rest f

-- the fault of a text at the last line
data IsBadEnd (text rest : List ℕ) (f : TableFault) : Type 0 where
  no_last_line : (¬ HasEnd rest) → IsAt text rest f → IsBadEnd text rest f
  more_bytes : (more : List ℕ) → rest ≡ end_then more → more ≢ [] → IsAt text more f → IsBadEnd text rest f

-- the first place at which a text that is not too long differs from the text of a table
data Stops (text : List ℕ) (f : TableFault) : Type 0 where
  at_title : (¬ HasTitle text) → IsAt text text f → Stops text f
  at_sizes : (version : Version) (rest : List ℕ) → text ≡ title_then version rest →
      (¬ HasSizes version rest) → IsAt text rest f → Stops text f
  at_entry : (w : Written) (rest : List ℕ) → IsWithin text w rest → IsBadNext text w.table rest f → Stops text f
  at_end : (w : Written) (rest : List ℕ) → IsWritten w → text ≡ lines_then w rest → IsBadEnd text rest f → Stops text f

at_once : (text rest : List ℕ) (f g : TableFault) → IsAt text rest f → IsAt text rest g → f ≡ g
at_once text rest (Syntax m) (Syntax n) p q = ap Syntax (omega (arith, p, q))
at_once text rest (Syntax m) (WrongWindow n) p q = absurd q
at_once text rest (Syntax m) (ChannelTooLarge n) p q = absurd q
at_once text rest (Syntax m) OutOfMemory p q = absurd q
at_once text rest (WrongWindow m) g p q = absurd p
at_once text rest (ChannelTooLarge m) g p q = absurd p
at_once text rest OutOfMemory g p q = absurd p

bad_next_once : (text : List ℕ) (t : ChannelTable) (rest : List ℕ) (f g : TableFault) →
    IsBadNext text t rest f → IsBadNext text t rest g → f ≡ g
bad_next_once text t rest f g (no_form none at) (no_form none' at') = at_once text rest f g at at'
bad_next_once text t rest f g (no_form none at) (other_window ids channel after entry other is) =
    absurd (none (ids, channel, after, entry))
bad_next_once text t rest f g (no_form none at) (large_channel ids channel after entry next large is) =
    absurd (none (ids, channel, after, entry))
bad_next_once text t rest f g (other_window ids channel after entry other is) (no_form none at) =
    absurd (none (ids, channel, after, entry))
bad_next_once text t rest f g (other_window ids channel after entry other is)
    (other_window ids' channel' after' entry' other' is') = is ∙ sym is'
bad_next_once text t rest f g (other_window ids channel after entry other is)
    (large_channel ids' channel' after' entry' next large is') =
    let one = entry_once (2 * t.rounds + 1) rest ids ids' channel channel' after after' entry entry' in
    absurd (other (subst (IsNextWindow t) (sym one.0) next))
bad_next_once text t rest f g (large_channel ids channel after entry next large is) (no_form none at) =
    absurd (none (ids, channel, after, entry))
bad_next_once text t rest f g (large_channel ids channel after entry next large is)
    (other_window ids' channel' after' entry' other is') =
    let one = entry_once (2 * t.rounds + 1) rest ids ids' channel channel' after after' entry entry' in
    absurd (other (subst (IsNextWindow t) one.0 next))
bad_next_once text t rest f g (large_channel ids channel after entry next large is)
    (large_channel ids' channel' after' entry' next' large' is') = is ∙ sym is'

-- a correct line has no fault
no_bad_next : NumberOfWindow → WindowsHaveNumbers →
    (text : List ℕ) (t : ChannelTable) (rest : List ℕ) (f : TableFault) → IsBegun t
    → HasLine (windows_of t) (length t.entries) t.channels rest → IsBadNext text t rest f → ⊥
no_bad_next number have text t rest f begun line (no_form none at) =
    none (line.window, line.channel, line.rest, line_entry number have t (length t.entries) rest begun line)
no_bad_next number have text t rest f begun line (other_window ids channel after entry other is) =
    let good = line_entry number have t (length t.entries) rest begun line in
    let one = entry_once (2 * t.rounds + 1) rest ids line.window channel line.channel after line.rest entry good in
    other (subst (IsNextWindow t) (sym one.0) line.at)
no_bad_next number have text t rest f begun line (large_channel ids channel after entry next large is) =
    let good = line_entry number have t (length t.entries) rest begun line in
    let one = entry_once (2 * t.rounds + 1) rest ids line.window channel line.channel after line.rest entry good in
    omega (arith, large, one.1, line.below)

bad_end_once : (text rest : List ℕ) (f g : TableFault) → IsBadEnd text rest f → IsBadEnd text rest g → f ≡ g
bad_end_once text rest f g (no_last_line none at) (no_last_line none' at') = at_once text rest f g at at'
bad_end_once text rest f g (no_last_line none at) (more_bytes more is some at') = absurd (none (more, is))
bad_end_once text rest f g (more_bytes more is some at) (no_last_line none at') = absurd (none (more, is))
bad_end_once text rest f g (more_bytes more is some at) (more_bytes more' is' some' at') =
    at_once text more f g at (subst (λ l. IsAt text l g) (ap (drop 4) (sym is' ∙ is)) at')

-- the lines of a begun table begin with the first two lines
lines_title : (text : List ℕ) (w : Written) (rest : List ℕ) → text ≡ lines_then w rest → HasTitle text
unfolding lines_then
lines_title text w rest same = (w.version, _, same)

lines_sizes : (text : List ℕ) (version : Version) (second : List ℕ) (w : Written) (rest : List ℕ) →
    IsBegunText w → text ≡ title_then version second
    → text ≡ lines_then w rest → HasSizes version second
unfolding lines_then
lines_sizes text version second w rest begun title same =
    let t = w.table in
    let one = title_once version w.version second _ (sym title ∙ same) in
    subst (λ v. HasSizes v second) (sym one.0)
    (t.rounds, t.ids, t.channels, w.separation, _, sizes_of t begun.begun, begun.told, one.1)

-- a line that does not have its form
malformed_stops : (text rest : List ℕ) (f : TableFault) → IsMalformed text rest → IsAt text rest f → Stops text f
malformed_stops text rest f (no_title same none) at =
    at_title (subst (λ l. ¬ HasTitle l) same none) (subst (λ l. IsAt text l f) same at)
malformed_stops text rest f (no_sizes version title none) at = at_sizes version rest title none at
malformed_stops text rest f (no_entry w within none) at = at_entry w rest within (no_form none at)
malformed_stops text rest f (no_end w is same none) at = at_end w rest is same (no_last_line none at)
malformed_stops text rest f (bytes_after w is same some) at =
    at_end w (end_then rest) is same (more_bytes rest refl some at)

-- a text within the limit differs at its fault
fault_stops : (text : List ℕ) (f : TableFault) → f ≢ OutOfMemory → length text ≤ LONGEST_TABLE_TEXT →
    IsFault text f → Stops text f
fault_stops text (Syntax offset) some short (inl long) = absurd (omega (arith, short, long.0))
fault_stops text (Syntax offset) some short (inr fault) = malformed_stops text fault.1 (Syntax offset) fault.2 fault.3
fault_stops text (WrongWindow line) some short fault =
    let next = fault.4 in
    at_entry fault.1 next.0 next.2 (other_window fault.2 fault.3 next.1 next.3 fault.5 (ap WrongWindow fault.6))
fault_stops text (ChannelTooLarge line) some short fault =
    let next = fault.4 in
    at_entry fault.1 next.0 next.2
    (large_channel fault.2 fault.3 next.1 next.3 fault.5 fault.6 (ap ChannelTooLarge fault.7))
fault_stops text OutOfMemory some short fault = absurd (some refl)

-- a text that begins with the lines of two begun tables differs at one place
entries_stop : NumberOfWindow → WindowsHaveNumbers →
    (text : List ℕ) (v w : Written) (x y : List ℕ) (f g : TableFault) → IsWithin text v x
    → IsWithin text w y → IsBadNext text v.table x f → IsBadNext text w.table y g
    → (length v.table.entries ≡ length w.table.entries) ⊎
    ((length v.table.entries < length w.table.entries) ⊎ (length w.table.entries < length v.table.entries))
    → f ≡ g
entries_stop number have text v w x y f g p q bad bad' (inl size) =
    let one = lines_once v w x y p.begun q.begun (sym p.before ∙ q.before) size in
    let moved = subst (λ l. IsBadNext text v.table l g) (sym one.1)
    (subst (λ u. IsBadNext text u.table y g) (sym one.0) bad') in
    bad_next_once text v.table x f g bad moved
entries_stop number have text v w x y f g p q bad bad' (inr (inl less)) =
    absurd (no_bad_next number have text v.table x f p.begun.begun
    (lines_next v w x y p.begun q.begun (sym p.before ∙ q.before) less) bad)
entries_stop number have text v w x y f g p q bad bad' (inr (inr more)) =
    absurd (no_bad_next number have text w.table y g q.begun.begun
    (lines_next w v y x q.begun p.begun (sym q.before ∙ p.before) more) bad')

-- a text does not differ within the lines of a table
within_table : NumberOfWindow → WindowsHaveNumbers →
    (text : List ℕ) (v w : Written) (x y : List ℕ) (f : TableFault) → IsWithin text v x
    → IsBadNext text v.table x f → IsWritten w → text ≡ lines_then w y → ⊥
within_table number have text v w x y f p bad is same =
    no_bad_next number have text v.table x f p.begun.begun
    (table_next v w x y p.begun is (sym p.before ∙ same) p.more) bad

ends_once : (text : List ℕ) (v w : Written) (x y : List ℕ) (f g : TableFault) → IsWritten v → IsWritten w →
    text ≡ lines_then v x → text ≡ lines_then w y
    → IsBadEnd text x f → IsBadEnd text y g → f ≡ g
ends_once text v w x y f g p q same same' bad bad' =
    let one = tables_once v w x y p q (sym same ∙ same') in
    bad_end_once text x f g bad (subst (λ l. IsBadEnd text l g) (sym one.1) bad')

-- a text differs at its second line in one way
sizes_stop : (text : List ℕ) (v w : Version) (x y : List ℕ) (f g : TableFault) → text ≡ title_then v x →
    text ≡ title_then w y → IsAt text x f → IsAt text y g
    → f ≡ g
sizes_stop text v w x y f g title title' at at' =
    at_once text x f g at (subst (λ l. IsAt text l g) (sym (title_once v w x y (sym title ∙ title')).1) at')

stops_once : NumberOfWindow → WindowsHaveNumbers → (text : List ℕ) (f g : TableFault) → Stops text f →
    Stops text g → f ≡ g
stops_once number have text f g (at_title none at) (at_title none' at') = at_once text text f g at at'
stops_once number have text f g (at_title none at) (at_sizes version rest title none' at') =
    absurd (none (version, rest, title))
stops_once number have text f g (at_title none at) (at_entry w rest within bad) =
    absurd (none (lines_title text w rest within.before))
stops_once number have text f g (at_title none at) (at_end w rest is same bad) =
    absurd (none (lines_title text w rest same))
stops_once number have text f g (at_sizes version rest title none at) (at_title none' at') =
    absurd (none' (version, rest, title))
stops_once number have text f g (at_sizes v x title none at) (at_sizes w y title' none' at') =
    sizes_stop text v w x y f g title title' at at'
stops_once number have text f g (at_sizes version second title none at) (at_entry w rest within bad) =
    absurd (none (lines_sizes text version second w rest within.begun title within.before))
stops_once number have text f g (at_sizes version second title none at) (at_end w rest is same bad) =
    absurd (none (lines_sizes text version second w rest (begun_of w is) title same))
stops_once number have text f g (at_entry w rest within bad) (at_title none at) =
    absurd (none (lines_title text w rest within.before))
stops_once number have text f g (at_entry w rest within bad) (at_sizes version second title none at) =
    absurd (none (lines_sizes text version second w rest within.begun title within.before))
stops_once number have text f g (at_entry v x within bad) (at_entry w y within' bad') =
    entries_stop number have text v w x y f g within within' bad bad'
    (cases_order (length v.table.entries) (length w.table.entries))
stops_once number have text f g (at_entry v x within bad) (at_end w y is same bad') =
    absurd (within_table number have text v w x y f within bad is same)
stops_once number have text f g (at_end w rest is same bad) (at_title none at) =
    absurd (none (lines_title text w rest same))
stops_once number have text f g (at_end w rest is same bad) (at_sizes version second title none at) =
    absurd (none (lines_sizes text version second w rest (begun_of w is) title same))
stops_once number have text f g (at_end w y is same bad') (at_entry v x within bad) =
    absurd (within_table number have text v w x y g within bad is same)
stops_once number have text f g (at_end v x is same bad) (at_end w y is' same' bad') =
    ends_once text v w x y f g is is' same same' bad bad'

-- the last line of a table has no fault
good_end : (text rest : List ℕ) (f : TableFault) → rest ≡ end_then [] → IsBadEnd text rest f → ⊥
good_end text rest f is (no_last_line none at) = none ([], is)
good_end text rest f is (more_bytes more is' some at) = some (ap (drop 4) (sym is' ∙ is))

-- the text of a table does not differ
never_stops : NumberOfWindow → WindowsHaveNumbers → (text : List ℕ) (w : Written) (f : TableFault) →
    IsWritten w → text ≡ lines_then w (end_then [])
    → Stops text f → ⊥
never_stops number have text w f is same (at_title none at) = none (lines_title text w (end_then []) same)
never_stops number have text w f is same (at_sizes version second title none at) =
    none (lines_sizes text version second w (end_then []) (begun_of w is) title same)
never_stops number have text w f is same (at_entry v x within bad) =
    within_table number have text v w x (end_then []) f within bad is same
never_stops number have text w f is same (at_end v x is' same' bad) =
    good_end text x f (tables_once v w x (end_then []) is' is (sym same' ∙ same)).1 bad

-- the fault of the length, or one of a text within it
fault_cases : (text : List ℕ) (f : TableFault) → IsFault text f
    → ((LONGEST_TABLE_TEXT < length text) × (f ≡ Syntax LONGEST_TABLE_TEXT)) ⊎ (length text ≤ LONGEST_TABLE_TEXT)
fault_cases text (Syntax offset) (inl long) = inl (long.0, ap Syntax long.1)
fault_cases text (Syntax offset) (inr fault) = inr fault.0
fault_cases text (WrongWindow line) fault = inr fault.0
fault_cases text (ChannelTooLarge line) fault = inr fault.0
fault_cases text OutOfMemory fault = inr fault

one_of : NumberOfWindow → WindowsHaveNumbers → (text : List ℕ) (f g : TableFault) → f ≢ OutOfMemory →
    g ≢ OutOfMemory → IsFault text f → IsFault text g
    → ((LONGEST_TABLE_TEXT < length text) × (f ≡ Syntax LONGEST_TABLE_TEXT)) ⊎ (length text ≤ LONGEST_TABLE_TEXT)
    → ((LONGEST_TABLE_TEXT < length text) × (g ≡ Syntax LONGEST_TABLE_TEXT)) ⊎
    (length text ≤ LONGEST_TABLE_TEXT) → f ≡ g
one_of number have text f g some some' fault fault' (inl long) (inl long') = long.1 ∙ sym long'.1
one_of number have text f g some some' fault fault' (inl long) (inr short) = absurd (omega (arith, long.0, short))
one_of number have text f g some some' fault fault' (inr short) (inl long) = absurd (omega (arith, long.0, short))
one_of number have text f g some some' fault fault' (inr short) (inr short') =
    stops_once number have text f g (fault_stops text f some short fault) (fault_stops text g some' short fault')

pub one_fault : NumberOfWindow → WindowsHaveNumbers → OneTableFault
one_fault number have text f g some some' fault fault' =
    one_of number have text f g some some' fault fault' (fault_cases text f fault) (fault_cases text g fault')

-- a fault is OutOfMemory or another one
memory_or_not : (f : TableFault) → (f ≡ OutOfMemory) ⊎ (f ≢ OutOfMemory)
memory_or_not (Syntax offset) = inr (λ same. cc)
memory_or_not (WrongWindow line) = inr (λ same. cc)
memory_or_not (ChannelTooLarge line) = inr (λ same. cc)
memory_or_not OutOfMemory = inl refl

pub texts_read : NumberOfWindow → WindowsHaveNumbers → TableTextsAreShort → TableTextsAreRead
unfolding text_of
texts_read number have short w f is fault =
    elim (memory_or_not f) [
      | inl same ↦ same
      | inr some ↦
          absurd (never_stops number have (text_of w) w f is refl (fault_stops (text_of w) f some (short w is) fault))
    ]
