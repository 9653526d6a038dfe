-- The text of a table is within the limit.
use Rattle.std.proofs.Common.{◌≡◌, ℕ, zero, suc, ◌+◌, ◌*◌, ◌^◌, ◌<◌, ◌≤◌, List, [], ◌∷◌, ◌++◌, length, get_or, inl, inr}
use Rattle.std.proofs.Common.{sym, arith, length-append}
use Rattle.std.specs.Prelude.{codes, All}
use Rattle.std.specs.Fmt.{decimal}
use Rattle.std.proofs.Math.Nat.{mul-le-mul}
use Rattle.std.proofs.lemmas.Bool.{cases_lt}
use Rattle.std.proofs.lemmas.Fmt.{length-decimal-le}
use Rattle.std.proofs.lemmas.List.Elements.{All-head, All-tail}
use Rattle.std.proofs.lemmas.Option.{slice_get-get_or}
use Rattle.win_index.specs.declared.limits.TheConstants.{MAX_IDS, MAX_ROUNDS, MAX_WINDOWS}
use Rattle.win_index.specs.Falling.{falling}
use Rattle.win_index.specs.Windows.{IsWindow}
use Rattle.win_index.specs.Laws.{CountOfWindows, NumberOfWindow, WindowsHaveNumbers}
use Rattle.channel_tables.specs.Tables.{ChannelTable, IsBegun, windows_of}
use Rattle.channel_tables.specs.declared.separation.Separation.{Separation}
use Rattle.table_text.specs.declared.version.Version.{Version}
use Rattle.table_text.specs.declared.version.Version.TheVariants.{One, Two}
use Rattle.table_text.specs.TableText.{Written, counts_then, counts_end, distances_then, ids_then, entry_then}
use Rattle.table_text.specs.TableText.{entries_then, end_then, head_then, lines_then, text_of}
use Rattle.table_text.specs.LineForms.{AreSizes, IsSeparationOf}
use Rattle.table_text.specs.Texts.{IsBegunText}
use Rattle.table_text.specs.Laws.{TableTextsAreShort}
use Rattle.table_text.proofs.TablesOnce.{begun_of, sizes_of, window_at}
use Rattle.table_text.proofs.TableLines.{title_length}

falling_le : (k m n : ℕ) → m ≤ n → falling m k ≤ falling n k
falling_le zero m n less = omega arith
falling_le (suc k) m n less = mul-le-mul (falling_le k m n less) (omega (arith, less))

-- a bound of the number of identifiers: with one more there are too many lists of this length
at_most : (most k m : ℕ) → falling m k ≤ MAX_WINDOWS → MAX_WINDOWS < falling (most + 1) k → m ≤ most
at_most most k m few many = elim (cases_lt most m) [
  | inl more ↦ absurd (omega (arith, falling_le k (most + 1) m (omega (arith, more)), few, many))
  | inr less ↦ less
]

-- an identifier of at most d digits, with its blank, has at most d + 1 bytes
ids_of : (d : ℕ) (ids rest : List ℕ) → 0 < d → 10 ^ d < 2 ^ 64 → All (λ id. id < 10 ^ d) ids
    → length (ids_then ids rest) ≤ (d + 1) * length ids + length rest
ids_of d [] rest some fits small = omega arith
ids_of d (id ∷ ids) rest some fits small =
    let head = All-head (λ n. n < 10 ^ d) id ids small in
    let digits = length-decimal-le d id some head (omega (arith, head, fits)) in
    omega (
      arith,
      digits,
      length-append (decimal id) (32 ∷ ids_then ids rest),
      ids_of d ids rest some fits (All-tail (λ n. n < 10 ^ d) id ids small),
    )

channel_length : (channel : ℕ) (rest : List ℕ) → channel < 10 ^ 4 →
    length (codes ": " ++ (decimal channel ++ 10 ∷ rest)) ≤ 7 + length rest
channel_length channel rest small =
    omega (
      arith,
      length-decimal-le 4 channel (omega arith) small (omega (arith, small)),
      length-append (decimal channel) (10 ∷ rest),
    )

-- the maximum number of bytes of the line of a window
abbrev most_of_line : ℕ
most_of_line = 31

-- the line of the window has at most that many bytes
abbrev IsShort : List ℕ → Type 0
IsShort window = (channel : ℕ) (rest : List ℕ) → channel < 10 ^ 4 →
    length (entry_then window channel rest) ≤ most_of_line + length rest

-- so have k identifiers of at most d digits
short_ids : (d k : ℕ) (window : List ℕ) → 0 < d → 10 ^ d < 2 ^ 64 → (d + 1) * k + 7 ≤ most_of_line → length window ≡ k
    → All (λ id. id < 10 ^ d) window → IsShort window
short_ids d k window some fits room size small channel rest few =
    let ids : length (entry_then window channel rest)
    ≤ (d + 1) * k + length (codes ": " ++ (decimal channel ++ 10 ∷ rest)) =
    rw (sym size) (ids_of d window (codes ": " ++ (decimal channel ++ 10 ∷ rest)) some fits small) in
    omega (arith, room, ids, channel_length channel rest few)

ids_below : (m bound : ℕ) (window : List ℕ) → m ≤ bound → All (λ x. x < m) window → All (λ x. x < bound) window
ids_below m bound window less below = λ i d within. omega (arith, less, below i d within)

-- two rounds allow at most 23 identifiers, three 12 and four 10
short_window : (r m : ℕ) (window : List ℕ) → r ≤ MAX_ROUNDS → m ≤ MAX_IDS →
    falling m (2 * r + 1) ≤ MAX_WINDOWS → IsWindow (2 * r + 1) m window
    → IsShort window
short_window zero m window rounds ids few is =
    short_ids 4 1 window (omega arith) (omega arith) (omega arith) is.size
    (ids_below m (10 ^ 4) window (omega (arith, ids)) is.below)
short_window (suc zero) m window rounds ids few is =
    short_ids 4 3 window (omega arith) (omega arith) (omega arith) is.size
    (ids_below m (10 ^ 4) window (omega (arith, ids)) is.below)
short_window (suc (suc zero)) m window rounds ids few is =
    short_ids 2 5 window (omega arith) (omega arith) (omega arith) is.size
    (ids_below m (10 ^ 2) window (omega (arith, at_most 23 5 m few (omega arith))) is.below)
short_window (suc (suc (suc zero))) m window rounds ids few is =
    short_ids 2 7 window (omega arith) (omega arith) (omega arith) is.size
    (ids_below m (10 ^ 2) window (omega (arith, at_most 12 7 m few (omega arith))) is.below)
short_window (suc (suc (suc (suc zero)))) m window rounds ids few is =
    short_ids 1 9 window (omega arith) (omega arith) (omega arith) is.size
    (ids_below m (10 ^ 1) window (omega (arith, at_most 10 9 m few (omega arith))) is.below)
short_window (suc (suc (suc (suc (suc r))))) m window rounds ids few is = absurd (omega (arith, rounds))

-- each window of a table has a short line
short_windows : CountOfWindows → NumberOfWindow → WindowsHaveNumbers → (t : ChannelTable) → IsBegun t →
    All IsShort (windows_of t)
short_windows count number have t begun = λ i d within.
    let k = 2 * t.rounds + 1 in
    let window = get_or (windows_of t) i d in
    let is = window_at number have k t.ids i window (slice_get-get_or (windows_of t) i d within) in
    short_window t.rounds t.ids window (omega (arith, begun.few_rounds)) (omega (arith, begun.shape.ids.few))
    (omega (arith, begun.shape.few_windows, count k t.ids)) is

entries_short : (ws : List (List ℕ)) (cs rest : List ℕ) → All IsShort ws → All (λ c. c < 10 ^ 4) cs
    → length (entries_then ws cs rest) ≤ most_of_line * length cs + length rest
entries_short ws [] rest short small = omega arith
entries_short [] (c ∷ cs) rest short small = omega arith
entries_short (w ∷ ws) (c ∷ cs) rest short small =
    let line = All-head IsShort w ws short c (entries_then ws cs rest) (All-head (λ n. n < 10 ^ 4) c cs small) in
    omega (arith, line, entries_short ws cs rest (All-tail IsShort w ws short) (All-tail (λ n. n < 10 ^ 4) c cs small))

counts_short : (rounds ids channels end : ℕ) (rest : List ℕ) → AreSizes rounds ids channels
    → length (counts_then rounds ids channels end rest) ≤ 32 + length rest
counts_short rounds ids channels end rest are =
    let third = codes "channels " ++ (decimal channels ++ end ∷ rest) in
    let second = codes "ids " ++ (decimal ids ++ 32 ∷ third) in
    let few_rounds =
    length-decimal-le 1 rounds (omega arith) (omega (arith, are.few_rounds)) (omega (arith, are.few_rounds)) in
    let few_ids =
    length-decimal-le 4 ids (omega arith) (omega (arith, are.shape.ids.few)) (omega (arith, are.shape.ids.few)) in
    let few_channels = length-decimal-le 4 channels (omega arith) (omega (arith, are.few_channels))
    (omega (arith, are.few_channels)) in
    omega (
      arith,
      few_rounds,
      few_ids,
      few_channels,
      length-append (decimal rounds) (32 ∷ second),
      length-append (decimal ids) (32 ∷ third),
      length-append (decimal channels) (end ∷ rest),
    )

-- two distances of at most d digits each
two_short : (d : ℕ) (s : Separation) (rest : List ℕ) → 0 < d → 10 ^ d < 2 ^ 64 → s.near < 10 ^ d → s.far < 10 ^ d
    → length (distances_then Two s rest) ≤ 11 + (2 * d + length rest)
two_short d s rest some fits near far =
    let second = codes "far " ++ (decimal s.far ++ 10 ∷ rest) in
    omega (
      arith,
      length-decimal-le d s.near some near (omega (arith, near, fits)),
      length-decimal-le d s.far some far (omega (arith, far, fits)),
      length-append (decimal s.near) (32 ∷ second),
      length-append (decimal s.far) (10 ∷ rest),
    )

distances_short : (version : Version) (s : Separation) (rest : List ℕ) → IsSeparationOf version s →
    length (distances_then version s rest) ≤ 19 + length rest
distances_short One s rest told = omega arith
distances_short Two s rest told =
    let short = two_short 4 s rest (omega arith) (omega arith) (omega (arith, told.small_near))
    (omega (arith, told.small_far)) in
    omega (arith, short)

-- the first two lines have at most 64 bytes
head_short : (w : Written) (rest : List ℕ) → IsBegunText w → length (head_then w rest) ≤ 64 + length rest
head_short w rest begun =
    let t = w.table in
    omega (
      arith,
      title_length w.version (counts_then t.rounds t.ids t.channels (counts_end w.version)
          (distances_then w.version w.separation rest)),
      counts_short t.rounds t.ids t.channels (counts_end w.version) (distances_then w.version w.separation rest)
          (sizes_of t begun.begun),
      distances_short w.version w.separation rest begun.told,
    )

-- in version 2 they have at most 76, whatever near and far are
pub any_head_short : (t : ChannelTable) (s : Separation) (rest : List ℕ) → IsBegun t → s.near < 2 ^ 32 → s.far < 2 ^ 32
    → length (head_then (record { version = Two; table = t; separation = s }) rest) ≤ 76 + length rest
any_head_short t s rest begun near far =
    omega (
      arith,
      counts_short t.rounds t.ids t.channels 32 (distances_then Two s rest) (sizes_of t begun),
      two_short 10 s rest (omega arith) (omega arith) (omega (arith, near)) (omega (arith, far)),
    )

lines_short : CountOfWindows → NumberOfWindow → WindowsHaveNumbers → (w : Written) (rest : List ℕ) → IsBegunText w
    → length (lines_then w rest) ≤ 64 + (most_of_line * length w.table.entries + length rest)
unfolding lines_then
lines_short count number have w rest begun =
    let t = w.table in
    let small = ids_below t.channels (10 ^ 4) t.entries (omega (arith, begun.begun.few_channels)) begun.begun.below in
    omega (
      arith,
      head_short w (entries_then (windows_of t) t.entries rest) begun,
      entries_short (windows_of t) t.entries rest (short_windows count number have t begun.begun) small,
    )

pub texts_short : CountOfWindows → NumberOfWindow → WindowsHaveNumbers → TableTextsAreShort
unfolding text_of
texts_short count number have w is =
    omega (
      arith,
      lines_short count number have w (end_then []) (begun_of w is),
      is.table.size,
      is.table.begun.shape.few_windows,
    )
