-- Each text is that of a table and a separation, or has a fault.
use Rattle.std.proofs.Common.{◌≡◌, ◌≢◌, ℕ, zero, suc, ◌+◌, ◌-◌, ◌*◌, ◌^◌, ◌<◌, ◌≤◌, Option, Some, None, List, [], ◌∷◌}
use Rattle.std.proofs.Common.{◌++◌, length, inl, inr, refl, sym, ap, ◌∙◌, arith, append-nil, length-append}
use Rattle.std.specs.Prelude.{◌⊎◌, codes, slice_get}
use Rattle.std.specs.Fmt.{decimal}
use Rattle.std.proofs.lemmas.Bool.{cases_lt, cases_eq}
use Rattle.std.proofs.lemmas.Option.{same_Some}
use Rattle.std.proofs.lemmas.List.Elements.{All-nil}
use Rattle.node_program.specs.declared.limits.TheConstants.{MAX_CHANNELS}
use Rattle.win_index.specs.declared.limits.TheConstants.{MAX_IDS, MAX_ROUNDS, MAX_WINDOWS}
use Rattle.win_index.specs.Windows.{windows}
use Rattle.channel_tables.specs.Tables.{ChannelTable, windows_of}
use Rattle.channel_tables.specs.declared.separation.Separation.{Separation}
use Rattle.table_text.specs.declared.version.Version.{Version}
use Rattle.table_text.specs.declared.version.Version.TheVariants.{One, Two}
use Rattle.table_text.specs.declared.limits.TheConstants.{LONGEST_TABLE_TEXT}
use Rattle.table_text.specs.declared.fault.TableFault.{TableFault}
use Rattle.table_text.specs.declared.fault.TableFault.TheVariants.{Syntax, WrongWindow, ChannelTooLarge, OutOfMemory}
use Rattle.table_text.specs.TableText.{Written, written, title_then, counts_then, counts_end, distances_then}
use Rattle.table_text.specs.TableText.{sizes_then, ids_then, entry_then, end_then, lines_then, text_of}
use Rattle.table_text.specs.Texts.{IsBegunText, IsWritten, IsTextOf}
use Rattle.table_text.specs.LineForms.{AreSizes, IsSeparationOf, HasTitle, HasSizes, IsEntry, HasEntry}
use Rattle.table_text.specs.Faults.{IsWithin, IsMalformed, no_title, no_sizes, no_entry, no_end, bytes_after}
use Rattle.table_text.specs.Faults.{IsNextWindow, IsFault}
use Rattle.table_text.proofs.TableTexts.{rest_within, lines_more, begun_more}
use Rattle.report_laws.proofs.Fronts.{Decided, Follows, IsPart, nothing, byte, both, bytes, number, field, Below, below}
use Rattle.report_laws.proofs.Fronts.{Lists, lists}

-- the lines are parts of a text
title : (version : Version) → IsPart (title_then version)
title One = both (λ rest. codes "nbhd-table 1" ++ rest) (λ rest. 10 ∷ rest) (bytes (codes "nbhd-table 1")) (byte 10)
title Two = both (λ rest. codes "nbhd-table 2" ++ rest) (λ rest. 10 ∷ rest) (bytes (codes "nbhd-table 2")) (byte 10)

counts : (r i c end : ℕ) → IsPart (counts_then r i c end)
counts r i c end =
    both (λ rest. codes "rounds " ++ (decimal r ++ 32 ∷ rest))
    (λ rest. codes "ids " ++ (decimal i ++ 32 ∷ (codes "channels " ++ (decimal c ++ end ∷ rest))))
    (field (codes "rounds ") r 32)
    (both (λ rest. codes "ids " ++ (decimal i ++ 32 ∷ rest)) (λ rest. codes "channels " ++ (decimal c ++ end ∷ rest))
    (field (codes "ids ") i 32) (field (codes "channels ") c end))

distances : (version : Version) (s : Separation) → IsPart (distances_then version s)
distances One s = nothing
distances Two s =
    both (λ rest. codes "near " ++ (decimal s.near ++ 32 ∷ rest)) (λ rest. codes "far " ++ (decimal s.far ++ 10 ∷ rest))
    (field (codes "near ") s.near 32) (field (codes "far ") s.far 10)

sizes : (version : Version) (r i c : ℕ) (s : Separation) → IsPart (sizes_then version r i c s)
sizes version r i c s = both (counts_then r i c (counts_end version)) (distances_then version s)
    (counts r i c (counts_end version)) (distances version s)

ids_part : (ids : List ℕ) → IsPart (ids_then ids)
ids_part [] = nothing
ids_part (id ∷ ids) = both (λ rest. decimal id ++ 32 ∷ rest) (ids_then ids) (number id 32) (ids_part ids)

entry : (ids : List ℕ) (channel : ℕ) → IsPart (entry_then ids channel)
entry ids channel = both (ids_then ids) (λ rest. codes ": " ++ (decimal channel ++ 10 ∷ rest)) (ids_part ids)
    (field (codes ": ") channel 10)

ending : IsPart end_then
ending = both (λ rest. codes "end" ++ rest) (λ rest. 10 ∷ rest) (bytes (codes "end")) (byte 10)

-- so it is decided whether a text begins with a line of a form
has_title : (text : List ℕ) → Decided (HasTitle text)
has_title text = go ((title One).find text) ((title Two).find text)
  where
    neither : ¬ Follows (title_then One) text → ¬ Follows (title_then Two) text → HasTitle text → ⊥
    neither one two (One, rest, is) = one (record { rest = rest; is = is })
    neither one two (Two, rest, is) = two (record { rest = rest; is = is })

    go : Decided (Follows (title_then One) text) → Decided (Follows (title_then Two) text) → Decided (HasTitle text)
    go (inl one) two = inl (One, one.rest, one.is)
    go (inr one) (inl two) = inl (Two, two.rest, two.is)
    go (inr one) (inr two) = inr (neither one two)

are_sizes : (r i c : ℕ) → Decided (AreSizes r i c)
are_sizes r i c =
    go (cases_lt MAX_ROUNDS r) (cases_lt i (2 * r + 2)) (cases_lt MAX_IDS i)
    (cases_lt MAX_WINDOWS (length (windows (2 * r + 1) i))) (cases_lt c 1) (cases_lt MAX_CHANNELS c)
  where
    go : (MAX_ROUNDS < r) ⊎ (r ≤ MAX_ROUNDS) → (i < 2 * r + 2) ⊎ (2 * r + 2 ≤ i) → (MAX_IDS < i) ⊎ (i ≤ MAX_IDS)
        → (MAX_WINDOWS < length (windows (2 * r + 1) i)) ⊎ (length (windows (2 * r + 1) i) ≤ MAX_WINDOWS)
        → (c < 1) ⊎ (1 ≤ c) → (MAX_CHANNELS < c) ⊎ (c ≤ MAX_CHANNELS)
        → Decided (AreSizes r i c)
    go (inl bad) b d e f g = inr (λ are. omega (arith, bad, are.few_rounds))
    go (inr a) (inl bad) d e f g = inr (λ are. omega (arith, bad, are.shape.ids.enough))
    go (inr a) (inr b) (inl bad) e f g = inr (λ are. omega (arith, bad, are.shape.ids.few))
    go (inr a) (inr b) (inr d) (inl bad) f g = inr (λ are. omega (arith, bad, are.shape.few_windows))
    go (inr a) (inr b) (inr d) (inr e) (inl bad) g = inr (λ are. omega (arith, bad, are.some_channels))
    go (inr a) (inr b) (inr d) (inr e) (inr f) (inl bad) = inr (λ are. omega (arith, bad, are.few_channels))
    go (inr a) (inr b) (inr d) (inr e) (inr f) (inr g) = inl (record {
      few_rounds = a;
      shape = record { ids = record { enough = b; few = d }; few_windows = e };
      some_channels = f;
      few_channels = g;
    })

is_separation : (version : Version) (s : Separation) → Decided (IsSeparationOf version s)
is_separation One s = go (cases_eq s.near 1) (cases_eq s.far 0)
  where
    go : (s.near ≡ 1) ⊎ (s.near ≡ 1 → ⊥) → (s.far ≡ 0) ⊎ (s.far ≡ 0 → ⊥) → Decided (IsSeparationOf One s)
    go (inl near) (inl far) = inl (λ k. record { near = near k; far = far k })
    go (inl near) (inr bad) = inr (λ is. bad (ap (λ (u : Separation). u.far) is))
    go (inr bad) far = inr (λ is. bad (ap (λ (u : Separation). u.near) is))
is_separation Two s = go (cases_lt s.near 1) (cases_lt MAX_CHANNELS s.near) (cases_lt MAX_CHANNELS s.far)
  where
    go : (s.near < 1) ⊎ (1 ≤ s.near) → (MAX_CHANNELS < s.near) ⊎ (s.near ≤ MAX_CHANNELS)
        → (MAX_CHANNELS < s.far) ⊎ (s.far ≤ MAX_CHANNELS)
        → Decided (IsSeparationOf Two s)
    go (inl bad) b d = inr (λ is. omega (arith, bad, is.some_near))
    go (inr a) (inl bad) d = inr (λ is. omega (arith, bad, is.small_near))
    go (inr a) (inr b) (inl bad) = inr (λ is. omega (arith, bad, is.small_far))
    go (inr a) (inr b) (inr d) = inl (record { some_near = a; small_near = b; small_far = d })

near_small : (version : Version) (s : Separation) → IsSeparationOf version s → s.near < MAX_CHANNELS + 1
near_small One s is = let e : s.near ≡ 1 = ap (λ (u : Separation). u.near) is in omega (arith, e)
near_small Two s is = omega (arith, is.small_near)

far_small : (version : Version) (s : Separation) → IsSeparationOf version s → s.far < MAX_CHANNELS + 1
far_small One s is = let e : s.far ≡ 0 = ap (λ (u : Separation). u.far) is in omega (arith, e)
far_small Two s is = omega (arith, is.small_far)

-- the second line with these numbers
record Sized (version : Version) (text : List ℕ) (r i c near far : ℕ) : Type 0 where
  pub sizes : AreSizes r i c
  pub told : IsSeparationOf version (record { near = near; far = far })
  pub rest : Follows (sizes_then version r i c (record { near = near; far = far })) text

sized : (version : Version) (text : List ℕ) (r i c near far : ℕ) → Decided (Sized version text r i c near far)
sized version text r i c near far = go (are_sizes r i c) (is_separation version s) ((sizes version r i c s).find text)
  where
    s : Separation
    s = record { near = near; far = far }

    go : Decided (AreSizes r i c) → Decided (IsSeparationOf version s)
        → Decided (Follows (sizes_then version r i c s) text)
        → Decided (Sized version text r i c near far)
    go (inl are) (inl is) (inl rest) = inl (record { sizes = are; told = is; rest = rest })
    go (inl are) (inl is) (inr bad) = inr (λ all. bad all.rest)
    go (inl are) (inr bad) rest = inr (λ all. bad all.told)
    go (inr bad) is rest = inr (λ all. bad all.sizes)

has_sizes : (version : Version) (text : List ℕ) → Decided (HasSizes version text)
has_sizes version text = go (below (MAX_ROUNDS + 1) OfRounds of_rounds)
  where
    OfNear : ℕ → ℕ → ℕ → ℕ → Type 0
    OfNear r i c near = Below (MAX_CHANNELS + 1) (Sized version text r i c near)

    OfChannels : ℕ → ℕ → ℕ → Type 0
    OfChannels r i c = Below (MAX_CHANNELS + 1) (OfNear r i c)

    OfIds : ℕ → ℕ → Type 0
    OfIds r i = Below (MAX_CHANNELS + 1) (OfChannels r i)

    OfRounds : ℕ → Type 0
    OfRounds r = Below (MAX_IDS + 1) (OfIds r)

    of_rounds : (r : ℕ) → Decided (OfRounds r)
    of_rounds r =
        below (MAX_IDS + 1) (OfIds r)
        (λ i. below (MAX_CHANNELS + 1) (OfChannels r i) (λ c. below (MAX_CHANNELS + 1) (OfNear r i c)
        (λ near. below (MAX_CHANNELS + 1) (Sized version text r i c near) (sized version text r i c near))))

    found : Below (MAX_ROUNDS + 1) OfRounds → HasSizes version text
    found r =
        let i = r.is in
        let c = i.is in
        let near = c.is in
        let far = near.is in (
          r.number,
          i.number,
          c.number,
          record { near = near.number; far = far.number },
          far.is.rest.rest,
          far.is.sizes,
          far.is.told,
          far.is.rest.is,
        )

    none : ¬ Below (MAX_ROUNDS + 1) OfRounds → HasSizes version text → ⊥
    none bad (r, i, c, s, rest, are, told, is) = bad (record {
      number = r;
      less = omega (arith, are.few_rounds);
      is =
          record {
            number = i;
            less = omega (arith, are.shape.ids.few);
            is = record {
              number = c;
              less = omega (arith, are.few_channels);
              is =
                  record {
                    number = s.near;
                    less = near_small version s told;
                    is = record {
                      number = s.far;
                      less = far_small version s told;
                      is =
                          record { sizes = are; told = told; rest = record { rest = rest; is = is } };
                    };
                  };
            };
          };
    })

    go : Decided (Below (MAX_ROUNDS + 1) OfRounds) → Decided (HasSizes version text)
    go (inl some) = inl (found some)
    go (inr bad) = inr (none bad)

has_entry : (width : ℕ) (text : List ℕ) → Decided (HasEntry width text)
has_entry width text =
    go (lists (2 ^ 32) width OfIds (λ ids. below (2 ^ 32) (OfChannel ids) (λ channel. (entry ids channel).find text)))
  where
    OfChannel : List ℕ → ℕ → Type 0
    OfChannel ids channel = Follows (entry_then ids channel) text

    OfIds : List ℕ → Type 0
    OfIds ids = Below (2 ^ 32) (OfChannel ids)

    go : Decided (Lists (2 ^ 32) width OfIds) → Decided (HasEntry width text)
    go (inl l) =
        inl (
          l.list,
          l.is.number,
          l.is.is.rest,
          record { size = l.size; ids_fit = l.fit; channel_fits = l.is.less; spelled = l.is.is.is },
        )
    go (inr bad) = inr (λ has. bad (record {
      list = has.0;
      size = has.3.size;
      fit = has.3.ids_fit;
      is =
          record { number = has.1; less = has.3.channel_fits; is = record { rest = has.2; is = has.3.spelled } };
    }))

same_or_not : (a b : List ℕ) → Decided (a ≡ b)
same_or_not a b = go ((bytes b).find a)
  where
    ends : (rest : List ℕ) → a ≡ b ++ rest → Decided (a ≡ b)
    ends [] is = inl (is ∙ append-nil b)
    ends (c ∷ cs) is = inr (λ same. let e : length b ≡ length (b ++ c ∷ cs) = ap length (sym same ∙ is) in
        omega (arith, e, length-append b (c ∷ cs)))

    go : Decided (Follows (λ rest. b ++ rest) a) → Decided (a ≡ b)
    go (inl met) = ends met.rest met.is
    go (inr bad) = inr (λ same. bad (record { rest = []; is = same ∙ sym (append-nil b) }))

is_next : (o : Option (List ℕ)) (ids : List ℕ) → Decided (o ≡ Some ids)
is_next None ids = inr (λ is. cc)
is_next (Some window) ids = go (same_or_not window ids)
  where
    go : Decided (window ≡ ids) → Decided (Some window ≡ Some ids)
    go (inl same) = inl (ap (λ w. Some w) same)
    go (inr bad) = inr (λ is. bad (same_Some window ids is))

-- the text is that of a table and a separation, or has a fault
pub data TableAnswer (text : List ℕ) : Type 0 where
  is_text : (t : ChannelTable) (s : Separation) → IsTextOf text t s → TableAnswer text
  has_fault : (f : TableFault) → f ≢ OutOfMemory → IsFault text f → TableAnswer text

malformed : (text rest : List ℕ) → length text ≤ LONGEST_TABLE_TEXT → IsMalformed text rest → TableAnswer text
malformed text rest short is =
    has_fault (Syntax (length text - length rest)) (λ same. cc)
    (inr (short, rest, is, omega (arith, rest_within text rest is)))

module _ (text : List ℕ) (short : length text ≤ LONGEST_TABLE_TEXT) where
  at_end : (w : Written) (here : List ℕ) → IsWritten w → text ≡ lines_then w here → TableAnswer text
  unfolding text_of
  at_end w here is read = go (ending.find here)
    where
      ends : (rest : List ℕ) → here ≡ end_then rest → TableAnswer text
      ends [] line = is_text w.table w.separation (w.version, is, read ∙ ap (lines_then w) line)
      ends (b ∷ bs) line = malformed text (b ∷ bs) short (bytes_after w is (read ∙ ap (lines_then w) line) (λ same. cc))

      go : Decided (Follows end_then here) → TableAnswer text
      go (inl met) = ends met.rest met.is
      go (inr bad) = malformed text here short (no_end w is read (λ has. bad (record { rest = has.0; is = has.1 })))

  at_line : (left : ℕ) (w : Written) (here : List ℕ) → IsBegunText w → text ≡ lines_then w here →
      length w.table.entries + left ≡ length (windows_of w.table) → TableAnswer text
  at_line zero w here begun read size =
      at_end w here (record { table = record { begun = begun.begun; size = omega (arith, size) }; told = begun.told })
      read
  at_line (suc left) w here begun read size =
      go (λ v rest. at_line left v rest) (has_entry (2 * w.table.rounds + 1) here)
    where
      t : ChannelTable
      t = w.table

      More : Type 0
      More = (v : Written) (rest : List ℕ) → IsBegunText v → text ≡ lines_then v rest →
          length v.table.entries + left ≡ length (windows_of v.table) → TableAnswer text

      within : IsWithin text w here
      within = record { begun = begun; before = read; more = omega (arith, size) }

      channel_of_line : More → (ids : List ℕ) (channel : ℕ) (rest : List ℕ)
          → IsEntry (2 * t.rounds + 1) here ids channel rest → IsNextWindow t ids
          → (channel < t.channels) ⊎ (t.channels ≤ channel) → TableAnswer text
      channel_of_line more ids channel rest is next (inl less) =
          more (written w.version (record t { entries = t.entries ++ channel ∷ [] }) w.separation) rest
          (record { begun = begun_more t channel begun.begun (omega (arith, size)) less; told = begun.told })
          (lines_more w.version t w.separation text here ids channel rest read next is.spelled)
          (omega (arith, size, length-append t.entries (channel ∷ [])))
      channel_of_line more ids channel rest is next (inr large) =
          has_fault (ChannelTooLarge (length t.entries + 3)) (λ same. cc)
          (short, w, ids, channel, (here, rest, within, is), next, large, refl)

      window_of_line : More → (ids : List ℕ) (channel : ℕ) (rest : List ℕ) →
          IsEntry (2 * t.rounds + 1) here ids channel rest → Decided (IsNextWindow t ids) → TableAnswer text
      window_of_line more ids channel rest is (inl next) =
          channel_of_line more ids channel rest is next (cases_lt channel t.channels)
      window_of_line more ids channel rest is (inr wrong) =
          has_fault (WrongWindow (length t.entries + 3)) (λ same. cc)
          (short, w, ids, channel, (here, rest, within, is), wrong, refl)

      go : More → Decided (HasEntry (2 * t.rounds + 1) here) → TableAnswer text
      go more (inl has) =
          window_of_line more has.0 has.1 has.2 has.3 (is_next (slice_get (windows_of t) (length t.entries)) has.0)
      go more (inr bad) = malformed text here short (no_entry w within bad)

  at_sizes : (version : Version) (here : List ℕ) → text ≡ title_then version here →
      Decided (HasSizes version here) → TableAnswer text
  unfolding lines_then
  at_sizes version here read (inr bad) = malformed text here short (no_sizes version read bad)
  at_sizes version here read (inl (r, i, c, s, rest, are, told, is)) =
      let t : ChannelTable = record { ids = i; rounds = r; channels = c; entries = [] } in
      at_line (length (windows_of t)) (written version t s) rest
      (record {
        begun = record {
          few_rounds = are.few_rounds;
          shape = are.shape;
          some_channels = are.some_channels;
          few_channels = are.few_channels;
          size = omega arith;
          below = All-nil (λ channel. channel < c);
        };
        told = told;
      })
      (read ∙ ap (title_then version) is)
      (omega arith)

  at_title : Decided (HasTitle text) → TableAnswer text
  at_title (inl (version, rest, is)) = at_sizes version rest is (has_sizes version rest)
  at_title (inr bad) = malformed text text short (no_title refl bad)

pub table_answer : (text : List ℕ) → TableAnswer text
table_answer text = go (cases_lt LONGEST_TABLE_TEXT (length text))
  where
    go : (LONGEST_TABLE_TEXT < length text) ⊎ (length text ≤ LONGEST_TABLE_TEXT) → TableAnswer text
    go (inl long) = has_fault (Syntax LONGEST_TABLE_TEXT) (λ same. cc) (inl (long, refl))
    go (inr short) = at_title text short (has_title text)
