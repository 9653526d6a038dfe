use Rattle.std.proofs.Common.{◌≡◌, ℕ, ◌+◌, ◌*◌, get_or, All, subst, sym, arith, inl}
use Rattle.std.proofs.lemmas.Option.{slice_get-get_or}
use Rattle.win_index.specs.Arcs.{part_at}
use Rattle.win_index.specs.Windows.{windows}
use Rattle.win_index.proofs.Windows.{slice_window, windows_all}
use Rattle.channel_tables.specs.Tables.{ChannelTable}
use Rattle.channel_tables.specs.declared.separation.Separation.{Separation}
use Rattle.channel_tables.specs.Apart.{IsBad, IsApart, IsApartEverywhere}
use Rattle.channel_tables.specs.Proper.{IsProper, IsGoodEverywhere}
use Rattle.channel_tables.proofs.Close.{close_of_same, same_of_too_close, apart_not_too_close, apart_of_not_too_close}
use Rattle.channel_tables.proofs.Witnesses.{channel_some, channel_around}
use Rattle.channel_tables.proofs.laws.one_apart_differs.Goals as goal

abbrev one_apart : Separation
one_apart = record { near = 1; far = 0 }

-- one more identifier than a window has
more : (t : ChannelTable) → 2 * t.rounds + 1 + 1 ≡ 2 * t.rounds + 2
more t = omega arith

proper_of_apart : (t : ChannelTable) → IsApart t one_apart → IsProper t
unfolding IsBad
proper_of_apart t apart k d within same =
    let len : ℕ = 2 * t.rounds + 2 in
    let tuple = get_or (windows len t.ids) k d in
    let is = windows_all len t.ids k tuple (slice_get-get_or (windows len t.ids) k d within) in
    let first = slice_window t.ids len 0 (2 * t.rounds + 1) tuple is (omega arith) in
    let good = subst (λ n. All (λ y. ¬ IsBad t one_apart y) (windows n t.ids)) (more t) apart in
    good k d within (inl (close_of_same _ _ (channel_some t (part_at t.rounds 0 tuple) first) same))

apart_of_proper : (t : ChannelTable) → IsProper t → IsApart t one_apart
unfolding IsBad
apart_of_proper t proper =
    subst (λ n. All (λ y. ¬ IsBad t one_apart y) (windows n t.ids)) (sym (more t))
    (λ k d within close. proper k d within (same_of_too_close _ _ _ close))

good_of_apart : (t : ChannelTable) → IsApartEverywhere t one_apart → IsGoodEverywhere t
good_of_apart t apart ring place is within same =
    let long = is.long in
    apart_not_too_close one_apart _ _ _ (apart ring place is (omega arith) within)
    (inl (close_of_same _ _ (channel_around t ring place is) same))

apart_of_good : (t : ChannelTable) → IsGoodEverywhere t → IsApartEverywhere t one_apart
apart_of_good t good ring place is long within =
    apart_of_not_too_close one_apart _ _ _ (channel_around t ring place is) (channel_around t ring (place + 1) is)
    (channel_around t ring (place + 2) is)
    (λ close. good ring place is within (same_of_too_close _ _ _ close))

pub returns-clause-proper : goal.returns-clause-proper
returns-clause-proper c t = (proper_of_apart t, apart_of_proper t)

pub returns-clause-good : goal.returns-clause-good
returns-clause-good c t = (good_of_apart t, apart_of_good t)
