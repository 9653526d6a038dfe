use Rattle.std.proofs.Common.{◌≡◌, ◌*◌, ◌≤◌, subst, arith, ℕ, ◌<◌, Option, Some, None, ⊎_elim}
use Rattle.std.proofs.lemmas.Bool.{cases_lt}
use Rattle.channel_tables.specs.Tables.{ChannelTable}
use Rattle.channel_tables.specs.declared.separation.Separation.{Separation}
use Rattle.channel_tables.specs.Apart.{NoneIsBad}
use Rattle.channel_tables.specs.Apart.{bucket_len}
use Rattle.channel_tables.specs.Searches.{IsLeastIn}
use Rattle.nbhd_check.proofs.Buckets.{none_of_free}
use Rattle.nbhd_check.proofs.least.least_of_all.Goals as goal

none_in_both : (t : ChannelTable) (s : Separation) (low high : ℕ) → NoneIsBad t s 0 low → NoneIsBad t s low high
    → NoneIsBad t s 0 high
none_in_both t s low high before after n tuple ge lt item =
    ⊎_elim
    (λ (less : n < low). before n tuple ge less item)
    (λ (more : low ≤ n). after n tuple more lt item)
    (cases_lt n low)

-- If no tuple before a number is bad, the least one found from there on is the least
least_from_low : (t : ChannelTable) (s : Separation) (low high : ℕ) (found : Option ℕ) → NoneIsBad t s 0 low
    → IsLeastIn t s low high found
    → IsLeastIn t s 0 high found
least_from_low t s low high None before after = none_in_both t s low high before after
least_from_low t s low high (Some n) before after =
    let least = after.1.1 in (
      after.0,
      (
        after.1.0,
        record {
          from_low = omega arith;
          item = least.item;
          bad = least.bad;
          least = none_in_both t s low n before least.least;
        },
      ),
    )

pub returns : goal.returns
returns g c =
    let t = c.args.tuples.windows.now in
    let s = c.args.tuples.separation in
    let low_is : c.from.result * c.per_window.result ≡ c.first_windows-first.result * bucket_len t s =
    λ q. c.from.ensures q * c.per_window.ensures.value q in
    let low : c.min.result ≤ c.first_windows-first.result * bucket_len t s = omega (arith, c.min.ensures, low_is) in
    subst (λ n. IsLeastIn t s 0 n c.least_bad.result) c.count-count.ensures
    (least_from_low t s c.min.result c.count-count.result c.least_bad.result
    (none_of_free t s c.min.result c.first_windows-first.result c.first_windows-first.ensures low) c.least_bad.ensures)
