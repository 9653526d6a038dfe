-- A JSON reader finds a table in its text.
use Rattle.std.proofs.Common.{ℕ, zero, suc, ◌<◌, ◌≤◌, ◌^◌, List, [], ◌∷◌, map, arith}
use Rattle.std.specs.Prelude.{All}
use Rattle.channel_tables.specs.Tables.{ChannelTable, IsTable}
use Rattle.channel_tables.specs.declared.separation.Separation.{Separation}
use Rattle.json.specs.Tree.{ItemsHaveNumbers}
use Rattle.json.proofs.Printed.Decimals.{IsNumber-decimal}
use Rattle.json.proofs.Printed.Trees.{document-print}
use Rattle.json_reports.specs.Json.{table_fields}
use Rattle.json_reports.specs.Reports.{IsRead}
use Rattle.json_reports.specs.Values.{items_of, numeral, object_of}
use Rattle.json_reports.proofs.Objects.{table_depth}

-- numbers below a bound are numbers of JSON
are_numbers : (most : ℕ) (ns : List ℕ) → most ≤ 2 ^ 64 → All (λ n. n < most) ns
    → ItemsHaveNumbers (items_of (map numeral ns))
are_numbers most [] few below = tt
are_numbers most (n ∷ ns) few below =
    let first : n < most = below zero n (omega arith) in
    (IsNumber-decimal n (omega (arith, first, few)), are_numbers most ns few (λ k d within. below (suc k) d (omega (arith, within))))

pub table_is_read : (t : ChannelTable) (s : Separation) → IsTable t → s.near < 2 ^ 64 → s.far < 2 ^ 64
    → IsRead (object_of (table_fields t s))
table_is_read t s is near far =
    let ids = is.begun.shape.ids.few in
    let rounds = is.begun.few_rounds in
    let channels = is.begun.few_channels in
    document-print (object_of (table_fields t s)) (
      tt,
      (
        IsNumber-decimal t.ids (omega (arith, ids)),
        (
          IsNumber-decimal t.rounds (omega (arith, rounds)),
          (
            IsNumber-decimal t.channels (omega (arith, channels)),
            (
              IsNumber-decimal s.near near,
              (
                IsNumber-decimal s.far far,
                (are_numbers t.channels t.entries (omega (arith, channels)) is.begun.below, tt),
              ),
            ),
          ),
        ),
      ),
    )
    (table_depth t s)
