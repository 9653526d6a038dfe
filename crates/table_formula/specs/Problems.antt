-- Problems: which tables are asked for.
use Rattle.std.specs.Prelude.{◌≡◌, ℕ, ◌≤◌, Option, None, Some, List, refl}
use Rattle.std.specs.Coded.{Coded, code_by, coded×, coded_ℕ, coded_list, coded_option}
use Rattle.win_index.specs.declared.shape.Shape.{Shape}
use Rattle.channel_tables.specs.Tables.{ChannelTable, IsTable}
use Rattle.channel_tables.specs.declared.separation.Separation.{Separation}
use Rattle.channel_tables.specs.Apart.{IsApartEverywhere}
use Rattle.ring_problems.specs.declared.pattern.Entry.{Entry}
use Rattle.ring_problems.specs.declared.pattern.Entry.TheVariants.{Wildcard, Channel}
use Rattle.ring_problems.specs.declared.pattern.Pattern.{Pattern}
use Rattle.ring_problems.specs.Problems.{IsSolvedEverywhere}

-- the numbers of identifiers and rounds, the maximum number of channels, the separation that a table shall keep,
-- and the patterns that it shall avoid
pub record Problem : Type 0 where
  pub ids : ℕ
  pub rounds : ℕ
  pub channels : ℕ
  pub separation : Separation
  pub forbidden : List Pattern

-- the problem of the tables of a shape
abbrev pub problem_of : Shape → ℕ → Separation → List Pattern → Problem
problem_of shape channels separation forbidden =
    record {
      ids = shape.ids;
      rounds = shape.rounds;
      channels = channels;
      separation = separation;
      forbidden = forbidden;
    }

-- a table that is asked for
pub record IsSolution (p : Problem) (t : ChannelTable) : Type 0 where
  pub table : IsTable t
  pub ids : t.ids ≡ p.ids
  pub rounds : t.rounds ≡ p.rounds
  pub channels : t.channels ≤ p.channels
  pub apart : IsApartEverywhere t p.separation
  pub solved : IsSolvedEverywhere t p.forbidden

-- there is none
abbrev pub IsImpossible : Problem → Type 0
IsImpossible p = (t : ChannelTable) → ¬ IsSolution p t

-- an injective code of patterns
abbrev pub asked : Entry → Option ℕ
asked Wildcard = None
asked (Channel c) = Some c

abbrev pub entry_of : Option ℕ → Entry
entry_of None = Wildcard
entry_of (Some c) = Channel c

abbrev pub entry_asked : (e : Entry) → entry_of (asked e) ≡ e
entry_asked Wildcard = refl
entry_asked (Channel c) = refl

abbrev pub pattern_code : Coded Pattern
pattern_code =
    code_by (Option ℕ × (Option ℕ × Option ℕ))
    (coded× (coded_option coded_ℕ) (coded× (coded_option coded_ℕ) (coded_option coded_ℕ)))
    (λ p. (asked p.first, (asked p.second, asked p.third)))
    (λ c. record { first = entry_of c.0; second = entry_of c.1.0; third = entry_of c.1.1 })
    (λ p. λ i. record { first = entry_asked p.first i; second = entry_asked p.second i; third = entry_asked p.third i })

-- an injective code of problems, which a formula's model asks for
abbrev pub problem_code : Coded Problem
problem_code =
    code_by (ℕ × (ℕ × (ℕ × (ℕ × (ℕ × List Pattern)))))
    (coded× coded_ℕ (coded× coded_ℕ (coded× coded_ℕ (coded× coded_ℕ (coded× coded_ℕ (coded_list pattern_code))))))
    (λ p. (p.ids, (p.rounds, (p.channels, (p.separation.near, (p.separation.far, p.forbidden))))))
    (λ c. record {
      ids = c.0;
      rounds = c.1.0;
      channels = c.1.1.0;
      separation = record { near = c.1.1.1.0; far = c.1.1.1.1.0 };
      forbidden = c.1.1.1.1.1;
    }) (λ _. refl)
