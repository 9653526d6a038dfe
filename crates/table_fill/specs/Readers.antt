-- What reads the entries of a table.
use Rattle.std.specs.Prelude.{ℕ, refl}
use Rattle.std.specs.Coded.{Coded, code_by, coded×, coded_ℕ}
use Rattle.lang_check.specs.Plans.{ProgramForIds, plan_code}

-- a reader: the plan whose table it reads, and the number of shares that it reads it in
pub record ReaderOf : Type 0 where
  pub plan : ProgramForIds
  pub shares : ℕ

-- an injective code of readers, which their model asks for
abbrev pub reader_code : Coded ReaderOf
reader_code =
    code_by (ProgramForIds × ℕ) (coded× plan_code coded_ℕ) (λ r. (r.plan, r.shares))
    (λ t. record { plan = t.0; shares = t.1 })
    (λ _. refl)
