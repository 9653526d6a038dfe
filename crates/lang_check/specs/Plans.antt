-- Plans, and an injective code of them, which their model asks for.
use Rattle.std.specs.Prelude.{ℕ, refl}
use Rattle.std.specs.Coded.{Coded, code_by, coded×, coded_ℕ}
use Rattle.node_program.specs.Term.{ProgramTree}
use Rattle.node_program.specs.Code.{program_code}

-- a program and the number of identifiers that it is run with
pub record ProgramForIds : Type 0 where
  pub program : ProgramTree
  pub ids : ℕ

abbrev pub plan_code : Coded ProgramForIds
plan_code =
    code_by (ProgramTree × ℕ) (coded× program_code coded_ℕ) (λ p. (p.program, p.ids))
    (λ t. record { program = t.0; ids = t.1 }) (λ _. refl)
