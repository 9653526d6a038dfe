-- An injective code of configurations, which their model asks for. No contract cites it.
use Rattle.std.specs.Prelude.{ℕ, List, refl}
use Rattle.std.specs.Coded.{Coded, code_by, coded×, coded_ℕ, coded_list}
use Rattle.node_program.specs.Term.{ProgramTree}
use Rattle.node_program.specs.Code.{program_code}
use Rattle.round_eval.specs.Configuration.{RingConfiguration}

abbrev pub configuration_code : Coded RingConfiguration
configuration_code =
    code_by (ProgramTree × (List ℕ × ℕ)) (coded× program_code (coded× (coded_list coded_ℕ) coded_ℕ))
    (λ c. (c.program, (c.places, c.round)))
    (λ t. record { program = t.0; places = t.1.0; round = t.1.1 }) (λ _. refl)
