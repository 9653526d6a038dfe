use Rattle.std.proofs.Common.{◌≡◌, ℕ, List}
use Rattle.table_text.specs.TableText.{title_then}
use Rattle.table_text.specs.declared.version.Version.{Version}
use Rattle.table_text.specs.declared.version.Version.TheVariants.{One, Two}
use Rattle.table_text.proofs.lines.after_title.Goals as goal

-- a text that begins with neither first line has no title
no_version : (text : List ℕ) → ((rest : List ℕ) → text ≡ title_then One rest → ⊥) →
    ((rest : List ℕ) → text ≡ title_then Two rest → ⊥)
    → (version : Version) (rest : List ℕ) → text ≡ title_then version rest → ⊥
no_version text first second One rest is = first rest is
no_version text first second Two rest is = second rest is

pub returns-in_err-rest : goal.returns-in_err-rest
returns-in_err-rest c =
    rw c.from_residual.ensures
    (λ has. no_version c.args.text.now c.in_default.ensures c.in_err-rest.ensures has.0 has.1 has.2)
