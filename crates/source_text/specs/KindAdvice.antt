-- The advice on a text that is given instead of another one.
use Rattle.std.specs.Prelude.{◌≡◌, ℕ, List, Some, codes, IfSome}
use Rattle.source_text.specs.declared.kinds.TextKind.{TextKind}
use Rattle.source_text.specs.declared.kinds.TextKind.TheVariants as kind
use Rattle.source_text.specs.Kinds.{text_kind}

-- what a text of a kind is, and what takes it
abbrev pub advice_of : TextKind → List ℕ
advice_of kind.Program = codes "; this looks like a program: `nbhd judge`, `nbhd table` and `nbhd run` take one"
advice_of kind.Table = codes "; the text of a table is for `nbhd audit`, `nbhd apply` and `nbhd migrate`"
advice_of kind.Formula = codes "; this is a formula for a solver, as in `cadical --no-binary FORMULA PROOF`"
advice_of kind.Refutation = codes "; this looks like a refutation: `nbhd refute` takes one"
advice_of kind.Proof = codes
    "; this looks like a proof in DRAT: `tools/lrat` adds the hints that it lacks, for `nbhd refute`"
advice_of kind.Answer = codes
    "; this is a solver's answer: `tools/model` makes the table of a model, and a proof is a file of its own"
advice_of kind.Report = codes "; this is output of `nbhd`, not a text that it reads"
advice_of kind.Command = codes "; this is a command of the shell, not a text"
advice_of kind.FileName = codes "; this looks like the name of a file: `< FILE` gives its text"
advice_of kind.Page = codes "; this is a page in HTML or XML: save the text alone"
advice_of kind.Wide = codes "; the file is UTF-16, or has a byte order mark: save it as ASCII without one"
advice_of kind.NoText = codes "; this is no text, but a packed file, a picture or a document: save its text alone"

-- The text looks like one of another kind, and this is the advice on that kind.
pub record IsAdviceOn (text : List ℕ) (reads : TextKind) (advice : List ℕ) : Type 0 where
  pub kind : TextKind
  pub looks : text_kind text ≡ Some kind
  pub other : kind ≡ reads → ⊥
  pub says : advice ≡ advice_of kind

-- The text looks like one of the kind that is read, or like none that is known.
abbrev pub IsOfKind : List ℕ → TextKind → Type 0
IsOfKind text reads = IfSome (text_kind text) (λ kind. kind ≡ reads)
