use Rattle.std.proofs.Common.{◌≡◌, ◌⊎◌, ◌∙◌, ap, sym, subst, arith, inl, inr, codes, List, Some, None, Result, Ok, Err}
use Rattle.std.specs.Prelude.{◌↔◌, IsErrOf, IfErr}
use Rattle.std.proofs.lemmas.Result.{IfOk-weaker}
use Rattle.clap.specs.Words.{Row, Text, found_of, first_of, rows_of}
use Rattle.clap.proofs.WalkLemmas.{first_value-rows}
use Rattle.task_words.specs.RingText.{IsRingText}
use Rattle.task_words.specs.Words.{IsRingBad}
use Rattle.task_words.specs.WordsFault.{FailsBy, MemoryAside}
use Rattle.task_words.specs.declared.words.WordsFault.{WordsFault}
use Rattle.task_words.specs.declared.words.WordsFault.TheVariants.{BadRing, OutOfMemory}
use Rattle.task_words.proofs.GivenOptions.{ring_given}
use Rattle.task_words.proofs.options.Call.ring.Goals.{After-ring_of}
use Rattle.task_words.proofs.options.Call.ring.Goals as goal

-- the value of `--ring` is the text that was read
value_is : (text : Text) (values : List Row) → first_of (codes "ring") values ≡ Some text → IsRingBad values
    → ¬ IsRingText text
value_is text values is bad =
    let same : bad.0 ≡ text = grind arith in
    λ good. bad.2 (subst IsRingText (sym same) good)

-- a fault other than OutOfMemory is BadRing, for a bad ring
refused : {T : Type 0} (r : Result T WordsFault) (text : Text) (values : List Row)
    → first_of (codes "ring") values ≡ Some text
    → MemoryAside r (IsErrOf r BadRing ↔ (¬ IsRingText text))
    → IfErr r (λ fault. (fault ≡ BadRing) ⊎ (fault ≡ OutOfMemory)) → FailsBy r (IsRingBad values)
refused (Ok v) text values is told faults = tt
refused (Err fault) text values is told (inr memory) = inl memory
refused (Err fault) text values is told (inl bad) = inr (bad, (text, is, (told (λ memory. cc)).0 (ap Err bad)))

pub unreachable-requires : goal.unreachable-requires
unreachable-requires c =
    let given = ring_given c.args.self.now.name.now (rows_of (found_of c.args.self.now.options.now)) c.requires.given.one c.requires.on_ring in
    let none : None ≡ Some given.0 =
    c.in_default.ensures ∙ (first_value-rows (found_of c.args.self.now.options.now) (codes "ring") ∙ given.1) in
    cc

-- the values of the options
abbrev values : After-ring_of → List Row
values c = rows_of (found_of c.args.self.now.options.now)

-- the text that was read, as the value of `--ring`
text_is : (c : After-ring_of) → first_of (codes "ring") (values c) ≡ Some c.in-Some.text.now
text_is c = sym (first_value-rows (found_of c.args.self.now.options.now) (codes "ring")) ∙ sym c.in-Some.ensures

pub returns-clause-ring : goal.returns-clause-ring
returns-clause-ring c =
    IfOk-weaker c.ring_of.result _ _ (λ ring read. (c.in-Some.text.now, text_is c, read.0, read.1)) c.ring_of.ensures.ring

pub returns-clause-good : goal.returns-clause-good
returns-clause-good c =
    IfOk-weaker c.ring_of.result _ _ (λ ring read bad. value_is _ (values c) (text_is c) bad read.0) c.ring_of.ensures.ring

pub returns-clause-refused : goal.returns-clause-refused
returns-clause-refused c =
    refused c.ring_of.result _ (values c) (text_is c) c.ring_of.ensures.bad_ring c.ring_of.ensures.faults
