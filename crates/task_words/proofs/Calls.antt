-- The command that was parsed, and the result of its request.
use Rattle.std.proofs.Common.{◌≡◌, ◌⊎◌, List, Option, Some, None, Result, Ok, Err, Bor, false, inl, inr, refl, sym, ◌∙◌}
use Rattle.std.proofs.Common.{ap, ap₂, subst, codes, Global}
use Rattle.std.specs.Prelude.{◌↔◌, Box, IfErr, IfOk, OnOk, IsErrOf, IsOk, bytes_eq, option_map}
use Rattle.std.proofs.lemmas.Bool.Decides.{not_from_Decides}
use Rattle.std.proofs.lemmas.Result.{IfOk-weaker}
use Rattle.std.proofs.lemmas.Slice.Eq.{bytes_eq-Decides}
use Rattle.clap.specs.Words.{Row, Text, first_of, found_of, rows_of, subcommand_name_of, subcommand_of}
use Rattle.clap.specs.Words.{subcommand_rows, subcommand_rows_of}
use Rattle.clap.specs.declared.parser.matches.ArgMatches.{ArgMatches}
use Rattle.clap.specs.declared.parser.matches.ArgMatches.TheViews.{out-ArgMatches, out-SubCommand}
use Rattle.clap.specs.declared.parser.matches.SubCommand.{SubCommand}
use Rattle.std.specs.Box.{box_value}
use Rattle.task_words.specs.CommandLine.{command_line}
use Rattle.task_words.specs.DemandValues.{demand_fault}
use Rattle.task_words.specs.Options.{IsCallFault, IsGoodCall, IsRequestFault}
use Rattle.task_words.specs.Formats.{HasFormat, format_of, named_format}
use Rattle.task_words.specs.ParsedWords.{IsParsedFrom, IsRequestFrom}
use Rattle.task_words.specs.Task.{IsFormula, IsInRange}
use Rattle.task_words.specs.Words.{HasBadDemand, HasBadFormat, HasBadRing, IsAccepted, IsCallOf, IsCommand}
use Rattle.task_words.specs.Words.{IsDemandName, IsRingBad, IsRingName, IsTaskFor, IsTaskOf}
use Rattle.task_words.specs.WordsFault.{IsFormatRefusal, IsHelp, IsUsage, MemoryAside}
use Rattle.task_words.specs.declared.demand_fault.DemandFault.{DemandFault}
use Rattle.task_words.specs.declared.format.Format.{Format}
use Rattle.task_words.specs.declared.format.Format.TheVariants.{Lines}
use Rattle.task_words.specs.declared.request.Request.{Request}
use Rattle.task_words.specs.declared.task.Task.{Task}
use Rattle.task_words.specs.declared.task.Task.TheVariants.{Formula}
use Rattle.task_words.specs.declared.words.WordsFault.{WordsFault}
use Rattle.task_words.specs.declared.words.WordsFault.TheVariants.{Usage, BadRing, BadDemand, OutOfMemory, Help}

-- the name of the command that was parsed, and the values of its options
abbrev pub met_of : Option (Bor Text × Bor ArgMatches) → Option (Text × List Row)
met_of = option_map (λ p. (p.0.now, rows_of (found_of p.1.now)))

abbrev pair : Text → List Row → Option (Text × List Row)
pair name values = Some (name, values)

both_same : (a b : Text) (v w : List Row) → Some a ≡ Some b → Some v ≡ Some w → pair a v ≡ pair b w
both_same a b v w names values =
    let name : a ≡ b = cc in
    let value : v ≡ w = cc in
    ap₂ pair name value

met : (o : Option (Bor Text × Bor ArgMatches)) (s : Option (Box SubCommand Global))
    → option_map (λ p. p.0.now) o ≡ option_map (λ b. (out-SubCommand (box_value b)).name.now) s
    → option_map (λ p. rows_of (found_of p.1.now)) o ≡ option_map (λ p. p.1) (subcommand_rows s)
    → met_of o ≡ subcommand_rows s
met None None name rows = refl
met None (Some b) name rows = absurd (no_name _ name)
  where
    no_name : (a : Text) → None ≡ Some a → ⊥
    no_name a is = cc
met (Some p) None name rows = absurd (no_name _ name)
  where
    no_name : (a : Text) → Some a ≡ None → ⊥
    no_name a is = cc
met (Some p) (Some b) name rows = both_same _ _ _ _ name rows

pub call_is : (words : List Text) (m : ArgMatches) (o : Option (Bor Text × Bor ArgMatches))
    → option_map (λ p. p.0.now) o ≡ subcommand_name_of m
    → option_map (λ p. rows_of (found_of p.1.now)) o ≡ option_map (λ p. p.1) (subcommand_rows_of m)
    → subcommand_rows_of m ≡ subcommand_of command_line words → subcommand_of command_line words ≡ met_of o
call_is words m o name rows is = sym (met o (out-ArgMatches m).subcommand name rows ∙ is)

-- no command that takes a ring demands something
apart : (a b : Text) → bytes_eq a b ≡ false → (name : Text) → name ≡ a → name ≡ b → ⊥
apart a b differ name is_a is_b = not_from_Decides _ (bytes_eq-Decides a b) differ (sym is_a ∙ is_b)

demands_no_ring : (ring name : Text) → bytes_eq ring (codes "judge") ≡ false → bytes_eq ring (codes "audit") ≡ false
    → bytes_eq ring (codes "formula") ≡ false
    → bytes_eq ring (codes "refute") ≡ false → name ≡ ring → IsDemandName name → ⊥
demands_no_ring ring name judge audit formula refute is (inl named) = apart ring (codes "judge") judge name is named
demands_no_ring ring name judge audit formula refute is (inr (inl named)) =
    apart ring (codes "audit") audit name is named
demands_no_ring ring name judge audit formula refute is (inr (inr (inl named))) =
    apart ring (codes "formula") formula name is named
demands_no_ring ring name judge audit formula refute is (inr (inr (inr named))) =
    apart ring (codes "refute") refute name is named

pub ring_or_demand : (name : Text) → IsRingName name → IsDemandName name → ⊥
ring_or_demand name (inl is) demand = demands_no_ring (codes "run") name refl refl refl refl is demand
ring_or_demand name (inr (inl is)) demand = demands_no_ring (codes "trace") name refl refl refl refl is demand
ring_or_demand name (inr (inr (inl is))) demand = demands_no_ring (codes "explain") name refl refl refl refl is demand
ring_or_demand name (inr (inr (inr (inl is)))) demand =
    demands_no_ring (codes "plan") name refl refl refl refl is demand
ring_or_demand name (inr (inr (inr (inr is)))) demand =
    demands_no_ring (codes "apply") name refl refl refl refl is demand

-- a fault of the ring is one of the call
pub ring_refused : (name : Text) (values : List Row) (fault : WordsFault) → IsRingName name
    → (fault ≡ OutOfMemory) ⊎ ((fault ≡ BadRing) × IsRingBad values)
    → IsCallFault name values fault
ring_refused name values fault on_ring (inl memory) = subst (IsCallFault name values) (sym memory) tt
ring_refused name values fault on_ring (inr (is, bad)) = subst (IsCallFault name values) (sym is) (on_ring, bad)

-- the call that was parsed is a bad one
IsBadMet : Option (Text × List Row) → Type 0
IsBadMet None = ⊥
IsBadMet (Some p) = IsRingName p.0 × IsRingBad p.1

bad_met : (words : List Text) (name : Text) (values : List Row) → IsCallOf words name values → HasBadRing words
    → IsRingName name × IsRingBad values
unfolding IsBadMet
bad_met words name values call bad = subst IsBadMet (sym bad.3 ∙ call) (bad.4, bad.5)

-- the options of the call that was parsed are no demand, for this cause
IsIdleMet : DemandFault → Option (Text × List Row) → Type 0
IsIdleMet cause None = ⊥
IsIdleMet cause (Some p) = IsDemandName p.0 × (demand_fault p.1 ≡ Some cause)

idle_met : (words : List Text) (name : Text) (values : List Row) (cause : DemandFault) → IsCallOf words name values
    → HasBadDemand words cause
    → IsDemandName name × (demand_fault values ≡ Some cause)
unfolding IsIdleMet
idle_met words name values cause call bad = subst (IsIdleMet cause) (sym bad.3 ∙ call) (bad.4, bad.5)

one_cause : (o : Option DemandFault) (a b : DemandFault) → o ≡ Some a → o ≡ Some b → a ≡ b
one_cause o a b is_a is_b = cc

same_cause : {T : Type 0} (r : Result T WordsFault) (a b : DemandFault) → r ≡ Err (BadDemand a)
    → r ≡ Err (BadDemand b) → a ≡ b
same_cause r a b is_a is_b = cc

-- what the words say of the result of a task
pub record IsTold {T : Type 0} (r : Result T WordsFault) (words : List Text) : Type 0 where
  pub ok : MemoryAside r (IsOk r ↔ (IsCommand words × (¬ HasBadRing words) × ((cause : DemandFault) → ¬ HasBadDemand words cause)))
  pub bad_ring : MemoryAside r (IsErrOf r BadRing ↔ HasBadRing words)
  pub bad_demand : (cause : DemandFault) → MemoryAside r (IsErrOf r (BadDemand cause) ↔ HasBadDemand words cause)
  pub no_text : IsUsage r ⊎ IsHelp r → ⊥

-- the result of the task of the call that was parsed is Ok exactly if the call is good
pub told : {T : Type 0} (r : Result T WordsFault) (words : List Text) (name : Text) (values : List Row)
    → IsCommand words → IsCallOf words name values
    → OnOk r (IsGoodCall name values) → IfErr r (IsCallFault name values) → IsTold r words
told (Ok x) words name values clean call good refused =
    let no_ring : ¬ HasBadRing words = λ bad. good.ring (bad_met words name values call bad) in
    let no_idle : (cause : DemandFault) → ¬ HasBadDemand words cause =
    λ cause bad. let is = idle_met words name values cause call bad in let none = good.demand is.0 in let some = is.1 in cc in
    record {
      ok = λ aside. (λ ok. (clean, no_ring, no_idle), λ fine. refl);
      bad_ring = λ aside. (λ is. cc, λ bad. absurd (no_ring bad));
      bad_demand = λ cause aside. (λ is. cc, λ bad. absurd (no_idle cause bad));
      no_text = λ is. elim is [ inl usage ↦ let same = usage.1 in cc | inr help ↦ let same = help.1 in cc ];
    }
told (Err OutOfMemory) words name values clean call good refused = record {
  ok = λ aside. absurd (aside refl);
  bad_ring = λ aside. absurd (aside refl);
  bad_demand = λ cause aside. absurd (aside refl);
  no_text = λ is. elim is [ inl usage ↦ let same = usage.1 in cc | inr help ↦ let same = help.1 in cc ];
}
told (Err BadRing) words name values clean call good (on_ring, ring) =
    let bad : HasBadRing words = (clean, name, values, call, on_ring, ring) in
    record {
      ok = λ aside. (λ ok. cc, λ fine. absurd (fine.1 bad));
      bad_ring = λ aside. (λ is. bad, λ _. refl);
      bad_demand = λ cause aside.
          (λ is. cc, λ idle. absurd (ring_or_demand name on_ring (idle_met words name values cause call idle).0));
      no_text = λ is. elim is [ inl usage ↦ let same = usage.1 in cc | inr help ↦ let same = help.1 in cc ];
    }
told (Err (BadDemand known)) words name values clean call good (demand, fault) =
    let bad : HasBadDemand words known = (clean, name, values, call, demand, fault) in
    record {
      ok = λ aside. (λ ok. cc, λ fine. absurd (fine.2 known bad));
      bad_ring = λ aside. (λ is. cc, λ ring. absurd (ring_or_demand name (bad_met words name values call ring).0 demand));
      bad_demand = λ cause aside. (
        λ is. subst (HasBadDemand words) (same_cause _ known cause refl is) bad,
        λ idle. ap (λ c. Err (BadDemand c))
            (one_cause (demand_fault values) known cause fault (idle_met words name values cause call idle).1),
      );
      no_text = λ is. elim is [ inl usage ↦ let same = usage.1 in cc | inr help ↦ let same = help.1 in cc ];
    }
told (Err (Usage text)) words name values clean call good refused = absurd refused
told (Err (Help text)) words name values clean call good refused = absurd refused

task_is : (r : Result Task WordsFault) (words : List Text) (name : Text) (values : List Row) → IsCommand words
    → IsCallOf words name values
    → IfOk r (IsTaskFor name values) → IfOk r (λ task. IsCommand words × IsTaskOf words task)
task_is r words name values clean call is = IfOk-weaker r _ _ (λ task is. (clean, (name, values, call, is))) is

-- the result of the task of the call that was parsed is that of the words
parsed_is : (r : Result Task WordsFault) (words : List Text) (name : Text) (values : List Row) → IsCommand words
    → IsCallOf words name values
    → IfOk r (IsTaskFor name values) → IfOk r IsInRange → OnOk r (IsGoodCall name values)
    → IfErr r (IsCallFault name values) → IsParsedFrom words r
parsed_is r words name values clean call task range good refused =
    let said = told r words name values clean call good refused in
    record {
      task = task_is r words name values clean call task;
      range = range;
      ok = said.ok;
      bad_ring = said.bad_ring;
      bad_demand = said.bad_demand;
      usage = λ usage. absurd (said.no_text (inl usage));
      help = λ help. absurd (said.no_text (inr help));
    }

-- a form that is named is known
is_known : (values : List Row) (format : Format) → HasFormat values format → ¬ (format_of values ≡ None)
is_known values format has none = no_form format (sym has ∙ none)
  where
    no_form : (f : Format) → Some f ≡ None → ⊥
    no_form f is = cc

-- a fault of the form, and one of the task where the form is known
pub format_refused : (name : Text) (values : List Row) (fault : WordsFault) → IsFormatRefusal (format_of values) fault
    → IsRequestFault name values fault
format_refused name values fault (inl memory) = subst (IsRequestFault name values) (sym memory) tt
format_refused name values fault (inr (text, is, none)) = subst (IsRequestFault name values) (sym is) none

pub task_refused : (name : Text) (values : List Row) (format : Format) (fault : WordsFault) → HasFormat values format
    → IsCallFault name values fault
    → IsRequestFault name values fault
task_refused name values format (Usage text) has refused = absurd refused
task_refused name values format BadRing has refused = (is_known values format has, refused)
task_refused name values format (BadDemand cause) has refused = (is_known values format has, refused)
task_refused name values format OutOfMemory has refused = tt
task_refused name values format (Help text) has refused = absurd refused

-- the call that was parsed names no form
IsFormlessMet : Option (Text × List Row) → Type 0
IsFormlessMet None = ⊥
IsFormlessMet (Some p) = format_of p.1 ≡ None

no_bad_format : (words : List Text) (name : Text) (values : List Row) → IsCallOf words name values
    → ¬ (format_of values ≡ None) → ¬ HasBadFormat words
unfolding IsFormlessMet
no_bad_format words name values call known bad = known (subst IsFormlessMet (sym bad.2 ∙ call) bad.3)

-- the report of a formula is in lines, since it is called without `--format`
formula_named : (name : Text) (values : List Row) (task : Task) → IsTaskFor name values task → IsFormula task
    → name ≡ codes "formula"
formula_named name values (Formula ids rounds channels demand) task is = task.0
formula_named name values _ task is = absurd is

only_lines : (values : List Row) (format : Format) → HasFormat values format → first_of (codes "format") values ≡ None
    → format ≡ Lines
only_lines values format has none = same_form format (sym has ∙ ap named_format none)
  where
    same_form : (f : Format) → Some f ≡ Some Lines → f ≡ Lines
    same_form f is = cc

-- the result of the request of the call that was parsed is that of the words
pub request_is : (r : Result Request WordsFault) (words : List Text) (name : Text) (values : List Row)
    → IsAccepted words → IsCallOf words name values
    → (name ≡ codes "formula" → first_of (codes "format") values ≡ None)
    → IfOk r (λ request. IsTaskFor name values request.task) → IfOk r (λ request. IsInRange request.task)
    → IfOk r (λ request. HasFormat values request.format) → OnOk r (IsGoodCall name values)
    → IfErr r (IsRequestFault name values) → IsRequestFrom words r
request_is (Ok request) words name values accepted call formless task range format good refused =
    let clean : IsCommand words =
    (accepted, no_bad_format words name values call (is_known values request.format format)) in
    record {
      task = parsed_is (Ok request.task) words name values clean call task range good tt;
      format = (name, values, call, format);
      formula = λ is. only_lines values request.format format
          (formless (formula_named name values request.task task is));
    }
request_is (Err OutOfMemory) words name values accepted call formless task range format good refused = record {
  task = record {
    task = tt;
    range = tt;
    ok = λ aside. absurd (aside refl);
    bad_ring = λ aside. absurd (aside refl);
    bad_demand = λ cause aside. absurd (aside refl);
    usage = λ usage. let same = usage.1 in cc;
    help = λ help. let same = help.1 in cc;
  };
  format = tt;
  formula = tt;
}
request_is (Err (Usage text)) words name values accepted call formless task range format good none =
    let bad : HasBadFormat words = (name, values, call, none) in
    record {
      task = record {
        task = tt;
        range = tt;
        ok = λ aside. (λ ok. cc, λ fine. absurd (fine.0.1 bad));
        bad_ring = λ aside. (λ is. cc, λ ring. absurd (ring.0.1 bad));
        bad_demand = λ cause aside. (λ is. cc, λ demand. absurd (demand.0.1 bad));
        usage = λ usage. inr (accepted, bad);
        help = λ help. let same = help.1 in cc;
      };
      format = tt;
      formula = tt;
    }
request_is (Err BadRing) words name values accepted call formless task range format good (known, refused) = record {
  task = parsed_is (Err BadRing) words name values (accepted, no_bad_format words name values call known) call task range good refused;
  format = tt;
  formula = tt;
}
request_is (Err (BadDemand cause)) words name values accepted call formless task range format good
    (known, refused) = record {
      task = parsed_is (Err (BadDemand cause)) words name values (accepted, no_bad_format words name values call known) call task range good refused;
      format = tt;
      formula = tt;
    }
request_is (Err (Help text)) words name values accepted call formless task range format good refused = absurd refused
