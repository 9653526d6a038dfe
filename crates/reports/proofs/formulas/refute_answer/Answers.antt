use Rattle.std.proofs.Common.{◌≢◌, refl, rules, subst}
use Rattle.table_formula.specs.Problems.{Problem}
use Rattle.table_formula.specs.Refutations.{IsFault}
use Rattle.table_formula.specs.declared.refutation.fault.RefuteError.TheVariants as refute
use Rattle.reports.specs.Report.{told, answered}
use Rattle.reports.specs.Findings.{of_refutation}
use Rattle.reports.proofs.formulas.refute_answer.Goals as goal

pub returns : goal.returns
returns c =
    let known : c.in-Err.fault ≢ refute.OutOfMemory = search rules in
    let fault = subst (λ (p : Problem). IsFault p c.args.input.now c.in-Err.fault) c.requires.formula c.in-Err.ensures.fault in
    record {
      report = answered (
        c.requires.has,
        told (of_refutation c.in-Err.fault)
            (record { what = c.in-Err.fault; known = known; first = fault; is = refl }) refl,
      );
      memory = tt;
    }
