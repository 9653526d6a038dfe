use Rattle.std.proofs.Common.{◌∙◌, arith, rules}
use Rattle.std.proofs.lemmas.List.{with_items_is}
use Rattle.round_eval.proofs.Configurations.{started}
use Rattle.round_eval.proofs.configuration.Configuration.new.Goals as goal

pub invariant_of-result : goal.invariant_of-result
invariant_of-result c =
    let written = with_items_is c.in_ok-states.states c.start_of_row.new.states (c.start_of_row.auto.states
    ∙ c.deref_mut.ensures.len) in
    record {
      round = omega arith;
      size = rw written (search rules);
      spare_size = rw written (search rules);
      rows_are = rw written ((rw c.ids-ids.ensures.value at c.start_of_row.ensures)
          ∙ started c.args.plan.now.program c.args.ring.now.places);
    }
