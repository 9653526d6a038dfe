use Rattle.std.proofs.Common.{ap, ◌∙◌}
use Rattle.table_text.specs.LineForms.{HasShape}
use Rattle.table_text.specs.TableText.{title_then}
use Rattle.table_text.proofs.Headers.{shape_once}
use Rattle.table_text.proofs.reading.shape_in.Goals as goal

pub returns-clause-one : goal.returns-clause-one
returns-clause-one c rounds ids has =
    let header = c.in_ok-header.header in
    let own : HasShape c.args.text.now header.shape.rounds header.shape.ids = (
      c.in_ok-version.version,
      header.channels,
      header.separation,
      _,
      record {
        sizes = c.in_ok-header.ensures.range;
        told = c.in_ok-header.ensures.told;
        lines = c.in_ok-version.ensures ∙ ap (title_then c.in_ok-version.version) c.in_ok-header.ensures.sizes;
      },
    ) in
    shape_once c.args.text.now rounds ids header.shape.rounds header.shape.ids has own
