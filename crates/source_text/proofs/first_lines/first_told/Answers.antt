use Rattle.std.proofs.Common.{rules, not}
use Rattle.std.proofs.lemmas.Iterator.Search.{find_from_yields_List}
use Rattle.std.proofs.lemmas.Iterator.Splits.{YieldsList-from_slice_split}
use Rattle.source_text.specs.Kinds as texts
use Rattle.source_text.specs.Lines.{is_feed}
use Rattle.source_text.proofs.first_lines.first_told.Goals as goal

pub returns : goal.returns
returns c =
    find_from_yields_List (λ line. not (texts.is_skipped line)) _ _ _ c.find.ensures.ran
    (YieldsList-from_slice_split _ is_feed c.args.text.now
    c.split.ensures.rest c.split.ensures.done c.split.ensures.closure (λ x b q k. search (rules, k)))
    (λ x b q k. search (rules, k))
