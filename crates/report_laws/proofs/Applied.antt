-- What apply prints of a table text of which audit says yes.
use Rattle.std.proofs.Common.{◌≡◌, ℕ, List, ap, sym, subst, ◌∙◌}
use Rattle.channel_tables.specs.Tables.{ChannelTable}
use Rattle.channel_tables.specs.declared.separation.Separation.{Separation}
use Rattle.channel_tables.specs.Apart.{IsApartEverywhere}
use Rattle.win_index.specs.Laws.{RingsHaveNoFault}
use Rattle.table_text.specs.Laws.{TableTextsAreApart, TableTextsAreRead}
use Rattle.table_text.specs.Texts.{IsTextOf}
use Rattle.headline.specs.Laws.{TablesAreApartOnRings}
use Rattle.reports.specs.declared.status.Status.TheVariants.{Done, No}
use Rattle.reports.specs.Findings.{Finding, status_of}
use Rattle.reports.specs.Findings as value
use Rattle.reports.specs.Report.{IsJudgement, good, bad, IsTableReport}
use Rattle.report_laws.specs.Laws.{AuditedChannelsAreApart}
use Rattle.report_laws.proofs.OneReport.{one_telling, told_or_refused}
use Rattle.report_laws.proofs.ToldRounds.{answered_by, on_this_ring}

-- a judgement that is done is a yes
yes_is_apart : (t : ChannelTable) (s : Separation) (f : Finding) → status_of f ≡ Done → IsJudgement t s f
    → IsApartEverywhere t s
yes_is_apart t s f done (good apart is) = apart
yes_is_apart t s f done (bad ring places channels witness is) =
    let both : No ≡ Done = sym (ap status_of is) ∙ done in cc

module _ (texts_apart : TableTextsAreApart) (read : TableTextsAreRead) where
  -- what is found on the text of a table is that of this table
  on_table : (answer : ChannelTable → Separation → Finding → Type 0) (input : List ℕ) (t : ChannelTable)
      (s : Separation) (f : Finding) → IsTextOf input t s → IsTableReport answer input f → answer t s f
  on_table answer input t s f text is =
      let said = answered_by _ _ f (λ fault. told_or_refused read input fault t s text) is in
      let same = one_telling texts_apart input said.0 t said.1 s said.2 text in
      subst (λ x. answer t x f) same.1 (subst (λ x. answer x said.1 f) same.0 said.3)

  pub audited : RingsHaveNoFault → TablesAreApartOnRings → AuditedChannelsAreApart
  audited no_fault on_rings input t s ring judged f text audit done is long applied =
      let x = ring.items in
      let apart = yes_is_apart t s judged done (on_table IsJudgement input t s judged text audit) in
      let on = on_this_ring no_fault t.ids t.rounds x _ f is (on_table _ input t s f text applied) in
      let channel = on.are.channel in
      (channel, on.is ∙ ap (value.places x) on.are.are, on_rings t s x channel apart is long on.are.has)
