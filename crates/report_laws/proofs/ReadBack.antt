-- Reports that are table texts, as inputs of migrate, audit and apply.
use Rattle.std.proofs.Common.{◌≡◌, ℕ, List, [], length, Some, None, append-nil, ap, sym, subst, ◌∙◌, arith, lit≤}
use Rattle.node_program.specs.Term.{ProgramTree}
use Rattle.channel_tables.specs.Tables.{ChannelTable, IsTable}
use Rattle.channel_tables.specs.declared.separation.Separation.{Separation}
use Rattle.table_fill.specs.Laws.{ProgramTablesAreTables, TableHasTheChannelsOfRounds}
use Rattle.table_fill.specs.ProgramTables.{table_of}
use Rattle.table_text.specs.declared.version.Version.{Version}
use Rattle.table_text.specs.declared.version.Version.TheVariants.{One, Two}
use Rattle.table_text.specs.Laws.{TableTextsAreApart, TableTextsAreRead}
use Rattle.table_text.specs.LineForms.{IsSeparation, IsSeparationOf}
use Rattle.table_text.specs.TableText.{Written, written, text_of, table_text}
use Rattle.reports.specs.declared.status.Status.TheVariants.{Done, Words, Refused, RingRefused, FormulaRefused}
use Rattle.node_program.specs.GlobalRounds.{channel_at, channels_of}
use Rattle.win_index.specs.Ring.{IsRing}
use Rattle.task_words.specs.Counts.{IsNear, IsFar}
use Rattle.reports.specs.Bytes.{bytes_of}
use Rattle.reports.specs.Findings.{Fault, of_text, of_program, of_ring, of_place, of_segments, of_table_text}
use Rattle.reports.specs.Findings.{of_formula, of_refutation, Finding, fault_status, status_of}
use Rattle.reports.specs.Findings as value
use Rattle.reports.specs.Laws.{OneListOfChannels}
use Rattle.reports.specs.Report.{Finds, HasChannels, IsRefusedOr, told, answered, IsApplyAnswer, IsAnswerOnRing}
use Rattle.reports.specs.Report.{IsAudit, IsTableText, IsTableReport, IsProgramReport}
use Rattle.report_laws.specs.Laws.{MigrateKeepsNewTexts, MigrateTwiceIsOnce, AuditOfTableIsJudge}
use Rattle.report_laws.specs.Laws.{AuditOfTableSolves, ApplyOfTableIsPlan}
use Rattle.report_laws.proofs.ToldRounds.{answered_by}

-- a refusal is not done
not_done : (fault : Fault) → fault_status fault ≡ Done → ⊥
not_done (of_text k offset) done = let both : Refused ≡ Done = done in cc
not_done (of_program p ids f) done = let both : Refused ≡ Done = done in cc
not_done (of_ring m t list f) done = let both : RingRefused ≡ Done = done in cc
not_done (of_place place count) done = let both : RingRefused ≡ Done = done in cc
not_done (of_segments segments count) done = let both : Words ≡ Done = done in cc
not_done (of_table_text f) done = let both : Refused ≡ Done = done in cc
not_done (of_formula m t f) done = let both : FormulaRefused ≡ Done = done in cc
not_done (of_refutation f) done = let both : Refused ≡ Done = done in cc

-- what is found is the answer if it is done
pub done_answer : (refusal : Fault → Type 0) (answer : Finding → Type 0) (f : Finding) → status_of f ≡ Done
    → IsRefusedOr refusal answer f → answer f
done_answer refusal answer f done (told fault is same) = absurd (not_done fault (sym (ap status_of same) ∙ done))
done_answer refusal answer f done (answered said) = said

-- a separation of a text of some version can be written in version 2
in_range : (version : Version) (s : Separation) → IsSeparationOf version s → IsSeparation s
in_range One s same =
    subst IsSeparation (sym same) (record { some_near = omega arith; small_near = lit≤ tt; small_far = omega arith })
in_range Two s is = is

-- the channels of global rounds are those of a program's table
channels_of_rounds : TableHasTheChannelsOfRounds → (p : ProgramTree) (m : ℕ) (ring : List ℕ)
    → IsRing m (length p.steps) ring → HasChannels (table_of p m) ring (channel_at p ring)
unfolding table_of
channels_of_rounds has p m ring is = λ place within. has p m ring place is within

-- so what is found on a list of identifiers by the table of a program is that of a plan
by_rounds : TableHasTheChannelsOfRounds → OneListOfChannels → (p : ProgramTree) (m : ℕ) (ring : List ℕ) (s : Separation)
    (f : Finding) → IsApplyAnswer ring (table_of p m) s f
    → IsAnswerOnRing m (length p.steps) ring (Finds (value.places ring (channels_of p ring))) f
unfolding table_of
by_rounds has one p m ring s f (told fault none same) = told fault none same
by_rounds has one p m ring s f (answered said) =
    let on = said.1 in
    let list = one (table_of p m) ring on.channels (channel_at p ring) on.are
    (channels_of_rounds has p m ring said.0) in
    answered (said.0, on.is ∙ ap (value.places ring) list)

module _ (texts_apart : TableTextsAreApart) (read : TableTextsAreRead) where
  -- what is found on a text of version 2 is that of its table and its separation
  on_text : (answer : ChannelTable → Separation → Finding → Type 0) (t : ChannelTable) (s : Separation)
      (f : Finding) → IsTable t → IsSeparation s
      → IsTableReport answer (table_text t s) f → answer t s f
  on_text answer t s f table range is =
      let said = answered_by _ _ f (λ fault none. none.known (read (written Two t s) none.what
      (record { table = table; told = range }) none.first)) is in
      let text = said.2 in
      let same : text_of (written Two t s) ≡ text_of (written text.0 said.0 said.1) = text.2 in
      let one = (texts_apart (written text.0 said.0 said.1) (written Two t s) [] text.1 (record { table = table; told = range })
      (same ∙ sym (append-nil (text_of (written text.0 said.0 said.1))))).0 in
      subst (λ (w : Written). answer w.table w.separation f) one said.3

  pub keeps : MigrateKeepsNewTexts
  keeps t s f table range is = on_text IsTableText t s f table range is

  pub twice : MigrateTwiceIsOnce
  twice input f g is done again =
      let said = done_answer _ _ f done is in
      let text : IsTableReport IsTableText (table_text said.0 said.1) g =
      subst (λ (h : Finding). IsTableReport IsTableText (bytes_of h) g) said.3 again in
      keeps said.0 said.1 g said.2.1.table (in_range said.2.0 said.1 said.2.1.told) text ∙ sym said.3

  -- what a task on a table text finds on the report of table
  on_report : (answer : ChannelTable → Separation → Finding → Type 0) → ProgramTablesAreTables
      → (m near far : ℕ) (input : List ℕ)
      (f g : Finding) → IsNear near → IsFar far
      → IsProgramReport m (λ p. IsTableText (table_of p m) (record { near = near; far = far })) input f
      → status_of f ≡ Done → IsTableReport answer (bytes_of f) g
      → IsProgramReport m (λ p. answer (table_of p m) (record { near = near; far = far })) input g
  on_report answer tables m near far input f g is_near is_far is done again =
      let said = done_answer _ _ f done is in
      let p = said.0 in
      let s : Separation = record { near = near; far = far } in
      let range : IsSeparation s =
      record { some_near = is_near.some; small_near = is_near.small; small_far = is_far } in
      let text : IsTableReport answer (table_text (table_of p m) s) g =
      subst (λ (h : Finding). IsTableReport answer (bytes_of h) g) said.3 again in
      answered (p, said.1, said.2, on_text answer (table_of p m) s g (tables p m said.1.limits said.2) range text)

  pub audit : ProgramTablesAreTables → AuditOfTableIsJudge
  audit tables m v w near far input f g is_near is_far =
      on_report (IsAudit None) tables m near far input f g is_near is_far

  pub audit_solves : ProgramTablesAreTables → AuditOfTableSolves
  audit_solves tables m v w near far problem input f g is_near is_far =
      on_report (IsAudit (Some problem)) tables m near far input f g is_near is_far

  pub apply : ProgramTablesAreTables → TableHasTheChannelsOfRounds → OneListOfChannels → ApplyOfTableIsPlan
  apply tables has one m v w near far ring input f g is_near is_far is done again =
      go (on_report (IsApplyAnswer ring.items) tables m near far input f g is_near is_far is done again)
    where
      go : IsProgramReport m (λ p. IsApplyAnswer ring.items (table_of p m) (record { near = near; far = far })) input g
          → IsProgramReport m (λ p. IsAnswerOnRing m (length p.steps) ring.items (Finds (value.places ring.items (channels_of p ring.items)))) input g
      go (told fault refusal same) = told fault refusal same
      go (answered said) = answered (
        said.0,
        said.1,
        said.2,
        by_rounds has one said.0 m ring.items (record { near = near; far = far }) g said.3,
      )
