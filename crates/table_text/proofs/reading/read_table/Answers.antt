use Rattle.std.proofs.Common.{◌≡◌, List, ℕ, [], append-nil, sym, ap, subst, ◌∙◌}
use Rattle.std.specs.Prelude.{Result, Ok, Err, MatchResult, IfOk, IfErr}
use Rattle.channel_tables.specs.Tables.{ChannelTable}
use Rattle.channel_tables.specs.declared.separation.Separation.{Separation}
use Rattle.table_text.specs.TableText.{Written, written, text_of}
use Rattle.table_text.specs.Texts.{IsTextOf}
use Rattle.table_text.specs.Faults.{IsFault}
use Rattle.table_text.specs.Laws.{TableTextsAreApart, TableTextsAreRead}
use Rattle.table_text.specs.declared.fault.TableFault.{TableFault}
use Rattle.table_text.specs.declared.fault.TableFault.TheVariants.{OutOfMemory}
use Rattle.table_text.proofs.reading.read_table.Goals as goal

-- a result that is the table and the separation of a table text, or a fault of it, is the expected one or OutOfMemory
answers_table : TableTextsAreApart → TableTextsAreRead →
    (text : List ℕ) (r : Result (ChannelTable × Separation) TableFault)
    → IfOk r (λ read. IsTextOf text read.0 read.1) → IfErr r (IsFault text) →
    (t : ChannelTable) (s : Separation) → IsTextOf text t s
    → MatchResult r (λ read. (read.0 ≡ t) × (read.1 ≡ s)) (λ fault. fault ≡ OutOfMemory)
answers_table apart read text (Ok told) ok err t s is =
    let v = written ok.0 told.0 told.1 in
    let w = written is.0 t s in
    let one = (apart v w [] ok.1 is.1 (sym is.2 ∙ ok.2 ∙ sym (append-nil (text_of v)))).0 in
    (ap (λ (x : Written). x.table) one, ap (λ (x : Written). x.separation) one)
answers_table apart read text (Err fault) ok err t s is =
    read (written is.0 t s) fault is.1 (subst (λ l. IsFault l fault) is.2 err)

pub returns-clause-read : goal.returns-clause-read
returns-clause-read c =
    answers_table c.table_texts_are_apart.ensures c.table_texts_are_read.ensures c.args.text.now c.table_of.result
    c.table_of.ensures.table
    c.table_of.ensures.fault
