use Rattle.std.proofs.Common.{◌≡◌, ℕ, List, length, subst, sym, ◌∙◌}
use Rattle.std.proofs.lemmas.Result.{IfOk-weaker}
use Rattle.node_program.specs.GlobalRounds.{channel_at}
use Rattle.node_program.specs.Term.{ProgramTree}
use Rattle.channel_tables.specs.Tables.{ChannelTable}
use Rattle.table_fill.specs.Laws.{TableHasTheChannelsOfRounds}
use Rattle.table_fill.specs.ProgramTables.{table_of}
use Rattle.win_index.specs.Ring.{IsRing}
use Rattle.reports.specs.Report.{HasChannels}
use Rattle.plan_print.proofs.ring_channels.plan_channels.Goals as goal

-- the table of a program has the identifiers that it was made for, and the rounds of the program
ids_of : (p : ProgramTree) (m : ℕ) (t : ChannelTable) → t ≡ table_of p m → t.ids ≡ m
unfolding table_of
ids_of p m t is = λ i. (is i).ids

rounds_of : (p : ProgramTree) (m : ℕ) (t : ChannelTable) → t ≡ table_of p m → t.rounds ≡ length p.steps
unfolding table_of
rounds_of p m t is = λ i. (is i).rounds

-- on a ring it has the channels of global rounds
channels_of_rounds : TableHasTheChannelsOfRounds → (p : ProgramTree) (m : ℕ) (ring : List ℕ)
    → IsRing m (length p.steps) ring → HasChannels (table_of p m) ring (channel_at p ring)
unfolding table_of
channels_of_rounds has p m ring is = λ place within. has p m ring place is within

pub table_channels-requires-clause-ids : goal.table_channels-requires-clause-ids
table_channels-requires-clause-ids c =
    c.requires.shape.ids ∙ sym (ids_of c.args.plan.now.program c.args.plan.now.ids c.args.table.now c.requires.table)

pub table_channels-requires-clause-rounds : goal.table_channels-requires-clause-rounds
table_channels-requires-clause-rounds c =
    c.requires.shape.rounds ∙ sym (rounds_of c.args.plan.now.program c.args.plan.now.ids c.args.table.now c.requires.table)

pub returns : goal.returns
returns c =
    let p = c.args.plan.now.program in
    let m = c.args.plan.now.ids in
    let ring = c.args.ring.now.places in
    let valid : IsRing m (length p.steps) ring =
    rw (c.requires.shape.ids, c.requires.shape.rounds) at c.table_channels.ensures.valid in
    let met =
    subst (λ t. HasChannels t ring (channel_at p ring)) (sym c.requires.table)
    (channels_of_rounds c.table_has_the_channels_of_rounds.ensures p m ring valid) in
    IfOk-weaker c.table_channels.result _ _
    (λ channels are. c.one_list_of_channels.ensures c.args.table.now ring _ (channel_at p ring) are met)
    c.table_channels.ensures.channels
