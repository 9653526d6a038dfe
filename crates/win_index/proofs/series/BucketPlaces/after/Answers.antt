use Rattle.win_index.proofs.SeriesPlaces.{later_is, none_later}
use Rattle.win_index.proofs.series.BucketPlaces.after.Goals as goal

pub returns-then-next-self-clause-next : goal.returns-then-next-self-clause-next
returns-then-next-self-clause-next c k m window some is =
    later_is some is _ _ c.past_gap.ensures c.past_gap-next.ensures c.if-next-self.true

pub returns-else-next-self-clause-last : goal.returns-else-next-self-clause-last
returns-else-next-self-clause-last c k m window some is =
    none_later some is _ _ c.past_gap.ensures c.past_gap-next.ensures c.if-next-self.false
