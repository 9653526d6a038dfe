use Rattle.std.proofs.lemmas.Option.{IfSome_then}
use Rattle.win_index.proofs.BucketPrefixSteps.{begins_bucket, no_bucket_follows}
use Rattle.win_index.proofs.bucket_prefixes.BucketPrefixes.next.Goals as goal

pub returns-clause-next : goal.returns-clause-next
returns-clause-next c =
    let lists = c.args.self.lists in
    IfSome_then c.step.result c.step.ensures.next (λ later steps last is greatest has.
    begins_bucket lists.len lists.ids last c.args.self.prefix later.prefix is greatest lists.short steps has)

pub returns-clause-last : goal.returns-clause-last
returns-clause-last c =
    no_bucket_follows c.args.self.lists.len c.args.self.lists.ids c.args.self.prefix c.step.result c.step.ensures.last
