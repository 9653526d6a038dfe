use Rattle.std.proofs.Common.{◌≡◌, ◌+◌, ◌-◌, subst, arith}
use Rattle.win_index.specs.BucketPrefixes.{HasNumbers, IsLonger}
use Rattle.win_index.proofs.BucketPrefixNumbers.{one_list}
use Rattle.win_index.proofs.bucket_prefixes.BucketPrefixes.longer.Goals as goal

pub invariant_of-result : goal.invariant_of-result
invariant_of-result c =
    let lists = c.args.lists in
    let own = c.requires.list in
    let size : lists.len - 1 + 1 ≡ lists.len = omega (arith, c.requires.len) in
    let numbers = rw (c.shorter.ensures.0, c.shorter.ensures.1) at c.longer-prefix.ensures in
    let has = subst (λ n. HasNumbers n lists.ids own.0 c.longer-prefix.result) size (numbers own.0 own.1) in
    record {
      parts = λ list other three. subst (IsLonger (lists.len - 1) lists.ids c.args.front c.args.place)
          (one_list lists.len lists.ids own.0 list c.longer-prefix.result (omega (arith, three)) has other) own.1;
    }
