use Rattle.std.proofs.Common.{◌≡◌, ℕ, suc, ◌+◌, ◌*◌, ◌<◌, List, [], ◌∷◌, get_or, refl, arith}
use Rattle.std.proofs.Math.Nat.{mul-zero}
use Rattle.std.specs.List.{remove}
use Rattle.lang_check.specs.Plans.{ProgramForIds}
use Rattle.table_fill.specs.Shares.{windows_before, share_blocks, IsReadAt, AreReadFrom}
use Rattle.table_fill.specs.declared.share.Share.{Share}
use Rattle.table_fill.proofs.JoinedEntries.{joined_entries}
use Rattle.table_fill.proofs.shares.joined.Goals as goal

-- the first of the shares that are left, and the others
split :
    (plan : ProgramForIds) (count from : ℕ) (shares : List Share) (share : Share)
    → AreReadFrom plan count from shares → from < count
    → share ≡ get_or shares 0 share
    → IsReadAt plan (share_blocks plan count) from share × AreReadFrom plan count (from + 1) (remove shares 0)
split plan count from [] share are lt is = absurd (omega (arith, are.0))
split plan count from (s ∷ shares) share are lt is =
    let here : from + 0 ≡ from = omega arith in (
      rw (is, ← here) (are.1 0 s refl),
      (
        omega (arith, are.0),
        λ k t at'. let later : from + 1 + k ≡ from + suc k = omega arith in rw later (are.1 (suc k) t at'),
      ),
    )

pub loop-share-init : goal.loop-share-init
loop-share-init c =
    let plan = c.args.code.now in
    let each = share_blocks plan c.len-count.result in
    let both = split plan c.len-count.result 0 c.args.shares.items c.remove-entries.result
    (rw c.len-count.ensures c.requires.read) (omega (arith, c.len-count.ensures, c.requires.some))
    c.remove-entries.ensures.value in
    let none : each * 0 ≡ 0 = mul-zero each in
    let start : windows_before plan (each * 0) ≡ 0 = omega (arith, none) in
    record { entries = rw start at both.0.entries; rest = rw c.remove-entries.ensures.items both.1; room = both.0.all refl }

pub loop-share-preserved : goal.loop-share-preserved
loop-share-preserved c =
    let plan = c.args.code.now in
    let inv = c.loop-share.invariant in
    let both = split plan _ c.loop-share._share c.loop-share.shares.items c.remove-next.result inv.rest c.loop-share-test.true c.remove-next.ensures.value in
    record {
      entries = rw (c.in-Ok.ensures.items, c.deref.ensures.value)
          (joined_entries plan _ _ _ _ _ inv.entries both.0.entries);
      rest = rw c.remove-next.ensures.items both.1;
      room = omega (arith, inv.room, c.in-Ok.ensures.capacity);
    }

-- there is capacity for the entries of all shares
pub unreachable-requires : goal.unreachable-requires
unreachable-requires c =
    let inv = c.loop-share.invariant in
    let both = split c.args.code.now _ c.loop-share._share c.loop-share.shares.items c.remove-next.result inv.rest c.loop-share-test.true c.remove-next.ensures.value in
    omega (arith, c.in_default.ensures.full, c.deref.ensures.len, inv.entries.size, inv.room, both.0.entries.size)
