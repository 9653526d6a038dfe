use Rattle.std.proofs.Common.{rules, ◌≡◌, ℕ, ◌+◌, ◌-◌, ◌*◌, ◌<◌, ◌≤◌, min, Some, length, subst, sym, ◌∙◌, ap, arith}
use Rattle.std.specs.Prelude.{slice_get}
use Rattle.std.proofs.Math.Nat.{mul-add, mul-one, mul-zero}
use Rattle.shared_memo.specs.LastBlocks.{blocks_of}
use Rattle.table_fill.specs.Shares.{share_blocks, IsShareAt}
use Rattle.table_fill.specs.declared.share.Share.{Share}
use Rattle.win_index.proofs.Windows.{each_snoc}
use Rattle.table_fill.proofs.shares.shares_of.Goals as goal

-- the blocks of a share are at most those for which it has capacity
own_held :
    (first end blocks held : ℕ) → end ≤ blocks → (first ≡ 0 → held ≡ blocks) → (0 < first → held ≡ end - first)
    → end - first ≤ held
own_held first end blocks held le all own = grind arith

-- the next share begins where this one ends
pub loop-share-preserved : goal.loop-share-preserved
loop-share-preserved c =
    let plan = c.args.code.now in
    let each = share_blocks plan c.args.count in
    let k = c.loop-share._share in
    let inv = c.loop-share.invariant in
    let blocks : c.blocks-blocks.result ≡ blocks_of plan = search rules in
    let size : c.div_ceil-each.result ≡ each = search rules in
    let more : each * (k + 1) ≡ each * k + each = mul-add each k 1 ∙ ap (λ n. each * k + n) (mul-one each) in
    let next : c.min-end.result ≡ min (each * (k + 1)) (blocks_of plan) =
    omega (arith, blocks, size, c.min-end.ensures, inv.first_is, more) in
    let made = c.in_ok-new.ensures in
    let held = c.held_blocks.ensures in
    let within : c.min-end.result ≤ c.blocks-blocks.result = omega (arith, c.min-end.ensures) in
    let at : IsShareAt plan each k c.in_ok-new.field-0 = record {
      ready = record {
        order = omega (arith, made.part, next, more, inv.first_is);
        within = omega (arith, made.part.1, next);
        columns = made.columns;
        empty = made.room.0;
        room = omega (arith, made.part, made.room.1, own_held _ _ _ _ within held.first held.others);
      };
      first_is = made.part.0 ∙ inv.first_is;
      end_is = made.part.1 ∙ next;
      all = λ zero. let none : each * k ≡ 0 = ap (λ n. each * n) zero
          ∙ mul-zero each in omega (arith, made.room.1, held.first (omega (arith, none, inv.first_is)), blocks);
    } in
    record {
      first_is = next;
      count = search rules;
      room = search rules;
      each = rw c.push_reserved.ensures.items
          (each_snoc (IsShareAt plan each) c.loop-share.shares.items _ inv.each (subst (λ n. IsShareAt plan each n c.in_ok-new.field-0) (sym inv.count) at));
    }

pub returns-clause-shares : goal.returns-clause-shares
returns-clause-shares c =
    let inv = c.loop-share.invariant in
    let count : length c.loop-share.shares.items ≡ c.args.count =
    omega (arith, inv.count, c.loop-share-test.false, c.loop-share.auto._share-end) in
    record {
      some = omega (arith, count, c.requires);
      each = subst (λ n. (k : ℕ) (s : Share) → slice_get c.loop-share.shares.items k ≡ Some s
          → IsShareAt c.args.code.now (share_blocks c.args.code.now n) k s) (sym count) inv.each;
    }
