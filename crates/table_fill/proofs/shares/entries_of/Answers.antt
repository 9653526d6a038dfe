use Rattle.std.proofs.Common.{◌≡◌, ◌+◌, ◌*◌, ◌<◌, List, length, get_or, subst, ◌∙◌, arith}
use Rattle.std.proofs.lemmas.List.{with_items_is}
use Rattle.std.proofs.lemmas.Option.{slice_get_within, slice_get-get_or, get_or_from_slice_get}
use Rattle.lang_check.specs.Plans.{ProgramForIds}
use Rattle.table_fill.specs.Shares.{windows_before, share_blocks, AreShares, HasRead, AllRead, AreReadFrom}
use Rattle.table_fill.specs.declared.share.Share.{Share}
use Rattle.table_fill.proofs.shares.entries_of.Goals as goal

are_read :
    (plan : ProgramForIds) (old new : List Share) → AreShares plan old → AllRead plan old new → length new ≡ length old
    → AreReadFrom plan (length old) 0 new
are_read plan old new are read size = (
  omega (arith, size),
  λ k s is.
      let within : k < length old = omega (arith, slice_get_within new k s is, size) in
      let before = get_or old k s in
      let at = are.each k before (slice_get-get_or old k s within) in
      let has = subst (HasRead plan before) (get_or_from_slice_get new k s s is) (read k s within) in
      let each = share_blocks plan (length old) in
      let number : 0 + k ≡ k = omega arith in
      let first : windows_before plan before.first ≡ windows_before plan (each * k) = omega (arith, at.first_is) in
      let end : windows_before plan before.end ≡ windows_before plan (each * (k + 1)) = omega (arith, at.end_is) in
      rw number (record { entries = rw (first, end) at has.entries; all = λ zero. omega (arith, at.all zero, has.room) }),
)

pub read_shares-requires-clause-ready : goal.read_shares-requires-clause-ready
read_shares-requires-clause-ready g c κs within =
    rw c.deref_mut.ensures.value
    (λ k d lt. (c.requires.shares.each k _ (slice_get-get_or c.args.shares.items k d lt)).ready)

pub joined-requires-clause-read : goal.joined-requires-clause-read
joined-requires-clause-read g c =
    let new = c.read_shares.new.shares in
    let size = c.read_shares.auto.shares ∙ c.deref_mut.ensures.len in
    rw (with_items_is c.args.shares new size, c.args.shares.ok.0)
    (are_read c.args.code.now c.args.shares.items new c.requires.shares (rw c.deref_mut.ensures.value at c.read_shares.ensures) (size ∙ c.args.shares.ok.0))
