use Rattle.std.proofs.Common.{◌≡◌, ◌∙◌, ℕ, List, Some, slice_get, subst, sym}
use Rattle.std.proofs.lemmas.Option.{same_Some, slice_get_within}
use Rattle.channel_tables.specs.Tables.{ChannelTable}
use Rattle.channel_tables.specs.declared.separation.Separation.{Separation}
use Rattle.channel_tables.specs.Apart.{tuples, IsLeastBad}
use Rattle.channel_tables.proofs.Witnesses.{bad_is_not_apart, is_witness}
use Rattle.channel_tables.proofs.tuples.Tuples.witness.Goals as goal

-- the least bad tuple is the tuple with its number
least_at :
    (t : ChannelTable) (s : Separation) (number : ℕ) (ring : List ℕ) → (tuple : List ℕ) × IsLeastBad t s 0 number tuple
    → slice_get (tuples t s) number ≡ Some ring → IsLeastBad t s 0 number ring
least_at t s number ring bad item = subst (IsLeastBad t s 0 number) (same_Some bad.0 ring (sym bad.1.item ∙ item)) bad.1

pub write-requires-clause-below : goal.write-requires-clause-below
write-requires-clause-below g c =
    slice_get_within (tuples (g.W.Windows.table c.args.self.windows.now) c.args.self.separation) c.args.number c.requires.0
    c.requires.1.item

pub returns-clause-ring : goal.returns-clause-ring
returns-clause-ring g c =
    rw (c.in_ok-to_vec.ensures.items_if_clones_equal (λ x y same. same))
    (least_at (g.W.Windows.table c.args.self.windows.now) c.args.self.separation c.args.number c.write.new.out c.requires c.write.ensures.item)

pub returns-clause-witness : goal.returns-clause-witness
returns-clause-witness g c =
    rw (c.in_ok-to_vec.ensures.items_if_clones_equal (λ x y same. same))
    (is_witness (g.W.Windows.table c.args.self.windows.now) c.args.self.separation c.args.number _ _ _ _ c.write.new.out
    c.requires.0 c.requires.1 c.write.ensures.item c.write.ensures.tuple
    (c.rounds-place.ensures ∙ c.shape.ensures.rounds) c.in-Some.ensures.step c.in-Some.ensures.few
    c.channel_from-first.ensures c.channel_from-second.ensures)

pub returns-clause-not_apart : goal.returns-clause-not_apart
returns-clause-not_apart g c =
    bad_is_not_apart (g.W.Windows.table c.args.self.windows.now) c.args.self.separation c.args.number c.requires.0 c.requires.1
