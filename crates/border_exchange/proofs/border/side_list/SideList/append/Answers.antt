use Rattle.std.proofs.Common.{◌≡◌, ◌++◌, ◌∷◌, [], arith, length-append, length, sym, ap, ◌∙◌, rules}
use Rattle.border_exchange.proofs.Rounds.{rounds_snoc}
use Rattle.border_exchange.proofs.border.side_list.SideList.append.Goals as goal

-- the message at the end is of the next round, and the book gains one with it
pub invariant_of-self-2 : goal.invariant_of-self-2
invariant_of-self-2 g c =
    let had = c.self.inside.messages.items in
    let m = c.args.message in
    let items : c.push.new.self.items ≡ had ++ m ∷ [] = c.in_default.ensures.items in
    let dated = rounds_snoc g.M.Dated.side_of g.M.Dated.round_of c.self.inside.side had m c.self.invariant.1
    (c.requires.1 ∙ ap (λ v. v.side) (sym c.self.view_is)) (c.requires.2
    ∙ ap (λ v. length v.messages) (sym c.self.view_is)) in
    rw items (omega (arith, c.add.ensures.total, c.self.invariant.0, length-append had (m ∷ [])), dated, c.self.invariant.2)

pub returns-clause-appended : goal.returns-clause-appended
returns-clause-appended g c = search rules fits 100
