-- An injective code of program trees, which the model of `Program` asks for. No contract cites it.
use Rattle.std.specs.Prelude.{◌≡◌, ℕ, zero, suc, List, [], ◌∷◌, refl, slice_index_or}
use Rattle.std.proofs.Common.{sym, ◌∙◌, ap}
use Rattle.std.specs.Coded.{Coded, code_by, coded×, coded_ℕ, coded_list}
use base.Stored.{Gv, gnum, gcons}
use Rattle.node_program.specs.Term.{Term, Literal, Identifier, LeftMessage, RightMessage, RegisterValue, One, Two}
use Rattle.node_program.specs.Term.{Choose, Round, ProgramTree}
use Rattle.node_program.specs.declared.tree.UnOp.TheVariants.{Not}
use Rattle.node_program.specs.declared.tree.BinOp.{BinOp}
use Rattle.node_program.specs.declared.tree.BinOp.TheVariants as op

abbrev number_of : BinOp → ℕ
number_of op.And = 0
number_of op.Or = 1
number_of op.Xor = 2
number_of op.Shl = 3
number_of op.Shr = 4
number_of op.Add = 5
number_of op.Sub = 6
number_of op.Min = 7
number_of op.Max = 8
number_of op.Ldb = 9
number_of op.Bit = 10
number_of op.Eq = 11
number_of op.Ne = 12
number_of op.Lt = 13
number_of op.Le = 14

abbrev operation_at : ℕ → BinOp
operation_at n = slice_index_or (op.And ∷ op.Or ∷ op.Xor ∷ op.Shl ∷ op.Shr ∷ op.Add ∷ op.Sub ∷ op.Min ∷ op.Max ∷ op.Ldb
    ∷ op.Bit ∷ op.Eq ∷ op.Ne ∷ op.Lt ∷ op.Le ∷ []) n op.And

pub operation_at-number_of : (o : BinOp) → operation_at (number_of o) ≡ o
operation_at-number_of op.And = refl
operation_at-number_of o = refl

-- a leaf is a number, or a pair of a kind and a number; an operation is a pair of a kind and its operands
abbrev stored : Term → Gv
stored Identifier = gnum 0
stored LeftMessage = gnum 1
stored RightMessage = gnum 2
stored (Literal n) = gcons (gnum 0) (gnum n)
stored (RegisterValue n) = gcons (gnum 1) (gnum n)
stored (One Not a) = gcons (gnum 2) (stored a)
stored (Two o a b) = gcons (gnum 3) (gcons (gnum (number_of o)) (gcons (stored a) (stored b)))
stored (Choose c a b) = gcons (gnum 4) (gcons (stored c) (gcons (stored a) (stored b)))

abbrev loaded : Gv → Term
loaded (gnum (suc zero)) = LeftMessage
loaded (gnum (suc (suc n))) = RightMessage
loaded (gcons (gnum zero) (gnum n)) = Literal n
loaded (gcons (gnum (suc zero)) (gnum n)) = RegisterValue n
loaded (gcons (gnum (suc (suc zero))) a) = One Not (loaded a)
loaded (gcons (gnum (suc (suc (suc zero)))) (gcons (gnum o) (gcons a b))) = Two (operation_at o) (loaded a) (loaded b)
loaded (gcons (gnum (suc (suc (suc (suc n))))) (gcons c (gcons a b))) = Choose (loaded c) (loaded a) (loaded b)
loaded _ = Identifier

pub loaded-stored : (e : Term) → loaded (stored e) ≡ e
loaded-stored Identifier = refl
loaded-stored LeftMessage = refl
loaded-stored RightMessage = refl
loaded-stored (Literal n) = refl
loaded-stored (RegisterValue n) = refl
loaded-stored (One Not a) = ap (One Not) (loaded-stored a)
loaded-stored (Two o a b) = λ i. Two (operation_at-number_of o i) (loaded-stored a i) (loaded-stored b i)
loaded-stored (Choose c a b) = λ i. Choose (loaded-stored c i) (loaded-stored a i) (loaded-stored b i)

-- an injective code of expressions
abbrev pub term_code : Coded Term
term_code = record { code = stored; inj = λ x y e. sym (loaded-stored x) ∙ ap loaded e ∙ loaded-stored y }

abbrev step_code : Coded Round
step_code = code_by (Term × (Term × List Term)) (coded× term_code (coded× term_code (coded_list term_code)))
    (λ s. (s.left, (s.right, s.next))) (λ t. record { left = t.0; right = t.1.0; next = t.1.1 }) (λ _. refl)

abbrev pub program_code : Coded ProgramTree
program_code =
    code_by (ℕ × (List Term × (List Round × Term)))
    (coded× coded_ℕ (coded× (coded_list term_code) (coded× (coded_list step_code) term_code)))
    (λ p. (p.channels, (p.start, (p.steps, p.finish))))
    (λ t. record { channels = t.0; start = t.1.0; steps = t.1.1.0; finish = t.1.1.1 })
    (λ _. refl)
