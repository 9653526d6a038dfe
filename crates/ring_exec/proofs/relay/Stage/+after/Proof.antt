-- The recursion over the segments of a run: a call at its own border names does what its contract says, since the
-- inner call, at other border names, has a lesser count. The borrow checker covers no call of a function by itself at
-- other types, so the body is walked here, statement by statement.
use Rattle.ring_exec.proofs.Steps.{◌≡◌, ℕ, eqb→eq, List, [], ◌∷◌, refl, w32, arith, vint, tables, ‵, raw, ◌⊛◌, some}
use Rattle.ring_exec.proofs.Steps.{later, prop, at_ret, Sq, ◌$◌, ◌∵◌, !, qed, done, move, drop, use1, split, join}
use Rattle.ring_exec.proofs.Steps.{fsplit, feq_l, pick, await, suffices, group, enter, of_opd, lit, bin, first}
use Rattle.ring_exec.proofs.Steps.{branches, skips, exec, returns, returns_within, no_more, and_then, alloc_all}
use Rattle.ring_exec.proofs.Steps.{pass_all, free_all, look_at, get, sets, lands_as, env, yes, no, u32, uint_Makes}
use Rattle.ring_exec.proofs.Steps.{shows, plain, nothing, owned, peeks, heard, lasts, Stays, walk_of, stay_dropped}
use Rattle.ring_exec.proofs.Steps.{Goes-dropped, ends_at, says, triple_of, id⊢, ftrue, framed, calls_at, calls_from}
use Rattle.ring_exec.proofs.Steps.{◌+◌, ◌-◌, ◌<◌, ◌^◌, T, T_not, not, eqb, subst, subst⁻¹}
use Rattle.ring_exec.proofs.Falling.{ended_before}
use Rattle.ring_exec.proofs.FactRows.{tuple, facts, gather, shown, beside}
use Rattle.std.specs.Prelude.{IsNone, IsSome}
use Rattle.ring_exec.specs.Borders.{AreBlanksOf}
use Rattle.ring_exec.specs.Courses.{IsOnCourse, HasStarted, HasRefused, HasEnded}
use Rattle.ring_exec.proofs.relay.Stage.+after.{statement}
use Rattle.ring_exec.proofs.relay.Stage.+after.Code as code
use Rattle.ring_exec.specs.contracts.relay.Stage.after as after
use Rattle.ring_exec.specs.contracts.relay.Stage.after.Key as key
use Rattle.ring_exec.specs.contracts.relay.Stage.begin as begin
use Rattle.ring_exec.specs.contracts.relay.Stage.finish as finish
use Rattle.ring_exec.proofs.relay.Stage.begin.Met as begin_met
use Rattle.ring_exec.proofs.relay.Stage.finish.Met as finish_met
use Rattle.ring_exec.specs.contracts.relay.Stage as stage
use Rattle.ring_exec.proofs.relay.Stage.TheLaws as stage_laws
use Rattle.ring_exec.specs.contracts.course.Course as course
use Rattle.ring_exec.specs.contracts.joined.Joined as joined
use Rattle.ring_exec.proofs.joined.Joined.TheLaws as joined_laws
use Rattle.ring_exec.specs.contracts.border_name.Blanks as blanks
use Rattle.ring_exec.proofs.border_name.Blanks.TheLaws as blanks_laws
use Rattle.ring_exec.specs.contracts.border_name.Blanks.new as new
use Rattle.ring_exec.proofs.border_name.Blanks.new.Met as new_met
use Rattle.ring_exec.specs.contracts.end.Edge as edge
use Rattle.border_exchange.specs.contracts.message.Msg as message
use Rattle.border_exchange.specs.contracts.message.MsgDated.TheImpl as dated
use Rattle.round_eval.specs.declared.gate.Gate as Gate
use Rattle.round_eval.specs.contracts.gate.Gate.TheBound as gate_bound
use Rattle.ring_exec.specs.declared.border_name.BorderName as BorderName
use Rattle.ring_exec.specs.contracts.border_name.BrandBorderName.TheImpl as brand
use Rattle.std.specs.declared.thread.Threads as Threads
use Rattle.std.specs.declared.sync.Wait as Wait
use Rattle.std.specs.contracts.thread.Threads.TheBound as threads_bound
use Rattle.std.specs.contracts.sync.Wait.TheBound as wait_bound
use Rattle.std.specs.contracts.option.Option as option
use Rattle.std.specs.contracts.marker.Brand as marker
use Rattle.std.proofs.marker.Brand.TheLaws.{the_row_laws}
use Rattle.std.proofs.marker.Brand.TheSendSync as brand_sends
use seplogic.Ra.Ura.{Ura}
use mir.Syntax.{Dict, Fn, Body, Kind, skip, seq, tnil, dcons, dnil, ty_struct, a_type, of_param}
use mir.Val.{Val, has_ty, WT}
use mir.MapTy.{inst_fn}
use prog.Model.{Model}
use prog.Wired.{Wired}
use prog.Wp.{WpFn}
use base.Logic.{ent, via, emp}
use contract.BorrowLft.{◌⊑◌, ⊑_static}
use contract.Forks.{Anywhere₂}
use contract.Lifetimes.{Lfts, Shares, AllOutlive, toks}
use contract.Monad.{fact}
use contract.Running.{Running, tables_of}
use types.Kit.{Item, flt_l}
use types.Logic.{Logic, sem}
use denote.Laws.{Is}
use denote.Param.{arg, bounded, layout, param}
use denote.Exit.{Kept, Last, left, rest as at_rest}
use denote.Param.Mute.{Mute, Mute-still, Mute-flat, Mute-fields, Mute-variants, struct-Mute}
use denote.Enum.Declared as enum
use denote.Struct.Declared as struct
use denote.Param.Laws.{Laws, arg_laws, param_laws}
use denote.Param.Send.{IsSend, IsSync, param_send, param_sync, arg_send, arg_sync}
use denote.Param.Steps.{one_value}
use denote.RattleType.{RattleType}
use denote.Signature.{named_lft, Slot}
use denote.Triple.Clauses.{Ended, Clauses, Lasts}
use denote.Triple.Generic.{Stated, Graded, Below, measured, mutual_elim}
use denote.Triple.Statement.{Contract}
use denote.Triple.Walked.{walk_meets_at, Goes}
use sound.WpLaws.{WpFn-mono}
use lib.Dec.{eqb_refl}
use lib.NonEmpty.{one}
use lib.WfN.{lt-wf_rel}

-- numbers that a test tells apart
apart : (a b : ℕ) → T (not (eqb a b)) → a ≡ b → ⊥
apart a b t e = T_not (eqb a b) t (subst (λ (k : ℕ). T (eqb a k)) e (eqb_refl a))

-- the rest after the first statement
abbrev rest : Body → Body
rest (seq a b) = b
rest b = skip

-- the type parameters R, G, B, L and N
abbrev five : List Kind
five = a_type ∷ a_type ∷ a_type ∷ a_type ∷ a_type ∷ []

-- whether a type may be sent to another thread does not depend on its parameter
send_as : (i j : ℕ) (X : RattleType) → IsSend (param i X) → IsSend (param j X)
send_as i j X s = record { owned = s.owned; leaving = λ k. s.leaving (λ ℓ. k (of_param j)) }

sync_as : (i j : ℕ) (X : RattleType) → IsSync (param i X) → IsSync (param j X)
sync_as i j X s = record { shared = s.shared }

-- the border names of a call, each with its laws, its ghost members and its dictionary: B of the border before, L of
-- the last border, N of the new one
record Over : Type 2 where
  B : RattleType
  B-laws : Laws B
  B-ghosts : BorderName.Ghosts B.Denot
  B-dict : Dict
  L : RattleType
  L-laws : Laws L
  L-ghosts : BorderName.Ghosts L.Denot
  L-dict : Dict
  N : RattleType
  N-laws : Laws N
  N-ghosts : BorderName.Ghosts N.Denot
  N-dict : Dict

-- `Brand`, as the argument of a parameter
abbrev fresh : RattleType
fresh = arg (ty_struct [] tnil) no marker.the_row

fresh_send : (i : ℕ) → IsSend (param i fresh)
fresh_send i = param_send i fresh (arg_send (ty_struct [] tnil) no marker.the_row brand_sends.the_send)

fresh_sync : (i : ℕ) → IsSync (param i fresh)
fresh_sync i = param_sync i fresh (arg_sync (ty_struct [] tnil) no marker.the_row brand_sends.the_sync)

-- the inner call's border names: the new border is then the one before, the last one stays, and the next new one has
-- the names of the new blanks
abbrev inner : Over → blanks.the_row.Denot → Over
inner o bs =
    record {
      B = o.N;
      B-laws = o.N-laws;
      B-ghosts = o.N-ghosts;
      B-dict = o.N-dict;
      L = o.L;
      L-laws = o.L-laws;
      L-ghosts = o.L-ghosts;
      L-dict = o.L-dict;
      N = fresh;
      N-laws = arg_laws (ty_struct [] tnil) no marker.the_row the_row_laws refl;
      N-ghosts = record { rightward = bs.right.name; leftward = bs.left.name };
      N-dict = brand.dict;
    }

-- the lifetimes of a call are those of 'c, 's, 'e, 'a, R, G, B, L and N. For the inner call those of B and N change
-- places: N's then goes with the new border, and B's, which may be any, with `Brand`
abbrev turned : Lfts 9 → Lfts 9
turned κs = (κs.0, (κs.1.0, (κs.1.1.0, (κs.1.1.1.0, (κs.1.1.1.1.0, (κs.1.1.1.1.1.0, (κs.1.1.1.1.1.1.1.1.0, (κs.1.1.1.1.1.1.1.0, (κs.1.1.1.1.1.1.0, tt)))))))))

abbrev turned_shares : Shares 9 → Shares 9
turned_shares qs = (qs.0, (qs.1.0, (qs.1.1.0, (qs.1.1.1.0, (qs.1.1.1.1.0, (qs.1.1.1.1.1.0, (qs.1.1.1.1.1.1.1.1.0, (qs.1.1.1.1.1.1.1.0, (qs.1.1.1.1.1.1.0, tt)))))))))

-- what a call asks: of its lifetimes, of its types, of the blanks, and that the run is on its course
abbrev asked : RattleType → RattleType → Over → Lfts 9 → blanks.the_row.Denot → Type 0 → List (Type 0)
asked R G o κs bs on_course =
    (κs.1.1.1.1.0 ⊑ R.lives) ∷ (κs.1.1.1.1.1.0 ⊑ G.lives)
    ∷ (κs.1.1.1.1.1.1.0 ⊑ o.B.lives) ∷ (κs.1.1.1.1.1.1.1.0 ⊑ o.L.lives) ∷ (κs.1.1.1.1.1.1.1.1.0 ⊑ o.N.lives)
    ∷ IsSend (param 2 o.B) ∷ IsSend (param 3 o.L) ∷ IsSend (param 4 o.N)
    ∷ IsSync (param 0 R) ∷ IsSync (param 1 G) ∷ IsSync (param 2 o.B) ∷ IsSync (param 3 o.L) ∷ IsSync (param 4 o.N)
    ∷ AreBlanksOf bs o.N-ghosts.rightward o.N-ghosts.leftward
    ∷ on_course
    ∷ []

-- the requirements of the inner call follow from those of the outer call, from the parts of the new blanks, and from
-- what `begin` says of the run
asked_inside : (R G : RattleType) (o : Over) (κs : Lfts 9) (bs new : blanks.the_row.Denot) (before after : Type 0)
    → (new.right.parts ≡ 1 × new.left.parts ≡ 1)
    → after → tuple (asked R G o κs bs before) → tuple (asked R G (inner o new) (turned κs) new after)
asked_inside R G o κs bs new before after ones on_course
    (r, (g, (b, (l, (n, (send_b, (send_l, (send_n, (sync_r, (sync_g, (sync_b, (sync_l, (sync_n, named)))))))))))))
    = (
      r,
      (
        g,
        (
          n,
          (
            l,
            (
              ⊑_static κs.1.1.1.1.1.1.0,
              (
                send_as 4 2 o.N send_n,
                (
                  send_l,
                  (
                    fresh_send 4,
                    (
                      sync_r,
                      (
                        sync_g,
                        (sync_as 4 2 o.N sync_n, (sync_l, (fresh_sync 4, ((refl, ones.0, refl, ones.1), (on_course, tt))))),
                      ),
                    ),
                  ),
                ),
              ),
            ),
          ),
        ),
      ),
    )

module _ {M : Type 1} (𝓤 : Ura M) (𝓛 : Logic 𝓤) (𝓜 : Model 𝓤 𝓛.H) (𝓡 : Running 𝓤 𝓛.H 𝓜) (wired : Wired 𝓡.env code.code)
    (R G : RattleType) (RL : Laws R) (GL : Laws G) (RT : Threads.Ghosts R.Denot) (RTd : Dict) (RW : Wait.Ghosts R.Denot)
    (RWd : Dict) (GG : Gate.Ghosts G.Denot) (GGd : Dict)
    (mT : threads_bound.Met 𝓛 𝓜 𝓡 𝓡.env R RT RTd) (mW : wait_bound.Met 𝓛 𝓜 𝓡 𝓡.env R RW RWd)
    (mG : Anywhere₂ 𝓛 𝓜 𝓡 𝓡.env (λ 𝓤 𝓛 𝓜 𝓡 γ. gate_bound.Met 𝓛 𝓜 𝓡 γ G GG GGd)) where
  -- the statement to be proved, at any border names
  abbrev stated : Stated 𝓤
  stated =
      record {
        Over = Over;
        signature = λ o. after.signature R G o.B o.L o.N RT RTd RW RWd GG GGd o.B-ghosts o.B-dict o.L-ghosts o.L-dict o.N-ghosts o.N-dict;
        run = λ o. 𝓡.run (𝓡.env (key.name (bounded five (R, (G, (o.B, (o.L, (o.N, tt))))) (dcons RTd (dcons RWd (dcons GGd (dcons o.B-dict (dcons o.L-dict (dcons o.N-dict dnil)))))))));
        spec = λ o. after.spec R G o.B o.L o.N RT RTd RW RWd GG GGd o.B-ghosts o.B-dict o.L-ghosts o.L-dict o.N-ghosts o.N-dict 𝓛 𝓜.mem 𝓡.returns;
      }

  -- the count decreases
  abbrev grade : Graded 𝓛 ℕ stated
  grade = measured 𝓛 stated (λ o y. y.0.3.1.0)

  abbrev ended : Over → Ended
  ended o = after.ended R G o.B o.L o.N RT RTd RW RWd GG GGd o.B-ghosts o.B-dict o.L-ghosts o.L-dict o.N-ghosts o.N-dict

  -- the tokens of a call's lifetimes
  abbrev tokens : Lfts 9 → Shares 9 → Item 𝓤
  tokens κs qs = raw (toks 𝓛 9 κs qs)

  turns : (κs : Lfts 9) (qs : Shares 9) → ent 𝓤 (toks 𝓛 9 κs qs) (toks 𝓛 9 (turned κs) (turned_shares qs))
  turns κs qs =
      qed 𝓛 (raw (𝓛.A.lft κs.0 qs.0) ∷ raw (𝓛.A.lft κs.1.0 qs.1.0) ∷ raw (𝓛.A.lft κs.1.1.0 qs.1.1.0) ∷ raw (𝓛.A.lft κs.1.1.1.0 qs.1.1.1.0)
      ∷ raw (𝓛.A.lft κs.1.1.1.1.0 qs.1.1.1.1.0) ∷ raw (𝓛.A.lft κs.1.1.1.1.1.0 qs.1.1.1.1.1.0) ∷ raw (𝓛.A.lft κs.1.1.1.1.1.1.0 qs.1.1.1.1.1.1.0)
      ∷ raw (𝓛.A.lft κs.1.1.1.1.1.1.1.0 qs.1.1.1.1.1.1.1.0) ∷ raw (𝓛.A.lft κs.1.1.1.1.1.1.1.1.0 qs.1.1.1.1.1.1.1.1.0) ∷ raw (emp 𝓤) ∷ []) ∵
      move ! (0 ∷ 1 ∷ 2 ∷ 3 ∷ 4 ∷ 5 ∷ 8 ∷ 7 ∷ 6 ∷ []) $ group ! 10 $ done !

  -- of a parameter that is moved away nothing is said
  goes_quiet : (s : Slot 9) (k : Kept) → ((κs : Lfts 9) → Mute ((s.row κs).exit k)) → Goes 𝓛 9 s k (stay_dropped s k)
  goes_quiet s k m κs x w vs ok =
      subst⁻¹ (λ (w : Last ((s.row κs).exit k) x). ent 𝓤 (emp 𝓤) (𝓛.H.⇛ (sem 𝓛 (left ((s.row κs).exit k) x w))))
      ((m κs).once x w)
      (via 𝓤 (sem 𝓛 (left ((s.row κs).exit k) x (at_rest ((s.row κs).exit k) x))) ((m κs).quiet M 𝓤 𝓛 x) (𝓛.laws.⇛_intro _))

  quiet_blanks : Mute (blanks.the_row.exit yes)
  quiet_blanks = Mute-flat (λ x w. refl) (λ x. tt)

  module _ (o : Over) where
    abbrev function : Fn
    function = inst_fn (bounded five (R, (G, (o.B, (o.L, (o.N, tt))))) (dcons RTd (dcons RWd (dcons GGd (dcons o.B-dict (dcons o.L-dict (dcons o.N-dict dnil))))))) code.after-function

    abbrev stayed : Stays (ended o).signature.params (ended o).kept
    stayed = (stay_dropped _ no, (stay_dropped _ yes, (stay_dropped _ yes, tt)))

    abbrev clauses : Clauses 𝓤 (ended o)
    clauses = after.clauses R G o.B o.L o.N RT RTd RW RWd GG GGd o.B-ghosts o.B-dict o.L-ghosts o.L-dict o.N-ghosts o.N-dict 𝓛 𝓜.mem 𝓡.returns

    abbrev W : Contract 𝓤
    W = walk_of 𝓛 (ended o) stayed clauses

    abbrev finish_ended : Ended
    finish_ended = finish.ended R G o.B o.L o.N RT RTd RW RWd GG GGd o.B-ghosts o.B-dict o.L-ghosts o.L-dict o.N-ghosts o.N-dict

    abbrev begin_ended : Ended
    begin_ended = begin.ended R G o.B o.L o.N RT RTd RW RWd GG GGd o.B-ghosts o.B-dict o.L-ghosts o.L-dict o.N-ghosts o.N-dict

    module _ (κs : Lfts 9) where
      -- the stage that is passed in, and its laws
      abbrev Before : RattleType
      Before = stage.the_row (named_lft 9 0 tt κs) (named_lft 9 1 tt κs) (named_lft 9 2 tt κs) (named_lft 9 3 tt κs)
          (param 0 R) (param 1 G) (param 2 o.B) (param 3 o.L) o.B-ghosts o.L-ghosts

      abbrev before_laws : Laws Before
      before_laws = stage_laws.the_row_laws (named_lft 9 0 tt κs) (named_lft 9 1 tt κs) (named_lft 9 2 tt κs)
          (named_lft 9 3 tt κs) (param 0 R) (param 1 G) (param 2 o.B) (param 3 o.L) o.B-ghosts o.L-ghosts
          (param_laws 0 R RL) (param_laws 1 G GL) (param_laws 2 o.B o.B-laws) (param_laws 3 o.L o.L-laws)

      -- nothing is said of it: field by field of a stage (scope, course) and of a course (shared, before, last,
      -- progress)
      quiet_before : Mute (Before.exit no)
      quiet_before =
          struct-Mute (stage.the_type (named_lft 9 0 tt κs) (named_lft 9 1 tt κs) (named_lft 9 2 tt κs) (named_lft 9 3 tt κs) (param 0 R) (param 1 G) (param 2 o.B) (param 3 o.L) o.B-ghosts o.L-ghosts) no (
            Mute-still,
            (
              Mute-fields no (struct.fields (course.the_type (named_lft 9 3 tt κs) (param 0 R) (param 1 G) (param 2 o.B) (param 3 o.L) o.B-ghosts o.L-ghosts)) (
                Mute-still,
                (
                  Mute-variants no (enum.variants (option.the_type (edge.the_row (message.the_row (named_lft 9 3 tt κs)) (param 2 o.B) dated.ghosts o.B-ghosts))) (tt, ((Mute-flat (λ x w. refl) (λ x. tt), tt), tt)),
                  (Mute-flat (λ x w. refl) (λ x. tt), (Mute-flat (λ x w. refl) (λ x. tt), tt)),
                ),
              ),
              tt,
            ),
          )

      -- the stage that `begin` returns, and its laws
      abbrev Next : RattleType
      Next = stage.the_row (named_lft 9 0 tt κs) (named_lft 9 1 tt κs) (named_lft 9 2 tt κs) (named_lft 9 3 tt κs)
          (param 0 R) (param 1 G) (param 4 o.N) (param 3 o.L) o.N-ghosts o.L-ghosts

      abbrev next_laws : Laws Next
      next_laws = stage_laws.the_row_laws (named_lft 9 0 tt κs) (named_lft 9 1 tt κs) (named_lft 9 2 tt κs)
          (named_lft 9 3 tt κs) (param 0 R) (param 1 G) (param 4 o.N) (param 3 o.L) o.N-ghosts o.L-ghosts
          (param_laws 0 R RL) (param_laws 1 G GL) (param_laws 4 o.N o.N-laws) (param_laws 3 o.L o.L-laws)

      -- what is asked of a stage and a count
      abbrev on_course : Before.Denot → ℕ → Type 0
      on_course s n = IsOnCourse s.course.before s.course.progress (n + 1)

      abbrev Joined : RattleType
      Joined = joined.the_row (named_lft 9 3 tt κs)

    -- one call: its lifetimes and their shares, its stage s, its count n and its blanks bs
    module _ (κs : Lfts 9) (qs : Shares 9) (bounds : AllOutlive 9 (ended o).signature.outlives κs)
        (s : (Before κs).Denot) (n : ℕ) (bs : blanks.the_row.Denot) where
      abbrev bound : List Val → List Val → List Val → W.Ghost
      bound ss ns cs = ((κs, qs, bounds, (s, (n, (bs, tt))), (ss, (ns, (cs, tt)))), tt)

      -- the body runs to the end, from what the call owns
      abbrev Sequent : List Val → List Val → List Val → Type 1
      Sequent ss ns cs =
          Sq 𝓛 (‵ ((Before κs).own_val s ss) ∷ ‵ (blanks.the_row.own_val bs cs) ∷ tokens κs qs ∷ [])
          (prop (WpFn 𝓤 𝓛.H (tables 𝓤 𝓛.H 𝓜 𝓡 𝓡.env).C (tables 𝓤 𝓛.H 𝓜 𝓡 𝓡.env).Λ function (W.args (bound ss ns cs)) (W.post (bound ss ns cs))))

      -- the exit, with the result d
      out : (v b d : Val) (r : (Joined κs).Denot) → HasEnded s.course.progress (n + 1) r
          → Sq 𝓛 (‵ ((Joined κs).own_val r (d ∷ [])) ∷ tokens κs qs ∷ [])
          (prop (W.post (bound (v ∷ []) (vint w32 n ∷ []) (b ∷ [])) d))
      out v b d r made =
          suffices ! _ (ends_at 𝓛 (ended o) stayed clauses (bound (v ∷ []) (vint w32 n ∷ []) (b ∷ [])) d r (at_rest ((Before κs).exit no) s, (tt, (at_rest (blanks.the_row.exit yes) bs, tt))) (tt, (tt, (tt, tt)))) $ says ! made $
          nothing ! $ nothing ! $ join ! $ nothing ! $ join ! $ nothing ! $ join ! $ move !
          (2 ∷ []) $ group ! 3 $ done !

      walk : (v b : Val) → T (has_ty (layout (Before κs)) v) × WT v
          → T (has_ty (layout blanks.the_row) b) × WT b → n < 2 ^ 32
          → tuple (asked R G o κs bs (on_course κs s n)) → Below 𝓛 grade (λ s. s < n)
          → Sequent (v ∷ []) (vint w32 n ∷ []) (b ∷ [])
      walk v b v_ok b_ok low met below =
          let 𝓣 = tables 𝓤 𝓛.H 𝓜 𝓡 𝓡.env in
          let y = bound (v ∷ []) (vint w32 n ∷ []) (b ∷ []) in
          let F = triple_of 𝓛 (finish.signature R G o.B o.L o.N RT RTd RW RWd GG GGd o.B-ghosts o.B-dict o.L-ghosts o.L-dict o.N-ghosts o.N-dict) (finish.spec R G o.B o.L o.N RT RTd RW RWd GG GGd o.B-ghosts o.B-dict o.L-ghosts o.L-dict o.N-ghosts o.N-dict 𝓛 𝓜.mem 𝓡.returns) in
          let B = triple_of 𝓛 (begin.signature R G o.B o.L o.N RT RTd RW RWd GG GGd o.B-ghosts o.B-dict o.L-ghosts o.L-dict o.N-ghosts o.N-dict) (begin.spec R G o.B o.L o.N RT RTd RW RWd GG GGd o.B-ghosts o.B-dict o.L-ghosts o.L-dict o.N-ghosts o.N-dict 𝓛 𝓜.mem 𝓡.returns) in
          let N = triple_of 𝓛 new.signature (new.spec 𝓛 𝓜.mem 𝓡.returns) in
          let called : N.Ghost = ((tt, tt, tt, tt, tt), tt) in
          enter ! _ _ _ _ _ $ alloc_all ! (λ l. pass_all ! refl (v_ok, ((tt, record { fits = low }), (b_ok, tt))) $
          -- if count == 0
          sets ! (bin ! (get ! refl) (lit ! tt) tt) refl (tt, tt) $
          first ! $ branches ! (get ! refl)
          (λ is_zero.
          -- return finish(stage, count, blanks)
          sets ! (of_opd ! (get ! refl)) refl v_ok $ sets ! (of_opd ! (get ! refl)) refl b_ok $
          nothing ! $ move ! (2 ∷ 0 ∷ []) $ join ! $ owned ! u32 _ (uint_Makes 𝓛 w32) n (vint w32 n ∷ [])
          (refl, low) $ join ! $ move ! (1 ∷ 0 ∷ []) $ join ! $ move ! (1 ∷ 0 ∷ []) $ join ! $
          use1 𝓛 (raw (F.pre y)) (beside 𝓤 _ _ (shown 𝓤 (asked R G o κs bs (on_course κs s n)) met)) $
          calls_at ! (framed 𝓤 𝓛.H 𝓜 𝓣) F
          (finish_met.met 𝓤 𝓛 𝓜 𝓡 (code.calls-ring_exec::relay::Stage::finish 𝓡.env wired) R G o.B o.L o.N RL GL
          o.B-laws o.L-laws o.N-laws RT RTd RW RWd GG GGd o.B-ghosts o.B-dict o.L-ghosts o.L-dict o.N-ghosts
          o.N-dict mT mW mG (λ 𝓛' 𝓜' 𝓡' l. record {}) (λ 𝓛' 𝓜' 𝓡' l. record {}) (λ 𝓛' 𝓜' 𝓡' l. record {})) y
          (and_then ! (get ! refl) (and_then ! (get ! refl) (and_then ! (get ! refl) (no_more !)))) (λ d.
          use1 𝓛 (later (some (λ (r : (Joined κs).Denot). (tokens κs qs ⊛ ‵ ((Joined κs).own_val r (d ∷ []))) ⊛ some (λ (ws : Lasts finish_ended y.0.0 y.0.3). ‵ (lasts finish_ended y.0.0 y.0.3 ws) ⊛ raw (fact 𝓤 (HasEnded s.course.progress 1 r)))))) (id⊢ 𝓤 _) $
          await ! tt $ pick ! (λ r. split ! $ move ! (1 ∷ []) $ pick ! (λ ws. split ! $ drop ! $ heard ! _ (λ all. split ! $ move ! (1 ∷ []) $ peeks ! (Joined κs) (Is (Joined κs)) (shows 𝓛 (Joined κs)) r (d ∷ []) (λ is_r.
          lands_as ! refl refl (((joined_laws.the_row_laws (named_lft 9 3 tt κs)).lawful 𝓛).typed r (d ∷ []) is_r).0 $
          returns_within ! (W.post y) refl (look_at ! 0 refl) $ free_all ! refl $ out v b d r
          (let none : n ≡ 0 = eqb→eq n 0 is_zero in rw none all)))))))
          (λ not_zero. skips ! $ exec ! 𝓣.C 𝓣.Λ (env function.locals l) (rest (rest function.body)) (at_ret _ (W.post y)) $
          let pos : 0 < n = let h : n ≡ 0 → ⊥ = apart n 0 not_zero in omega arith in
          let less : n - 1 < n = omega arith in
          let low' : n - 1 < 2 ^ 32 = omega arith in
          -- let next = begin(stage, count, blanks)
          sets ! (of_opd ! (get ! refl)) refl v_ok $ sets ! (of_opd ! (get ! refl)) refl b_ok $
          nothing ! $ move ! (2 ∷ 0 ∷ []) $ join ! $ owned ! u32 _ (uint_Makes 𝓛 w32) n (vint w32 n ∷ [])
          (refl, low) $ join ! $ move ! (1 ∷ 0 ∷ []) $ join ! $ move ! (1 ∷ 0 ∷ []) $ join ! $
          use1 𝓛 (raw (B.pre y)) (beside 𝓤 _ _ (shown 𝓤 (asked R G o κs bs (on_course κs s n)) met)) $
          calls_at ! (framed 𝓤 𝓛.H 𝓜 𝓣) B
          (begin_met.met 𝓤 𝓛 𝓜 𝓡 (code.calls-ring_exec::relay::Stage::begin 𝓡.env wired) R G o.B o.L o.N RL GL
          o.B-laws o.L-laws o.N-laws RT RTd RW RWd GG GGd o.B-ghosts o.B-dict o.L-ghosts o.L-dict o.N-ghosts
          o.N-dict mT mW mG (λ 𝓛' 𝓜' 𝓡' l. record {}) (λ 𝓛' 𝓜' 𝓡' l. record {}) (λ 𝓛' 𝓜' 𝓡' l. record {})) y
          (and_then ! (get ! refl) (and_then ! (get ! refl) (and_then ! (get ! refl) (no_more !)))) (λ w.
          use1 𝓛 (later (some (λ (x : (Next κs).Denot). (tokens κs qs ⊛ ‵ ((Next κs).own_val x (w ∷ []))) ⊛ some (λ (ws : Lasts begin_ended y.0.0 y.0.3). ‵ (lasts begin_ended y.0.0 y.0.3 ws) ⊛ raw (fact 𝓤 (IsOnCourse x.course.before x.course.progress n)) ⊛ raw (fact 𝓤 (HasStarted s.course.progress x.course.progress)) ⊛ raw (fact 𝓤 (IsSome s.course.before → IsNone x.course.before → HasRefused s.course.progress x.course.progress)))))) (id⊢ 𝓤 _) $
          await ! tt $ pick ! (λ x. split ! $ move ! (1 ∷ []) $ pick ! (λ ws. split ! $ drop ! $ split ! $ heard ! _ (λ goes_on. split ! $ heard ! _ (λ started. heard ! _ (λ _. split ! $ move ! (1 ∷ []) $ peeks ! (Next κs) (Is (Next κs)) (shows 𝓛 (Next κs)) x (w ∷ []) (λ is_x.
          let w_ok = (((next_laws κs).lawful 𝓛).typed x (w ∷ []) is_x).0 in
          lands_as ! refl refl w_ok $ sets ! (of_opd ! (get ! refl)) refl w_ok $
          -- count - 1
          sets ! (bin ! (get ! refl) (lit ! tt) pos) refl (tt, record { fits = low' }) $
          -- Blanks::new(), with the next stage, the tokens and the locals at hand
          nothing ! $ nothing ! $ nothing ! $ join ! $ join ! $ use1 𝓛 (raw (N.pre called)) (id⊢ 𝓤 _) $
          calls_at ! (framed 𝓤 𝓛.H 𝓜 𝓣) N
          (new_met.met 𝓤 𝓛 𝓜 𝓡 (code.calls-ring_exec::border_name::Blanks::new 𝓡.env wired)) called
          (no_more !) (λ u.
          use1 𝓛 (later (some (λ (bs' : blanks.the_row.Denot). (‵ ftrue ⊛ ‵ (blanks.the_row.own_val bs' (u ∷ []))) ⊛ some (λ (ws : Lasts new.ended tt tt). ‵ (lasts new.ended tt tt ws) ⊛ raw (fact 𝓤 (bs'.right.parts ≡ 1 × bs'.left.parts ≡ 1)))))) (id⊢ 𝓤 _) $
          await ! tt $ pick ! (λ bs'. split ! $ split ! $ drop ! $ move ! (1 ∷ []) $ pick ! (λ ws. split ! $ drop ! $ heard ! _ (λ ones.
          peeks ! blanks.the_row (Is blanks.the_row) (shows 𝓛 blanks.the_row) bs' (u ∷ []) (λ is_new.
          lands_as ! refl refl ((blanks_laws.the_row_laws.lawful 𝓛).typed bs' (u ∷ []) is_new).0 $
          -- after(next, count - 1, the new blanks), with the new blanks, the next stage, the tokens and the locals
          -- at hand
          let i : Over = inner o bs' in
          let G' = triple_of 𝓛 (stated.signature i) (stated.spec i) in
          let z : G'.Ghost = ((turned κs, turned_shares qs, (bounds.0, (bounds.1.0, (bounds.1.1.0, (bounds.1.1.1.0, (bounds.1.1.1.1.1.1.0, (bounds.1.1.1.1.1.0, (bounds.1.1.1.1.0, (bounds.1.1.1.1.1.1.1.0, (bounds.1.1.1.1.1.1.1.1.0, tt))))))))), (x, (n - 1, (bs', tt))), (w ∷ [], (vint w32 (n - 1) ∷ [], (u ∷ [], tt)))), tt) in
          nothing ! $ move ! (1 ∷ 0 ∷ []) $ join ! $ owned ! u32 _ (uint_Makes 𝓛 w32) (n - 1) (vint w32 (n - 1) ∷ [])
          (refl, low') $ join ! $ move ! (1 ∷ 0 ∷ []) $ join ! $
          move ! (1 ∷ []) $ use1 𝓛 (tokens (turned κs) (turned_shares qs)) (turns κs qs) $ join ! $
          use1 𝓛 (raw (G'.pre z)) (beside 𝓤 _ _ (shown 𝓤 (asked R G i (turned κs) bs' (IsOnCourse x.course.before x.course.progress (n - 1 + 1))) (asked_inside R G o κs bs bs' (on_course κs s n) _ ones (let same : n - 1 + 1 ≡ n = omega arith in rw same goes_on) met))) $
          calls_from ! (framed 𝓤 𝓛.H 𝓜 𝓣) (raw (G'.pre z)) (G'.args z) (G'.post z) (below (n - 1) less i z refl)
          (and_then ! (get ! refl) (and_then ! (get ! refl) (and_then ! (get ! refl) (no_more !)))) (λ d.
          use1 𝓛 (later (some (λ (r : (Joined κs).Denot). (tokens (turned κs) (turned_shares qs) ⊛ ‵ ((Joined κs).own_val r (d ∷ []))) ⊛ some (λ (ws : Lasts (ended i) z.0.0 z.0.3). ‵ (lasts (ended i) z.0.0 z.0.3 ws) ⊛ raw (fact 𝓤 (HasEnded x.course.progress (n - 1 + 1) r)))))) (id⊢ 𝓤 _) $
          await ! tt $ pick ! (λ r. split ! $ move ! (1 ∷ []) $ pick ! (λ ws. split ! $ drop ! $ heard ! _ (λ all. split ! $ use1 𝓛 (tokens κs qs) (turns (turned κs) (turned_shares qs)) $ move ! (1 ∷ []) $
          peeks ! (Joined κs) (Is (Joined κs)) (shows 𝓛 (Joined κs)) r (d ∷ []) (λ is_r.
          lands_as ! refl refl (((joined_laws.the_row_laws (named_lft 9 3 tt κs)).lawful 𝓛).typed r (d ∷ []) is_r).0 $
          returns ! (look_at ! 0 refl) $ free_all ! refl $ out v b d r
          (ended_before s.course.progress x.course.progress n r pos started all))))))))))))))))))))

      -- from the call's own statement: its facts, and one machine value for each parameter
      walks : (ss ns cs : List Val) → Below 𝓛 grade (λ s. s < n) → ent 𝓤 (W.pre (bound ss ns cs))
          (WpFn 𝓤 𝓛.H (tables 𝓤 𝓛.H 𝓜 𝓡 𝓡.env).C (tables 𝓤 𝓛.H 𝓜 𝓡 𝓡.env).Λ function (W.args (bound ss ns cs)) (W.post (bound ss ns cs)))
      walks ss ns cs below =
          qed 𝓛 ((tokens κs qs ⊛ ‵ ((Before κs).own_val s ss) ⊛ ‵ (u32.own_val n ns) ⊛ ‵ (blanks.the_row.own_val bs cs) ⊛ ‵ ftrue) ∷ raw (facts 𝓤 (asked R G o κs bs (on_course κs s n))) ∷ []) ∵
          move ! (1 ∷ []) $ use1 𝓛 (raw (fact 𝓤 (tuple (asked R G o κs bs (on_course κs s n)))))
          (gather 𝓤 (asked R G o κs bs (on_course κs s n))) $ heard ! _ (λ met.
          split ! $ move ! (1 ∷ []) $ split ! $ move ! (1 ∷ []) $ split ! $ fsplit ! $ feq_l !
          (λ is_n. flt_l ! (λ low. split ! $ move ! (1 ∷ []) $ drop ! $ move ! (1 ∷ 0 ∷ 2 ∷ []) $
          subst⁻¹ (λ (ws : List Val). Sequent ss ws cs) is_n
          (peeks ! (Before κs) (Is (Before κs)) (shows 𝓛 (Before κs)) s ss (λ is_s.
          one_value (layout (Before κs)) (λ ws. Sequent ws (vint w32 n ∷ []) cs) ss
          (((before_laws κs).lawful 𝓛).typed s ss is_s) (λ v v_ok.
          move ! (1 ∷ []) $ peeks ! blanks.the_row (Is blanks.the_row) (shows 𝓛 blanks.the_row) bs cs
          (λ is_b. move ! (1 ∷ []) $
          one_value (layout blanks.the_row) (λ ws. Sequent (v ∷ []) (vint w32 n ∷ []) ws) cs
          ((blanks_laws.the_row_laws.lawful 𝓛).typed bs cs is_b) (λ b b_ok.
          walk v b v_ok b_ok low met below))))))))

  -- a call meets its contract if calls of a lesser count do
  method : (t : ℕ) → Below 𝓛 grade (λ s. s < t) → grade.At t
  unfolding tables_of
  method t below o y e =
      let 𝓣 = tables 𝓤 𝓛.H 𝓜 𝓡 𝓡.env in
      let run = WpFn 𝓤 𝓛.H 𝓣.C 𝓣.Λ (function o) in
      via 𝓤 _
      (walk_meets_at 𝓛 (ended o) (stayed o) (goes_quiet (plain (λ κs. Before o κs)) no (quiet_before o), (Goes-dropped 𝓛 9 (plain (λ _. u32)) yes (λ κs x w. refl), (goes_quiet (plain (λ _. blanks.the_row)) yes (λ _. quiet_blanks), tt))) (clauses o) run (WpFn-mono 𝓤 𝓛.H 𝓛.laws (tables_of 𝓤 𝓛.H 𝓜 𝓣) (function o)) y
      (walks o y.0.0 y.0.1 y.0.2 y.0.3.0 y.0.3.1.0 y.0.3.1.1.0 y.0.4.0 y.0.4.1.0 y.0.4.1.1.0 (subst⁻¹ (λ (u : ℕ). Below 𝓛 grade (λ s. s < u)) e below)))
      (code.after-unfolded 𝓤 𝓛.H 𝓜 𝓡 wired (R, (G, (o.B, (o.L, (o.N, tt))))) RTd RWd GGd o.B-dict o.L-dict o.N-dict _ _)

pub +after_spec : {M : Type 1} → statement M
+after_spec 𝓤 𝓛 𝓜 𝓡 wired R G B L N RL GL LB LL LN RT RTd RW RWd GG GGd GB DB GL' DL GN DN mT mW mG mB mL mN =
    mutual_elim 𝓛 (one (stated 𝓤 𝓛 𝓜 𝓡 wired R G RL GL RT RTd RW RWd GG GGd mT mW mG)) ◌<◌ lt-wf_rel.wf
    (grade 𝓤 𝓛 𝓜 𝓡 wired R G RL GL RT RTd RW RWd GG GGd mT mW mG)
    (method 𝓤 𝓛 𝓜 𝓡 wired R G RL GL RT RTd RW RWd GG GGd mT mW mG)
    record { B = B; L = L; N = N; B-laws = LB; L-laws = LL; N-laws = LN; B-ghosts = GB; L-ghosts = GL'; N-ghosts = GN; B-dict = DB; L-dict = DL; N-dict = DN }
