-- What a pass knows after one of its entries changed.
use Rattle.std.proofs.Common.{◌≡◌, ℕ, zero, suc, ◌+◌, ◌-◌, ◌<◌, ◌≤◌, List, [], ◌∷◌, ◌++◌, map, take, length, get_or}
use Rattle.std.proofs.Common.{set, None, Some, inl, inr, ◌⊎◌, ⊎_elim, refl, sym, ap, ◌∙◌, arith, length-set}
use Rattle.std.proofs.Common.{get_or-set_same, get_or-set_other}
use Rattle.std.specs.Prelude.{Option, slice_index_or}
use mathlib.Core.Logic.{dite}
use native.Mathlib.Decide.{ℕ_discrete}
use Rattle.std.proofs.lemmas.Bool.{cases_lt}
use Rattle.std.proofs.lemmas.List.{get_or-map, get_or_past, get_or_append_left, get_or-append_right, map-append}
use Rattle.std.proofs.lemmas.List.{map-set, length-map, take_more}
use Rattle.std.proofs.Math.Seq.{map-set_same}
use Rattle.std.proofs.lemmas.Option.{some_pair_parts, same_Some}
use Rattle.win_index.specs.Laws.{JobsStandAtNumbers}
use Rattle.lang_check.specs.Plans.{ProgramForIds}
use Rattle.round_eval.specs.BlockStates.{MadeBlock}
use Rattle.shared_memo.specs.declared.entry.Entry.{Entry}
use Rattle.shared_memo.specs.declared.memo.Installed.{Installed}
use Rattle.shared_memo.specs.declared.memo.Installed.TheVariants.{Fresh, Stood}
use Rattle.once_cell.specs.Once.{cell_name}
use Rattle.once_cell.specs.declared.race.once_box.OnceBox.{OnceBox}
use Rattle.shared_memo.specs.PlanJobs.{job_of, IsKeyedBlock}
use Rattle.shared_memo.specs.Known.{known_of, look_of, known_in, look_in, of_job, known_by, IsPut, KnowsBoth, IsBlockOf}
use Rattle.shared_memo.specs.Known.{AllInPlace, cells_of}
use Rattle.shared_memo.specs.Passes.{LearnsAt, IsInstalled}

-- the entry at an index
abbrev pub IsAt : List Entry → ℕ → Entry → Type 0
IsAt es at e = (at < length es) × (e ≡ get_or es at e)

-- what f gives of the entry at an index, and of one that is put there
pub item_here : {X : Type 0} (f : Entry → Option X) (es : List Entry) (at : ℕ) (e : Entry) → IsAt es at e
    → of_job f es (Some at) ≡ f e
item_here f es at e here = get_or-map f es at e None here.0 ∙ ap f (sym here.1)

pub item_put : {X : Type 0} (f : Entry → Option X) (es : List Entry) (at : ℕ) (e : Entry) → at < length es
    → of_job f (set es at e) (Some at) ≡ f e
item_put f es at e lt = item_here f (set es at e) at e (omega (arith, length-set es at e), sym (get_or-set_same es at e e lt))

-- what holds of what f gives for a job before and after an entry is put in place of another: of what f gives of
-- these two if the job is theirs, and of the same otherwise
pub after_put :
    {X : Type 0} (f : Entry → Option X) (P : Option X → Option X → Type 0) (es : List Entry) (at : ℕ) (d e : Entry)
    → IsAt es at d → (o : Option ℕ)
    → (o ≡ Some at → P (f d) (f e)) → ((x : Option X) → (o ≡ Some at → ⊥) → P x x)
    → P (of_job f es o) (of_job f (set es at e) o)
after_put f P es at d e here None this others = others None (λ none. cc)
after_put f P es at d e here (Some k) this others =
    dite (ℕ_discrete k at)
    (λ same. rw (same, item_here f es at d here, item_put f es at e here.0) (this (ap Some same)))
    (λ apart. rw (map-set f es at e, get_or-set_other (map f es) at k (f e) None apart)
    (others (of_job f es (Some k)) (λ same. apart (same_Some k at same))))

pub keeps_put :
    (p : ProgramForIds) (es : List Entry) (at : ℕ) (d e : Entry) → IsAt es at d → AllInPlace p es
    → ((b : MadeBlock) → known_of e ≡ Some b → IsBlockOf p at b) → AllInPlace p (set es at e)
keeps_put p es at d e here keeps right = λ k.
    after_put known_of (λ old new. ((b : MadeBlock) → old ≡ Some b → IsBlockOf p k b) → (b : MadeBlock) → new ≡ Some b
    → IsBlockOf p k b)
    es at d e here (Some k) (λ same before b is. rw (same_Some k at same) (right b is))
    (λ x apart before. before) (keeps k)

pub same_put :
    {X : Type 0} (f : Entry → Option X) (es : List Entry) (at : ℕ) (d e : Entry) → IsAt es at d → f e ≡ f d
    → (o : Option ℕ)
    → of_job f (set es at e) o ≡ of_job f es o
same_put f es at d e here same o = after_put f (λ old new. new ≡ old) es at d e here o (λ at. same) (λ x apart. refl)

-- a job of which f gives something has an entry
pub job_within : {X : Type 0} (f : Entry → Option X) (es : List Entry) (job : ℕ) (x : X)
    → of_job f es (Some job) ≡ Some x → job < length es
job_within f es job x is =
    ⊎_elim (λ (below : job < length es). below)
    (λ (past : length es ≤ job). absurd (let none = get_or_past (map f es) job None (omega (arith, past, length-map es f)) in cc))
    (cases_lt job (length es))

-- two keys with the same job are equal
one_key :
    (q : ProgramForIds) (level number r b job : ℕ) → JobsStandAtNumbers → job_of q level number ≡ Some job
    → job_of q r b ≡ Some job
    → (r ≡ level) × (b ≡ number)
one_key q level number r b job law here there =
    let t : ℕ = length q.program.steps in
    some_pair_parts r level b number (sym ((law q.ids t r b job).0 there) ∙ (law q.ids t level number job).0 here)

-- if what was known stays known, at most the block of the entry's job is learned
pub learns_put :
    (q : ProgramForIds) (es : List Entry) (level number at : ℕ) (d e : Entry) → JobsStandAtNumbers
    → job_of q level number ≡ Some at
    → IsAt es at d → ((b : MadeBlock) → known_of d ≡ Some b → known_of e ≡ Some b)
    → LearnsAt level number (known_by q es) (known_by q (set es at e))
learns_put q es level number at d e law job here kept =
    record {
      kept = λ l n. after_put known_of (λ old new. (b : MadeBlock) → old ≡ Some b → new ≡ Some b) es at d e here
          (job_of q l n) (λ at. kept) (λ x apart b is. is);
      only = λ l n. after_put known_of
          (λ old new. (b : MadeBlock) → new ≡ Some b → ((l ≡ level) × (n ≡ number)) ⊎ (old ≡ Some b)) es at d e here
          (job_of q l n) (λ there b is. inl (one_key q level number l n at law job there)) (λ x apart b is. inr is);
    }

-- the plan's block for a job is that of the job's level and number
pub keyed : (q : ProgramForIds) (level number at : ℕ) (b : MadeBlock) → JobsStandAtNumbers
    → job_of q level number ≡ Some at → IsBlockOf q at b → IsKeyedBlock q level number b
keyed q level number at b law job is =
    let key = one_key q level number b.level b.number at law job is.1 in (is.0, key.0, key.1)

pub placed : (q : ProgramForIds) (level number at : ℕ) (b : MadeBlock) → job_of q level number ≡ Some at
    → IsKeyedBlock q level number b → IsBlockOf q at b
placed q level number at b job key = (key.0, rw (key.1, key.2) job)

pub is_installed :
    (q : ProgramForIds) (es : List Entry) (at : ℕ) (d e : Entry) (b : MadeBlock) (r : Installed) → IsAt es at d
    → job_of q b.level b.number ≡ Some at
    → IsPut b (known_of d) (known_of e) r → IsInstalled b (known_by q es) (known_by q (set es at e)) r
is_installed q es at d e b Fresh here job put =
    (rw job (item_here known_of es at d here ∙ put.0), rw job (item_put known_of es at e here.0 ∙ put.1))
is_installed q es at d e b (Stood back) here job put =
    (put.0, λ l n. same_put known_of es at d e here put.1 (job_of q l n))

abbrev Cell : Type 0
Cell = OnceBox MadeBlock

pub as_long : (es : List Entry) (cs : List Cell) → cells_of es ≡ map cell_name cs → length es ≡ length cs
as_long es cs same = simp length-map at (ap length same)

-- the record at an index is of the cell at that index
pub cell_is : (es : List Entry) (at : ℕ) (e : Entry) → IsAt es at e → e.note.cell ≡ get_or (cells_of es) at 0
cell_is es at e here = ap (λ (y : Entry). y.note.cell) here.1
    ∙ sym (get_or-map (λ (y : Entry). y.note.cell) es at e 0 here.0)

pub cell_at :
    (es : List Entry) (cs : List Cell) (at : ℕ) (e : Entry) (x : Cell) → cells_of es ≡ map cell_name cs → IsAt es at e
    → at < length cs
    → x ≡ get_or cs at x → e.note.cell ≡ cell_name x
cell_at es cs at e x same here lt is =
    cell_is es at e here ∙ ap (λ (l : List ℕ). get_or l at 0) same ∙ get_or-map cell_name cs at x 0 lt
    ∙ ap cell_name (sym is)

-- and stays so
pub cells_put : (es : List Entry) (at : ℕ) (d e : Entry) → d ≡ get_or es at d → e.note.cell ≡ d.note.cell
    → cells_of (set es at e) ≡ cells_of es
cells_put es at d e is same =
    map-set_same (λ (x : Entry). x.note.cell) es at e d (same ∙ ap (λ (x : Entry). x.note.cell) is)

-- what is known for a job after the entries of the jobs before `at` learned what others know: both, or as much as
-- before
pub record JoinedBelow (at k : ℕ) (first second now : Option MadeBlock) : Type 0 where
  pub done : k < at → KnowsBoth first second now
  pub left : at ≤ k → now ≡ first

pub joined_more :
    (es fs : List Entry) (at : ℕ) (d f e : Entry) (F G : ℕ → Option MadeBlock) → IsAt es at d → IsAt fs at f
    → ((k : ℕ) → known_in fs k ≡ G k)
    → KnowsBoth (known_of d) (known_of f) (known_of e) → ((k : ℕ) → JoinedBelow at k (F k) (G k) (known_in es k))
    → (k : ℕ) → JoinedBelow (at + 1) k (F k) (G k) (known_in (set es at e) k)
joined_more es fs at d f e F G here there same both before = λ k.
    after_put known_of (λ old new. JoinedBelow at k (F k) (G k) old → JoinedBelow (at + 1) k (F k) (G k) new) es at d e here (Some k)
    (λ this was.
    let is : k ≡ at = same_Some k at this in
    let first : known_of d ≡ F at = sym (item_here known_of es at d here) ∙ (before at).left (omega arith) in
    let second : known_of f ≡ G at = sym (item_here known_of fs at f there) ∙ same at in
    record { done = λ lt. rw (is, ← first, ← second) both; left = λ le. absurd (omega (arith, is, le)) })
    (λ x apart was. record {
      done = λ lt. ⊎_elim (λ (below : k < at). was.done below)
          (λ (le : at ≤ k). absurd (apart (let is : k ≡ at = omega arith in ap Some is))) (cases_lt k at);
      left = λ le. was.left (omega arith);
    })
    (before k)

-- the block that a last look found at a job, after the entries of the jobs before `at` learned what others know
pub found_more :
    (es fs : List Entry) (at : ℕ) (d f e : Entry) (G : ℕ → Option (Option MadeBlock)) → IsAt es at d → IsAt fs at f
    → ((k : ℕ) → look_in fs k ≡ G k)
    → ((b : MadeBlock) → look_of f ≡ Some (Some b) → look_of e ≡ Some (Some b))
    → ((k : ℕ) (b : MadeBlock) → k < at → G k ≡ Some (Some b) → look_in es k ≡ Some (Some b))
    → (k : ℕ) (b : MadeBlock) → k < at + 1 → G k ≡ Some (Some b) → look_in (set es at e) k ≡ Some (Some b)
found_more es fs at d f e G here there same own before = λ k b lt found.
    after_put look_of (λ old new. (k < at → old ≡ Some (Some b)) → new ≡ Some (Some b)) es at d e here (Some k)
    (λ this was. own b (sym (item_here look_of fs at f there) ∙ same at ∙ ap G (sym (same_Some k at this)) ∙ found))
    (λ x apart was. ⊎_elim (λ (below : k < at). was below) (λ (le : at ≤ k). absurd (apart (let is : k ≡ at = omega arith in ap Some is))) (cases_lt k at))
    (λ below. before k b below found)

-- what f gives for each job, after an entry was appended of which it gives nothing
pub none_more :
    {X : Type 0} (f : Entry → Option X) (es : List Entry) (e : Entry) → f e ≡ None
    → ((k : ℕ) → slice_index_or (map f es) k None ≡ None)
    → (k : ℕ) → slice_index_or (map f (es ++ e ∷ [])) k None ≡ None
none_more f es e none before = λ k.
    rw (map-append f es (e ∷ [])) (⊎_elim (λ (below : k < length es).
    get_or_append_left (map f es) (f e ∷ []) None k (omega (arith, below, length-map es f)) ∙ before k)
    (λ (from : length es ≤ k). get_or-append_right (map f es) (f e ∷ []) (length es) k None (length-map es f) from
    ∙ one (k - length es))
    (cases_lt k (length es)))
  where
    one : (j : ℕ) → slice_index_or (f e ∷ []) j None ≡ None
    one zero = none
    one (suc j) = refl

-- the cells of the entries, after one of the next cell was appended
pub cells_more :
    (es : List Entry) (e : Entry) (cells : List Cell) (at : ℕ) (x : Cell) → cells_of es ≡ map cell_name (take at cells)
    → at < length cells
    → x ≡ get_or cells at x → e.note.cell ≡ cell_name x → cells_of (es ++ e ∷ []) ≡ map cell_name (take (at + 1) cells)
cells_more es e cells at x before within here own =
    let next : take (at + 1) cells ≡ take at cells ++ x ∷ [] =
    take_more cells at x within ∙ ap (λ y. take at cells ++ y ∷ []) (sym here) in
    map-append (λ (y : Entry). y.note.cell) es (e ∷ []) ∙ ap (λ l. l ++ e.note.cell ∷ []) before
    ∙ ap (λ name. map cell_name (take at cells) ++ name ∷ []) own ∙ sym (map-append cell_name (take at cells) (x ∷ []))
    ∙ ap (map cell_name) (sym next)
