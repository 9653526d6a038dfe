-- What the expressions of a program read, part by part.
use Rattle.std.proofs.Common.{◌≡◌, ℕ, ◌+◌, ◌<◌, Bool, true, false, ◌||◌, Option, Some, None, List, [], ◌∷◌, ◌++◌, map}
use Rattle.std.proofs.Common.{length, get_or, take, refl, sym, ◌∙◌, ap, append_assoc}
use Rattle.std.specs.Prelude.{find, flat_map}
use Rattle.std.specs.Option.{option_or}
use Rattle.std.specs.List.{list_any}
use Rattle.std.proofs.lemmas.List.{take_more, map-append, append-nil}
use Rattle.std.proofs.lemmas.List.Folds.{find-append, list_any-append}
use Rattle.std.proofs.lemmas.Grind.{flat_map-append}
use Rattle.node_program.specs.Term.{Term, Round, step_of, step_terms, term_of}
use Rattle.node_program.specs.declared.tree.Expr.{Expr}
use Rattle.node_program.specs.declared.tree.Round as code
use Rattle.lang_check.specs.Occurrences.{registers_read, sent_terms}

-- the lemma of the search in two parts, for `using`
pub ruleset joined = (find-append)

pub or_false : (b : Bool) → (b || false) ≡ b
or_false true = refl
or_false false = refl

option_or_assoc : {T : Type 0} (a b c : Option T) → option_or (option_or a b) c ≡ option_or a (option_or b c)
option_or_assoc None b c = refl
option_or_assoc (Some x) b c = refl

pub list_any_mapped :
    {X Y : Type 0} (p : Y → Bool) (h : X → Y) (xs : List X) → list_any p (map h xs) ≡ list_any (λ x. p (h x)) xs
list_any_mapped p h [] = refl
list_any_mapped p h (x ∷ xs) = ap (λ b. p (h x) || b) (list_any_mapped p h xs)

-- a list as a round's expressions end
pub list_any_mapped_end :
    {X Y : Type 0} (p : Y → Bool) (h : X → Y) (xs : List X) → list_any p (map h xs ++ []) ≡ list_any (λ x. p (h x)) xs
list_any_mapped_end p h xs = ap (list_any p) (append-nil (map h xs)) ∙ list_any_mapped p h xs

pub step_terms-append : (ss rs : List Round) → step_terms (ss ++ rs) ≡ step_terms ss ++ step_terms rs
step_terms-append [] rs = refl
step_terms-append (s ∷ ss) rs =
    ap (λ n. s.left ∷ s.right ∷ n)
    (ap (λ n. s.next ++ n) (step_terms-append ss rs) ∙ sym (append_assoc s.next (step_terms ss) (step_terms rs)))

-- a test of the expressions of rounds, round by round
pub list_any-step_terms :
    (p : Term → Bool) (rounds : List code.Round)
    → list_any p (step_terms (map step_of rounds)) ≡ list_any (λ r. list_any p (step_terms (step_of r ∷ []))) rounds
list_any-step_terms p [] = refl
list_any-step_terms p (r ∷ rs) =
    ap (list_any p) (step_terms-append (step_of r ∷ []) (map step_of rs))
    ∙ list_any-append p (step_terms (step_of r ∷ [])) (step_terms (map step_of rs))
    ∙ ap (λ b. list_any p (step_terms (step_of r ∷ [])) || b) (list_any-step_terms p rs)

-- a test of the messages of rounds, round by round
pub list_any-sent_terms :
    (p : Term → Bool) (rounds : List code.Round)
    → list_any p (sent_terms (map step_of rounds)) ≡ list_any (λ r. list_any p (sent_terms (step_of r ∷ []))) rounds
list_any-sent_terms p [] = refl
list_any-sent_terms p (r ∷ rs) =
    list_any-append p (sent_terms (step_of r ∷ [])) (sent_terms (map step_of rs))
    ∙ ap (λ b. list_any p (sent_terms (step_of r ∷ [])) || b) (list_any-sent_terms p rs)

-- a test of the expressions after the start
pub list_any-after_start :
    (p : Term → Bool) (rounds : List code.Round) (finish : Term)
    → list_any p (step_terms (map step_of rounds) ++ finish ∷ [])
    ≡ (list_any (λ r. list_any p (step_terms (step_of r ∷ []))) rounds || p finish)
list_any-after_start p rounds finish =
    list_any-append p (step_terms (map step_of rounds)) (finish ∷ [])
    ∙ (λ i. list_any-step_terms p rounds i || or_false (p finish) i)

-- a test of the expressions outside the assignments of a round
pub list_any-outside_assignments :
    (p : Term → Bool) (start : List Expr) (rounds : List code.Round) (finish : Term)
    → list_any p (map term_of start ++ (sent_terms (map step_of rounds) ++ finish ∷ []))
    ≡ (list_any (λ e. p (term_of e)) start
    || (list_any (λ r. list_any p (sent_terms (step_of r ∷ []))) rounds || p finish))
list_any-outside_assignments p start rounds finish =
    list_any-append p (map term_of start) (sent_terms (map step_of rounds) ++ finish ∷ [])
    ∙ (λ i. list_any_mapped p term_of start i || list_any-append p (sent_terms (map step_of rounds)) (finish ∷ []) i)
    ∙ (λ i. list_any (λ e. p (term_of e)) start || (list_any-sent_terms p rounds i || or_false (p finish) i))

module _ (p : ℕ → Bool) where
  -- the first number that expressions read and that passes a test
  abbrev pub found : List Term → Option ℕ
  found es = find p (flat_map registers_read es)

  pub found-append : (es fs : List Term) → found (es ++ fs) ≡ option_or (found es) (found fs)
  found-append es fs =
      ap (find p) (flat_map-append registers_read es fs)
      ∙ find-append p (flat_map registers_read es) (flat_map registers_read fs)

  pub found-single : (e : Term) → found (e ∷ []) ≡ find p (registers_read e)
  found-single e = ap (find p) (append-nil (registers_read e))

  -- one expression more
  pub found_more :
      (es : List Expr) (i : ℕ) (d : Expr) → i < length es
      → found (map term_of (take (i + 1) es))
      ≡ option_or (found (map term_of (take i es))) (find p (registers_read (term_of (get_or es i d))))
  found_more es i d lt =
      ap (λ l. found (map term_of l)) (take_more es i d lt)
      ∙ ap found (map-append term_of (take i es) (get_or es i d ∷ []))
      ∙ found-append (map term_of (take i es)) (term_of (get_or es i d) ∷ [])
      ∙ ap (option_or (found (map term_of (take i es)))) (found-single (term_of (get_or es i d)))

  -- in one round
  pub found-round :
      (s : Round)
      → found (step_terms (s ∷ []))
      ≡ option_or (option_or (find p (registers_read s.left)) (find p (registers_read s.right))) (found s.next)
  found-round s =
      found-append (s.left ∷ []) (s.right ∷ (s.next ++ []))
      ∙ ap (option_or (found (s.left ∷ []))) (found-append (s.right ∷ []) (s.next ++ []))
      ∙ sym (option_or_assoc (found (s.left ∷ [])) (found (s.right ∷ [])) (found (s.next ++ [])))
      ∙ (λ i. option_or (option_or (found-single s.left i) (found-single s.right i)) (found (append-nil s.next i)))

  -- one round more
  pub found_more_rounds :
      (rounds : List code.Round) (i : ℕ) (d : code.Round) → i < length rounds
      → found (step_terms (map step_of (take (i + 1) rounds)))
      ≡ option_or (found (step_terms (map step_of (take i rounds))))
      (found (step_terms (step_of (get_or rounds i d) ∷ [])))
  found_more_rounds rounds i d lt =
      ap (λ l. found (step_terms (map step_of l))) (take_more rounds i d lt)
      ∙ ap (λ l. found (step_terms l)) (map-append step_of (take i rounds) (get_or rounds i d ∷ []))
      ∙ ap found (step_terms-append (map step_of (take i rounds)) (step_of (get_or rounds i d) ∷ []))
      ∙ found-append (step_terms (map step_of (take i rounds))) (step_terms (step_of (get_or rounds i d) ∷ []))

  -- in a start, in rounds, and in a last expression
  pub found-program :
      (start rounds : List Term) (finish : Term)
      → found (start ++ (rounds ++ finish ∷ []))
      ≡ option_or (found start) (option_or (found rounds) (find p (registers_read finish)))
  found-program start rounds finish =
      found-append start (rounds ++ finish ∷ [])
      ∙ ap (option_or (found start))
      (found-append rounds (finish ∷ []) ∙ ap (option_or (found rounds)) (found-single finish))
