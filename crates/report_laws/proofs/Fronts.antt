-- Parts of a text before what follows: whether a text begins with one, and what follows it.
use Rattle.std.proofs.Common.{◌≡◌, ℕ, zero, suc, ◌<◌, List, [], ◌∷◌, ◌++◌, length, drop, get_or, inl, inr, refl, sym}
use Rattle.std.proofs.Common.{ap, subst, ◌∙◌, arith}
use Rattle.std.specs.Prelude.{◌⊎◌, All}
use Rattle.std.specs.Fmt.{decimal}
use Rattle.std.proofs.lemmas.Bool.{cases_eq}
use Rattle.std.proofs.lemmas.List.Elements.{All-cons, All-nil, All-head, All-tail}

abbrev pub Decided : Type 0 → Type 0
Decided A = A ⊎ (¬ A)

-- the text is this part followed by a rest
pub record Follows (part : List ℕ → List ℕ) (text : List ℕ) : Type 0 where
  pub rest : List ℕ
  pub is : text ≡ part rest

-- what follows a part can be found, and is one text
pub record IsPart (part : List ℕ → List ℕ) : Type 0 where
  pub find : (text : List ℕ) → Decided (Follows part text)
  pub once : (a b : List ℕ) → part a ≡ part b → a ≡ b

nil_cons : (b : ℕ) (l : List ℕ) → [] ≡ b ∷ l → ⊥
nil_cons b l is = let e : 0 ≡ suc (length l) = ap length is in omega (arith, e)

pub nothing : IsPart (λ rest. rest)
nothing = record { find = λ text. inl (record { rest = text; is = refl }); once = λ a b is. is }

find_byte : (b : ℕ) (text : List ℕ) → Decided (Follows (λ rest. b ∷ rest) text)
find_byte b [] = inr (λ met. nil_cons b met.rest met.is)
find_byte b (c ∷ cs) = go (cases_eq c b)
  where
    go : (c ≡ b) ⊎ (c ≡ b → ⊥) → Decided (Follows (λ rest. b ∷ rest) (c ∷ cs))
    go (inl same) = inl (record { rest = cs; is = ap (λ d. d ∷ cs) same })
    go (inr other) = inr (λ met. other (ap (λ (l : List ℕ). get_or l 0 0) met.is))

pub byte : (b : ℕ) → IsPart (λ rest. b ∷ rest)
byte b = record { find = find_byte b; once = λ x y is. ap (λ (l : List ℕ). drop 1 l) is }

find_both : (part other : List ℕ → List ℕ) → IsPart part → IsPart other → (text : List ℕ) →
    Decided (Follows (λ rest. part (other rest)) text)
find_both part other first second text = go (first.find text)
  where
    next : (met : Follows part text) → Decided (Follows other met.rest) →
        Decided (Follows (λ rest. part (other rest)) text)
    next met (inl more) = inl (record { rest = more.rest; is = met.is ∙ ap part more.is })
    next met (inr none) =
        inr (λ all. none (record { rest = all.rest; is = first.once met.rest (other all.rest) (sym met.is ∙ all.is) }))

    go : Decided (Follows part text) → Decided (Follows (λ rest. part (other rest)) text)
    go (inl met) = next met (second.find met.rest)
    go (inr none) = inr (λ all. none (record { rest = other all.rest; is = all.is }))

pub both : (part other : List ℕ → List ℕ) → IsPart part → IsPart other → IsPart (λ rest. part (other rest))
both part other first second = record {
  find = find_both part other first second;
  once = λ a b is. second.once a b (first.once (other a) (other b) is);
}

pub bytes : (front : List ℕ) → IsPart (λ rest. front ++ rest)
bytes [] = nothing
bytes (b ∷ bs) = both (λ rest. b ∷ rest) (λ rest. bs ++ rest) (byte b) (bytes bs)

-- a number and the byte after it, also after a name
pub number : (n end : ℕ) → IsPart (λ rest. decimal n ++ end ∷ rest)
number n end = both (λ rest. decimal n ++ rest) (λ rest. end ∷ rest) (bytes (decimal n)) (byte end)

pub field : (name : List ℕ) (n end : ℕ) → IsPart (λ rest. name ++ (decimal n ++ end ∷ rest))
field name n end = both (λ rest. name ++ rest) (λ rest. decimal n ++ end ∷ rest) (bytes name) (number n end)

-- some number below a bound is so
pub record Below (bound : ℕ) (P : ℕ → Type 0) : Type 0 where
  pub number : ℕ
  pub less : number < bound
  pub is : P number

pub below : (bound : ℕ) (P : ℕ → Type 0) → ((n : ℕ) → Decided (P n)) → Decided (Below bound P)
below zero P decide = inr (λ some. omega (arith, some.less))
below (suc k) P decide = go (decide k) (below k P decide)
  where
    neither : ¬ P k → ¬ Below k P → ¬ Below (suc k) P
    neither last none some = at (cases_eq some.number k)
      where
        at : (some.number ≡ k) ⊎ (some.number ≡ k → ⊥) → ⊥
        at (inl same) = last (subst P same some.is)
        at (inr other) = none (record { number = some.number; less = omega (arith, some.less, other); is = some.is })

    go : Decided (P k) → Decided (Below k P) → Decided (Below (suc k) P)
    go (inl is) rest = inl (record { number = k; less = omega arith; is = is })
    go (inr last) (inl some) = inl (record { number = some.number; less = omega (arith, some.less); is = some.is })
    go (inr last) (inr none) = inr (neither last none)

-- some list of so many numbers below a bound is so
pub record Lists (bound width : ℕ) (P : List ℕ → Type 0) : Type 0 where
  pub list : List ℕ
  pub size : length list ≡ width
  pub fit : All (λ n. n < bound) list
  pub is : P list

pub lists : (bound width : ℕ) (P : List ℕ → Type 0) → ((l : List ℕ) → Decided (P l)) → Decided (Lists bound width P)
lists bound zero P decide = go (decide [])
  where
    only : (l : List ℕ) → length l ≡ 0 → P l → P []
    only [] size is = is
    only (n ∷ ns) size is = absurd (omega (arith, size))

    go : Decided (P []) → Decided (Lists bound zero P)
    go (inl is) = inl (record { list = []; size = refl; fit = All-nil (λ n. n < bound); is = is })
    go (inr none) = inr (λ some. none (only some.list some.size some.is))
lists bound (suc w) P decide =
    go (below bound (λ n. Lists bound w (λ l. P (n ∷ l)))
    (λ n. lists bound w (λ l. P (n ∷ l)) (λ l. decide (n ∷ l))))
  where
    split : ¬ Below bound (λ n. Lists bound w (λ l. P (n ∷ l))) → (l : List ℕ) → length l ≡ suc w →
        All (λ n. n < bound) l → P l → ⊥
    split none [] size fit is = omega (arith, size)
    split none (n ∷ ns) size fit is = none (record {
      number = n;
      less = All-head (λ n. n < bound) n ns fit;
      is = record { list = ns; size = omega (arith, size); fit = All-tail (λ n. n < bound) n ns fit; is = is };
    })

    go : Decided (Below bound (λ n. Lists bound w (λ l. P (n ∷ l)))) → Decided (Lists bound (suc w) P)
    go (inl some) = inl (record {
      list = some.number ∷ some.is.list;
      size = omega (arith, some.is.size);
      fit = All-cons (λ n. n < bound) some.number some.is.list some.less some.is.fit;
      is = some.is.is;
    })
    go (inr none) = inr (λ some. split none some.list some.size some.fit some.is)
