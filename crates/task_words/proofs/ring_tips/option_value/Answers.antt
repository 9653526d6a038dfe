use Rattle.std.proofs.Common.{◌≡◌, ◌∙◌, ℕ, Bool, cond, true, false, refl, sym, ap, List, ◌++◌, length, take, drop}
use Rattle.std.proofs.Common.{Option, Some, None, Bor, rules}
use Rattle.std.specs.Prelude.{MatchOption, bytes_eq, option_map}
use Rattle.std.specs.Str.Pattern.{FindsTextPrefix, StripsPrefix}
use Rattle.std.proofs.Math.Seq.{take-append_seam}
use Rattle.std.proofs.lemmas.List.{take-append-drop}
use Rattle.std.proofs.lemmas.Slice.Eq.{bytes_eq-Decides}
use Rattle.task_words.proofs.ring_tips.option_value.Goals as goal

-- what `strip_prefix` leaves
left_is : (s p : List ℕ) (r : Option (Bor (List ℕ)))
    → MatchOption r (FindsTextPrefix p s None) (λ x. StripsPrefix (FindsTextPrefix p) s x.now)
    → option_map (λ x. x.now) r ≡ cond (bytes_eq (take (length p) s) p) (Some (drop (length p) s)) None
left_is s p None lacks = go (bytes_eq (take (length p) s) p) refl
  where
    go : (b : Bool) → bytes_eq (take (length p) s) p ≡ b → None ≡ cond b (Some (drop (length p) s)) None
    go true is = absurd (lacks (drop (length p) s) (sym (take-append-drop (length p) s)
        ∙ ap (λ x. x ++ drop (length p) s) ((bytes_eq-Decides (take (length p) s) p).0 is)))
    go false is = refl
left_is s p (Some x) (n, found, is, fits) =
    let begins : take (length p) s ≡ p = ap (take (length p)) found.1 ∙ take-append_seam p (drop n s) in
    let test = (bytes_eq-Decides (take (length p) s) p).1 begins in
    ap Some (is ∙ ap (λ k. drop k s) found.0) ∙ sym (ap (λ b. cond b (Some (drop (length p) s)) None) test)

pub returns : goal.returns
returns c =
    let other : bytes_eq c.args.last.now c.args.name.now ≡ false = search rules in
    left_is c.args.word.now c.args.beginning.now c.strip_prefix.result c.strip_prefix.ensures.cases
    ∙ sym (ap (λ b. cond b (Some c.args.word.now) (cond (bytes_eq (take (length c.args.beginning.now) c.args.word.now) c.args.beginning.now) (Some (drop (length c.args.beginning.now) c.args.word.now)) None)) other)
