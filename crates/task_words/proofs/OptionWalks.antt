-- A walk over words without a fault leaves rows whose values are accepted by the parsers of their options.
use Rattle.std.proofs.Common.{◌≡◌, ◌&&◌, ℕ, Bool, cond, true, false, not, zero, suc, refl, sym, subst, List, [], ◌∷◌}
use Rattle.std.proofs.Common.{length, drop, Option, Some, None, is_some}
use Rattle.std.specs.Prelude.{encode_utf8, slice_get}
use Rattle.std.specs.List.{fold}
use Rattle.std.specs.Option.{option_map_or}
use Rattle.std.specs.Str.{bytes_eq, chars}
use Rattle.clap.specs.Lexer.{long_of, short_of}
use Rattle.clap.specs.Kinds.{Kinds, or_else}
use Rattle.clap.specs.Walk.{Held, Names, Outcome, Row, Rule, Step, Text, Waiting, Walk, after_flag, after_step}
use Rattle.clap.specs.Walk.{arg_by_id, arg_by_index, arg_by_long, arg_by_short, attached_value}
use Rattle.clap.specs.Walk.{bundle_met, bundle_step, done, flag_met, has_long, has_short, idle, is_pending, long_met}
use Rattle.clap.specs.Walk.{long_or_other, next, option, option_met, option_word, plain, plain_word, positional}
use Rattle.clap.specs.Walk.{positional_held, reacted, refused, settled, settled_rows, short_met, short_or_plain}
use Rattle.clap.specs.Walk.{subcommand, subcommand_met, subcommand_or_other, takes_several, takes_values, to_positional}
use Rattle.clap.specs.Walk.{trailing, used_by_id, value, waits, walked, walked_from, word_met}
use Rattle.clap.specs.Simple.{Shape}
use Rattle.clap.specs.Faults.{bundle_fault, bundle_step_fault, flag_word_fault, flags_fault, long_fault, option_fault}
use Rattle.clap.specs.Faults.{other_fault, positional_fault, react_fault, settle_fault, short_fault, step_fault}
use Rattle.clap.specs.Faults.{stray_fault, turn_fault, use_fault, walk_fault, word_fault}
use Rattle.clap.specs.declared.error.kind.ErrorKind.TheVariants as kind
use Rattle.task_words.proofs.OptionRows.{AreRowsOf, ArePlain, IsPlain, found_plain, split_or, use_good}

module _ (c : List Rule) (plain_rules : ArePlain c c) (again : Bool) where
  settled_good : (pending : Option (Text × List Text)) (rows : List Row)
      → option_map_or (λ p. option_map_or (λ a. use_fault again a p.1 rows) (arg_by_id c p.0) []) pending [] ≡ []
      → AreRowsOf c rows → AreRowsOf c (settled_rows c pending rows)
  settled_good None rows e h = h
  settled_good (Some p) rows e h =
      go (arg_by_id c p.0) (λ a is. found_plain c (λ x. bytes_eq x.id p.0) c a plain_rules is) e
    where
      go : (o : Option Rule) → ((a : Rule) → o ≡ Some a → IsPlain c a)
          → option_map_or (λ a. use_fault again a p.1 rows) o [] ≡ [] → AreRowsOf c (used_by_id o p.1 rows)
      go None is f = h
      go (Some a) is f = use_good c again a p.1 rows (is a refl) f h

  pub held_good : (h : Held) → settle_fault c again h ≡ [] → AreRowsOf c h.rows → AreRowsOf c (settled c h).rows
  held_good h e good = settled_good h.pending h.rows e good

  reacted_good : (a : Rule) (values : List Text) (h : Held) → IsPlain c a → react_fault c again a values h ≡ []
      → AreRowsOf c h.rows → AreRowsOf c (reacted c a values h).rows
  reacted_good a values h is e good =
      let both = split_or (settle_fault c again h) (use_fault again a values (settled c h).rows) e in
      use_good c again a values (settled c h).rows is both.1 (held_good h both.0 good)

  option_good : (a : Rule) (v : Option Text) (h : Held) → IsPlain c a → option_fault c again a v h ≡ []
      → AreRowsOf c h.rows → AreRowsOf c (option_met c a v h).0.rows
  option_good a (Some v) h is e good = reacted_good a (v ∷ []) h is e good
  option_good a None h is e good = held_good h e good

  flag_good : (a : Rule) (v : Option Text) (h : Held) → IsPlain c a
      → cond (is_some v) (kind.TooManyValues ∷ []) (react_fault c again a [] h) ≡ [] → AreRowsOf c h.rows
      → AreRowsOf c (flag_met c a v h).0.rows
  flag_good a (Some v) h is e good = good
  flag_good a None h is e good = reacted_good a [] h is e good

  long_good : (found : Option Rule) (v : Option Text) (h : Held) → ((a : Rule) → found ≡ Some a → IsPlain c a)
      → long_fault c again found v h ≡ [] → AreRowsOf c h.rows
      → AreRowsOf c (long_met c found v h).0.rows
  long_good None v h is e good = good
  long_good (Some a) v h is e good = go (takes_values a) e
    where
      go : (b : Bool) → cond b (option_fault c again a v h)
          (cond (is_some v) (kind.TooManyValues ∷ []) (react_fault c again a [] h)) ≡ []
          → AreRowsOf c (cond b (option_met c a v h) (flag_met c a v h)).0.rows
      go true f = option_good a v h (is a refl) f good
      go false f = flag_good a v h (is a refl) f good

  short_good : (found : Option Rule) (rest : Text) (h : Held) (then : Held → Held × Outcome) (faults : Held → Kinds)
      → ((a : Rule) → found ≡ Some a → IsPlain c a)
      → ((k : Held) → faults k ≡ [] → AreRowsOf c k.rows → AreRowsOf c (then k).0.rows)
      → short_fault c again found rest h faults ≡ [] → AreRowsOf c h.rows
      → AreRowsOf c (short_met c found rest h then).0.rows
  short_good None rest h then faults is more e good = good
  short_good (Some a) rest h then faults is more e good = go (takes_values a) e
    where
      go : (b : Bool) → cond b (option_fault c again a (attached_value rest) h)
          (or_else (react_fault c again a [] h) (faults (reacted c a [] h))) ≡ []
          → AreRowsOf c (cond b (option_met c a (attached_value rest) h) (then (reacted c a [] h))).0.rows
      go true f = option_good a (attached_value rest) h (is a refl) f good
      go false f =
          let both = split_or (react_fault c again a [] h) (faults (reacted c a [] h)) f in
          more (reacted c a [] h) both.1 (reacted_good a [] h (is a refl) both.0 good)

  -- one character of a bundle
  bundle_good : (first : Option ℕ) (flags : Text) (skip : ℕ) (so_far : Outcome) (h : Held) (then : Text → ℕ → Outcome
      → Held → Held × Outcome) (faults : Text → ℕ → Held → Kinds)
      → ((rest : Text) (skip : ℕ) (so_far : Outcome) (k : Held) → faults rest skip k ≡ [] → AreRowsOf c k.rows
      → AreRowsOf c (then rest skip so_far k).0.rows)
      → bundle_step_fault c again first flags skip h faults ≡ [] → AreRowsOf c h.rows
      → AreRowsOf c (bundle_step c first flags skip so_far h then).0.rows
  bundle_good None flags skip so_far h then faults more e good = good
  bundle_good (Some x) flags zero so_far h then faults more e good =
      short_good (arg_by_short c x) (drop (length (encode_utf8 x)) flags) h
      (then (drop (length (encode_utf8 x)) flags) 0 done) (faults (drop (length (encode_utf8 x)) flags) 0)
      (λ a is. found_plain c (λ y. not (is_some y.index) && has_short y x) c a plain_rules is)
      (more (drop (length (encode_utf8 x)) flags) 0 done) e good
  bundle_good (Some x) flags (suc skip) so_far h then faults more e good =
      more (drop (length (encode_utf8 x)) flags) skip so_far h e good

  flags_good : (k : ℕ) (flags : Text) (skip : ℕ) (so_far : Outcome) (h : Held) → flags_fault c again k flags skip h ≡ []
      → AreRowsOf c h.rows
      → AreRowsOf c (bundle_met c k flags skip so_far h).0.rows
  unfolding flags_fault bundle_met
  flags_good zero flags skip so_far h e good = good
  flags_good (suc k) flags skip so_far h e good =
      bundle_good (slice_get (chars flags) 0) flags skip so_far h (bundle_met c k) (flags_fault c again k)
      (λ rest less so h2 f g. flags_good k rest less so h2 f g) e good

  -- a word that is no flag, or comes after one, changes no row
  plain_rows : (waiting : Waiting) (word : Text) (h : Held) → (plain_word c waiting word h).0.rows ≡ h.rows
  plain_rows idle word h = refl
  plain_rows positional word h = refl
  plain_rows (option id) word h = go (arg_by_id c id)
    where
      go : (o : Option Rule) → (option_word o id word h).0.rows ≡ h.rows
      go None = refl
      go (Some a) = refl

  after_rows : (waiting : Waiting) (word : Text) (h : Held) (o : Outcome)
      → (after_flag c waiting word h o).0.rows ≡ h.rows
  after_rows waiting word h done = refl
  after_rows waiting word h (waits id) = refl
  after_rows waiting word h plain = plain_rows waiting word h
  after_rows waiting word h refused = plain_rows waiting word h

  flag_word_good : (parts : Option (Text × Option Text)) (waiting : Waiting) (word : Text) (h : Held)
      → flag_word_fault c again parts word h ≡ [] → AreRowsOf c h.rows
      → AreRowsOf c (long_or_other c waiting word parts h).0.rows
  flag_word_good (Some p) waiting word h e good =
      let met = long_met c (arg_by_long c p.0) p.1 h in
      subst (AreRowsOf c) (sym (after_rows waiting word met.0 met.1))
      (long_good (arg_by_long c p.0) p.1 h (λ a is. found_plain c (λ y. not (is_some y.index) && has_long y p.0) c a plain_rules is) e good)
  flag_word_good None waiting word h e good = go (short_of word) e
    where
      go : (o : Option Text) → option_map_or (λ flags. bundle_fault c again flags h) o [] ≡ []
          → AreRowsOf c (short_or_plain c waiting word o h).0.rows
      go None f = subst (AreRowsOf c) (sym (plain_rows waiting word h)) good
      go (Some flags) f =
          let met = bundle_met c (length flags) flags h.skip plain (record h { skip = 0 }) in
          subst (AreRowsOf c) (sym (after_rows waiting word met.0 met.1))
          (flags_good (length flags) flags h.skip plain (record h { skip = 0 }) f good)

module _ (s : Shape) (names : Names) (plain_rules : ArePlain s.rules s.rules) where
  word_good : (is_trailing : Bool) (waiting : Waiting) (position : ℕ) (word : Text) (h : Held)
      → word_fault s names is_trailing waiting word h ≡ [] → AreRowsOf s.rules h.rows
      → AreRowsOf s.rules (word_met s.rules names is_trailing waiting position word h).0.rows
  word_good true waiting position word h e good = good
  word_good false waiting position word h e good = go (subcommand_met names waiting word) e
    where
      on : (b : Bool) → cond b [] (flag_word_fault s.rules s.args_override_self (long_of word) word h) ≡ []
          → AreRowsOf s.rules (cond b (h, trailing position) (long_or_other s.rules waiting word (long_of word) h)).0.rows
      on true f = good
      on false f = flag_word_good s.rules plain_rules s.args_override_self (long_of word) waiting word h f good

      go : (o : Option Text) → other_fault s o word h ≡ []
          → AreRowsOf s.rules (subcommand_or_other s.rules o waiting position word h).0.rows
      go (Some name) f = good
      go None f = on (bytes_eq word (45 ∷ 45 ∷ [])) f

  positional_good : (a : Rule) (word : Text) (h : Held) → positional_fault s.rules s.args_override_self a h ≡ []
      → AreRowsOf s.rules h.rows
      → AreRowsOf s.rules (positional_held s.rules a word h).rows
  positional_good a word h e good = go (is_pending a h.pending && takes_several a) e
    where
      go : (b : Bool) → cond b [] (settle_fault s.rules s.args_override_self h) ≡ []
          → AreRowsOf s.rules (cond b h (settled s.rules h)).rows
      go true f = good
      go false f = held_good s.rules plain_rules s.args_override_self h f good

  step_good : (word : Text) (w : Walk) (h : Held) (step : Step) → step_fault s w.position h step ≡ []
      → AreRowsOf s.rules h.rows
      → AreRowsOf s.rules (after_step s.rules word w h step).held.rows
  step_good word w h (next waiting) e good = good
  step_good word w h (trailing position) e good = good
  step_good word w h (subcommand name) e good = good
  step_good word w h value e good = go (arg_by_index s.rules w.position) e
    where
      go : (o : Option Rule) → option_map_or (λ a. positional_fault s.rules s.args_override_self a h) o (stray_fault s)
          ≡ [] → AreRowsOf s.rules (to_positional s.rules o word w h).held.rows
      go None f = good
      go (Some a) f = positional_good a word h f good

  turn_good : (w : Walk) (word : Text) → turn_fault s names w word ≡ [] → AreRowsOf s.rules w.held.rows
      → AreRowsOf s.rules (walked s.rules names w word).held.rows
  unfolding walked
  turn_good w word e good = go w.stopped e
    where
      go : (o : Option (Text × List Text))
          → cond (is_some o) [] (or_else (word_fault s names w.is_trailing w.waiting word w.held)
          (step_fault s w.position (word_met s.rules names w.is_trailing w.waiting w.position word w.held).0 (word_met s.rules names w.is_trailing w.waiting w.position word w.held).1)) ≡ []
          → AreRowsOf s.rules (walked_from s.rules names o w word).held.rows
      go (Some p) f = good
      go None f =
          let m = word_met s.rules names w.is_trailing w.waiting w.position word w.held in
          let both = split_or (word_fault s names w.is_trailing w.waiting word w.held)
          (step_fault s w.position m.0 m.1) f in
          step_good word w m.0 m.1 both.1 (word_good w.is_trailing w.waiting w.position word w.held both.0 good)

  -- the rows after a walk without a fault
  pub walk_good : (w : Walk) (words : List Text) → walk_fault s names w words ≡ [] → AreRowsOf s.rules w.held.rows
      → AreRowsOf s.rules (fold (walked s.rules names) w words).held.rows
  unfolding walk_fault
  walk_good w [] e good = good
  walk_good w (word ∷ rest) e good =
      let both = split_or (turn_fault s names w word) (walk_fault s names (walked s.rules names w word) rest) e in
      walk_good (walked s.rules names w word) rest both.1 (turn_good w word both.0 good)
