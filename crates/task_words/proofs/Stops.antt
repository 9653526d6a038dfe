-- A walk over words without a fault does not stop at clap's subcommand `help`.
use Rattle.std.proofs.Common.{◌≡◌, ◌&&◌, ℕ, Bool, cond, true, false, not, refl, List, [], ◌∷◌, Option, Some, None}
use Rattle.std.proofs.Common.{is_some, codes}
use Rattle.std.specs.Prelude.{⊤}
use Rattle.std.specs.List.{fold}
use Rattle.std.specs.Str.{bytes_eq}
use Rattle.clap.specs.Lexer.{long_of, short_of}
use Rattle.clap.specs.Kinds.{or_else}
use Rattle.clap.specs.Walk.{Held, Names, Outcome, Rule, Step, Text, Waiting, Walk, after_flag, after_step, arg_by_index}
use Rattle.clap.specs.Walk.{bundle, done, idle, long_or_other, next, option, plain, plain_word, positional, refused}
use Rattle.clap.specs.Walk.{short_or_plain, subcommand, subcommand_met, subcommand_or_other, to_positional, trailing}
use Rattle.clap.specs.Walk.{value, waits, walked, walked_from, word_met}
use Rattle.clap.specs.Simple.{Shape}
use Rattle.clap.specs.Faults.{other_fault, step_fault, turn_fault, walk_fault, word_fault}
use Rattle.clap.specs.declared.error.kind.ErrorKind.TheVariants as kind
use Rattle.task_words.proofs.OptionRows.{split_or}

abbrev pub IsNotHelp : Text → Type 0
IsNotHelp name = bytes_eq name (codes "help") ≡ false

-- the step enters no `help`
abbrev EntersNoHelp : Step → Type 0
EntersNoHelp (subcommand name) = IsNotHelp name
EntersNoHelp _ = ⊤

-- the walk did not stop at `help`
abbrev pub StopsAtNoHelp : Option (Text × List Text) → Type 0
StopsAtNoHelp None = ⊤
StopsAtNoHelp (Some p) = IsNotHelp p.0

plain_step : (c : List Rule) (waiting : Waiting) (word : Text) (h : Held) → EntersNoHelp (plain_word c waiting word h).1
plain_step c idle word h = tt
plain_step c positional word h = tt
plain_step c (option id) word h = tt

flag_step : (c : List Rule) (waiting : Waiting) (word : Text) (h : Held) (o : Outcome)
    → EntersNoHelp (after_flag c waiting word h o).1
flag_step c waiting word h done = tt
flag_step c waiting word h (waits id) = tt
flag_step c waiting word h plain = plain_step c waiting word h
flag_step c waiting word h refused = plain_step c waiting word h

flag_word_step : (c : List Rule) (waiting : Waiting) (word : Text) (parts : Option (Text × Option Text)) (h : Held)
    → EntersNoHelp (long_or_other c waiting word parts h).1
flag_word_step c waiting word (Some p) h = flag_step c waiting word _ _
flag_word_step c waiting word None h = go (short_of word)
  where
    go : (o : Option Text) → EntersNoHelp (short_or_plain c waiting word o h).1
    go None = plain_step c waiting word h
    go (Some flags) = flag_step c waiting word (bundle c flags h).0 (bundle c flags h).1

module _ (s : Shape) (names : Names) (enabled : s.disable_help_subcommand ≡ false) where
  -- a word that passes is not the name `help`
  name_passes : (name word : Text) (h : Held) → other_fault s (Some name) word h ≡ [] → IsNotHelp name
  name_passes name word h e = go (bytes_eq name (codes "help")) s.disable_help_subcommand enabled e
    where
      go : (a b : Bool) → b ≡ false
          → cond (a && not b) (kind.DisplayHelp ∷ kind.InvalidSubcommand ∷ []) [] ≡ [] → a ≡ false
      go false b off f = refl
      go true true off f = cc
      go true false off f = cc

  word_step : (is_trailing : Bool) (waiting : Waiting) (position : ℕ) (word : Text) (h : Held)
      → word_fault s names is_trailing waiting word h ≡ []
      → EntersNoHelp (word_met s.rules names is_trailing waiting position word h).1
  word_step true waiting position word h e = tt
  word_step false waiting position word h e = go (subcommand_met names waiting word) e
    where
      on : (b : Bool) → EntersNoHelp
          (cond b (h, trailing position) (long_or_other s.rules waiting word (long_of word) h)).1
      on true = tt
      on false = flag_word_step s.rules waiting word (long_of word) h

      go : (o : Option Text) → other_fault s o word h ≡ []
          → EntersNoHelp (subcommand_or_other s.rules o waiting position word h).1
      go (Some name) f = name_passes name word h f
      go None f = on (bytes_eq word (45 ∷ 45 ∷ []))

  step_stops : (word : Text) (w : Walk) (h : Held) (step : Step) → EntersNoHelp step → StopsAtNoHelp w.stopped
      → StopsAtNoHelp (after_step s.rules word w h step).stopped
  step_stops word w h (next waiting) enters stops = stops
  step_stops word w h (trailing position) enters stops = stops
  step_stops word w h (subcommand name) enters stops = enters
  step_stops word w h value enters stops = go (arg_by_index s.rules w.position)
    where
      go : (o : Option Rule) → StopsAtNoHelp (to_positional s.rules o word w h).stopped
      go None = stops
      go (Some a) = tt

  turn_stops : (w : Walk) (word : Text) → turn_fault s names w word ≡ [] → StopsAtNoHelp w.stopped
      → StopsAtNoHelp (walked s.rules names w word).stopped
  unfolding walked
  turn_stops w word e stops = go w.stopped e stops
    where
      go : (o : Option (Text × List Text))
          → cond (is_some o) [] (or_else (word_fault s names w.is_trailing w.waiting word w.held)
          (step_fault s w.position (word_met s.rules names w.is_trailing w.waiting w.position word w.held).0 (word_met s.rules names w.is_trailing w.waiting w.position word w.held).1)) ≡ []
          → StopsAtNoHelp o → StopsAtNoHelp (walked_from s.rules names o w word).stopped
      go (Some p) f at = at
      go None f at =
          let m = word_met s.rules names w.is_trailing w.waiting w.position word w.held in
          let both = split_or (word_fault s names w.is_trailing w.waiting word w.held)
          (step_fault s w.position m.0 m.1) f in
          step_stops word w m.0 m.1 (word_step w.is_trailing w.waiting w.position word w.held both.0) stops

  pub walk_stops : (w : Walk) (words : List Text) → walk_fault s names w words ≡ [] → StopsAtNoHelp w.stopped
      → StopsAtNoHelp (fold (walked s.rules names) w words).stopped
  unfolding walk_fault
  walk_stops w [] e stops = stops
  walk_stops w (word ∷ rest) e stops =
      let both = split_or (turn_fault s names w word) (walk_fault s names (walked s.rules names w word) rest) e in
      walk_stops (walked s.rules names w word) rest both.1 (turn_stops w word both.0 stops)
