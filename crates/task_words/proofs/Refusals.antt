-- The result of `clap` as a fact of the words: their matches, or the kind of an error.
use Rattle.std.proofs.Common.{◌≡◌, ◌≢◌, ◌⊎◌, true, List, [], inl, inr, refl, ap, sym, subst, ◌∙◌}
use Rattle.clap.specs.Words.{App, HasMatchesOf, IsAmong, Text, fault_of, is_simple, is_simple_and_free}
use Rattle.clap.specs.Words.{subcommand_of, subcommand_rows_of}
use Rattle.clap.specs.declared.parser.matches.ArgMatches.{ArgMatches}
use Rattle.clap.specs.declared.error.kind.ErrorKind.{ErrorKind}
use Rattle.clap.specs.declared.error.kind.ErrorKind.TheVariants as kind
use Rattle.clap.proofs.OnLiterals.{clap_on_literals}
use Rattle.task_words.specs.CommandLine.{command_line}
use Rattle.task_words.specs.Options.{IsRefusalIn, IsRefusalOf}
use Rattle.task_words.specs.Words.{IsAccepted}
use Rattle.task_words.specs.declared.words.WordsFault.{WordsFault}
use Rattle.task_words.specs.declared.words.WordsFault.TheVariants.{Usage, BadRing, BadDemand, OutOfMemory, Help}

-- for this command line the contracts of `clap` give exactly the possible kinds of fault
simple_line : is_simple_and_free command_line ≡ true
unfolding clap_on_literals
simple_line = refl

pub is_simple_line : (app : App) → app ≡ command_line → is_simple_and_free app ≡ true
is_simple_line app is = ap is_simple_and_free is ∙ simple_line

-- words that `clap` accepts have no fault
pub words_taken : (app : App) (words : List Text) → app ≡ command_line
    → (is_simple_and_free app ≡ true → fault_of app words ≡ []) → IsAccepted words
words_taken app words is clean = ap (λ (a : App). fault_of a words) (sym is) ∙ clean (is_simple_line app is)

-- for this command line the contracts of `clap` give exactly the command and its values
met_line : is_simple command_line ≡ true
unfolding clap_on_literals
met_line = refl

pub words_matched : (app : App) (words : List Text) (m : ArgMatches) → app ≡ command_line → HasMatchesOf app words m
    → subcommand_rows_of m ≡ subcommand_of command_line words
words_matched app words m is matched =
    (matched (ap is_simple is ∙ met_line)).1 ∙ ap (λ (a : App). subcommand_of a words) is

-- words that `clap` refuses have the fault of the error, unless memory was refused
pub words_refused : (app : App) (words : List Text) (k : ErrorKind) (fault : WordsFault) → app ≡ command_line
    → (k ≡ kind.OutOfMemory) ⊎ IsAmong k (fault_of app words) → IsRefusalOf k fault → IsRefusalIn words fault
words_refused app words k (Usage text) is (inl memory) told = absurd (told.1 memory)
words_refused app words k (Usage text) is (inr among) told =
    (k, subst (λ (a : App). IsAmong k (fault_of a words)) is among, told.0, told.1)
words_refused app words k BadRing is found told = absurd told
words_refused app words k (BadDemand cause) is found told = absurd told
words_refused app words k OutOfMemory is found told = tt
words_refused app words k (Help text) is (inl memory) told = absurd (other_kind (sym told ∙ memory))
  where
    other_kind : kind.DisplayHelp ≢ kind.OutOfMemory
    other_kind same = cc
words_refused app words k (Help text) is (inr among) told =
    subst (λ (x : ErrorKind). IsAmong x (fault_of command_line words)) told
    (subst (λ (a : App). IsAmong k (fault_of a words)) is among)
