-- The commands of the tables, one after another.
use Rattle.std.proofs.Common.{ap, ap₂, ℕ, ◌+◌, ◌<◌, ◌≡◌, ◌∙◌, ◌||◌, false, List, [], ◌∷◌, map, length, get_or, take}
use Rattle.std.proofs.Common.{sym, append_assoc, append-nil, refl, ◌++◌}
use Rattle.std.proofs.lemmas.List.{map_more, map_push}
use Rattle.clap.specs.Words.{AddsArg, AddsInTurn, AddsSubcommand, App, Rule, Shape, app_of, new_app, rule_of, shape_of}
use Rattle.clap.specs.Words.{with_rule, with_subcommand}
use Rattle.clap.specs.declared.builder.arg.Arg.{Arg}
use Rattle.clap.specs.declared.builder.command.Command.{Command}
use Rattle.clap.specs.declared.builder.command.Command.TheViews.{out-Command}
use Rattle.task_words.specs.CommandLine.{IsCommandOf}
use Rattle.task_words.specs.Rows.{AreCommandsOf, AreOptionsOf, command_in, rule_in, with_commands, with_options}
use Rattle.task_words.specs.declared.commands.CommandRow.{CommandRow}
use Rattle.task_words.specs.declared.option_rows.OptionRow.{OptionRow}

-- one more item, with the facts of its row
pub facts_more : {A B X : Type 0} (facts : A → X) (told : B
    → X) (items after : List A) (item : A) (rows : List B) (j : ℕ) (d : B) → j < length rows
    → map facts items ≡ map told (take j rows) → facts item ≡ told (get_or rows j d) → after ≡ items ++ item ∷ []
    → map facts after ≡ map told (take (j + 1) rows)
facts_more facts told items after item rows j d within same more pushed =
    ap (map facts) pushed ∙ map_push facts items item ∙ ap₂ (λ l x. l ++ x ∷ []) same more
    ∙ sym (map_more told rows j d within)

-- equal lists have equal heads and equal tails
pub parts_of : {A : Type 0} (x y : A) (xs ys : List A) → x ∷ xs ≡ y ∷ ys → (x ≡ y) × (xs ≡ ys)
parts_of x y xs ys same = (cc, cc)

not_empty : {A X : Type 0} (x : A) (xs : List A) → x ∷ xs ≡ [] → X
not_empty x xs same = cc

-- options after those of a command
options_after : (s : Shape) (before rules : List Rule)
    → with_options (record { top = record s { rules = before }; subs = [] }) rules
    ≡ record { top = record s { rules = before ++ rules }; subs = [] }
options_after s before [] = rw append-nil refl
options_after s before (rule ∷ rules) =
    options_after s (before ++ rule ∷ []) rules
    ∙ (λ i. record { top = record s { rules = append_assoc before (rule ∷ []) rules i }; subs = [] })

-- the options of rows, added in turn
options_added : (old new : Command) (rows : List OptionRow) (options : List Arg) → AreOptionsOf rows options
    → (out-Command old).has_globals ≡ false
    → AddsInTurn AddsArg old options new → (app_of new ≡ with_options (app_of old) (map rule_in rows))
    × ((out-Command new).has_globals ≡ false)
options_added old new [] [] are local same =
    (ap app_of (sym same), ap (λ (c : Command). (out-Command c).has_globals) (sym same) ∙ local)
options_added old new [] (option ∷ options) are local added = not_empty _ _ are
options_added old new (row ∷ rows) [] are local same = not_empty _ _ (sym are)
options_added old new (row ∷ rows) (option ∷ options) are local (next, adds, more) =
    let (first, rest) = parts_of _ _ _ _ are in
    let rule : rule_of option ≡ rule_in row = ap (λ p. p.0) first in
    let own : option.global ≡ false = ap (λ p. p.1) first in
    let after = options_added next new rows options rest (adds.globals ∙ ap₂ (λ a b. a || b) local own) more in
    (after.0 ∙ ap (λ line. with_options line (map rule_in rows)) (adds.shape own ∙ ap (with_rule (app_of old)) rule), after.1)

-- a new command with the options of a row
pub command_is : (old new : Command) (row : CommandRow) (options : List Arg) → AreOptionsOf row.options.now options
    → app_of old ≡ new_app row.name.now
    → (out-Command old).has_globals ≡ false → AddsInTurn AddsArg old options new → IsCommandOf (command_in row) new
command_is old new row options are is local added =
    let after = options_added old new row.options.now options are local added in
    let whole = after.0 ∙ ap (λ line. with_options line (map rule_in row.options.now)) is
    ∙ options_after (new_app row.name.now).top [] (map rule_in row.options.now) in
    (ap (λ (a : App). a.top) whole, after.1)

-- the commands of rows, added in turn
pub commands_added : (start : App) (old new : Command) (rows : List CommandRow) (commands : List Command)
    → AreCommandsOf rows commands → app_of old ≡ start
    → AddsInTurn AddsSubcommand old commands new → app_of new ≡ with_commands start (map command_in rows)
commands_added start old new [] [] are is same = ap app_of (sym same) ∙ is
commands_added start old new [] (command ∷ commands) are is added = not_empty _ _ are.facts
commands_added start old new (row ∷ rows) [] are is same = not_empty _ _ (sym are.facts)
commands_added start old new (row ∷ rows) (command ∷ commands) are is (next, adds, more) =
    let (first, rest) = parts_of _ _ _ _ are.facts in
    let shape : shape_of command ≡ command_in row = ap (λ p. p.0) first in
    let local : (out-Command command).has_globals ≡ false = ap (λ p. p.1) first in
    commands_added (with_subcommand start (command_in row)) next new rows commands (record { facts = rest })
    (adds.shape local ∙ ap₂ with_subcommand is shape) more
