-- Command lines whose subcommands have plain options, and when such an option has a value.
use Rattle.std.specs.Prelude.{◌≡◌, ◌⊎◌, ◌&&◌, ◌||◌, Bool, true, false, not, List, [], ◌∷◌, Some, ⊤, nat_lt, codes}
use Rattle.std.specs.List.{list_all, list_any}
use Rattle.std.specs.Option.{option_map_or}
use Rattle.std.specs.Str.{bytes_eq}
use Rattle.clap.specs.Facts.{parser_of_value, unwrap_or_range}
use Rattle.clap.specs.Values.{Accepts, is_request, read_as}
use Rattle.clap.specs.Walk.{Row, Rule, Text, action_of, first_of, is_empty, one_of, reading_by}
use Rattle.clap.specs.Simple.{App, Shape, built}
use Rattle.clap.specs.declared.builder.action.ArgAction.{ArgAction}
use Rattle.clap.specs.declared.builder.action.ArgAction.TheVariants.{Set, Append}

-- ---- command lines

-- each use of the argument has values, which replace those before, or follow them
abbrev pub has_values : ArgAction → Bool
has_values Set = true
has_values Append = true
has_values _ = false

-- an option with at least one value in each use, or a request for help or the version
abbrev pub is_plain_option : Rule → Bool
is_plain_option rule = is_request (action_of rule)
    || (has_values (action_of rule) && nat_lt 0 (unwrap_or_range rule.range).start_inclusive)

-- no two arguments have the same id
abbrev pub have_own_ids : List Rule → Bool
have_own_ids [] = true
have_own_ids (rule ∷ rest) =
    not (list_any (λ other. bytes_eq rule.id other.id) rest) && have_own_ids rest

-- every argument of the subcommand is a plain option with an id of its own
abbrev pub has_plain_options : Shape → Bool
has_plain_options s = list_all is_plain_option s.rules && have_own_ids s.rules

abbrev pub is_named_help : Shape → Bool
is_named_help s = bytes_eq s.name (codes "help")

-- the caller gave the argument an action by which its uses have values
abbrev pub is_made_with_values : Rule → Bool
is_made_with_values rule = option_map_or has_values rule.action false

-- the subcommand was not built yet, and the caller gave its arguments such actions
abbrev pub is_made_of_options : Shape → Bool
is_made_of_options s = not s.is_built && list_all is_made_with_values s.rules

-- the command was not built yet, and clap's subcommand `help` is added to its own subcommands
abbrev pub gets_help : App → Bool
gets_help app =
    not app.top.is_built && not (app.top.is_leaf || app.top.disable_help_subcommand)

-- the subcommand has one name and, where that is not `help`, plain options alone
abbrev pub is_plain_subcommand : Shape → Bool
is_plain_subcommand s = is_empty s.aliases && (is_named_help s || has_plain_options s)

-- a command of which a subcommand is required, and whose subcommands are plain once clap has built it
abbrev pub is_option_line : App → Bool
is_option_line app = gets_help app && (app.top.subcommand_required
    && (list_all is_made_of_options app.subs && list_all is_plain_subcommand (built app).subs))

-- ---- values

-- the option has a value: the first of its values is `text`, its parser accepts that, and the typed
-- getters read it as the parser says
abbrev pub HasValue : Rule → List Row → Type 0
HasValue rule rows = (text : Text) × (first_of rule.id rows ≡ Some text)
    × (one_of rule.id rows ≡ Some (read_as (reading_by rule) text))
    × Accepts rule.ignore_case (parser_of_value rule.parser) text

-- the option is required, or has a default
abbrev pub is_always_given : Rule → Bool
is_always_given rule = rule.required || not (is_empty rule.defaults)

-- each option that is required or has a default has a value
abbrev pub HaveValues : List Rule → List Row → Type 0
HaveValues [] rows = ⊤
HaveValues (rule ∷ rest) rows =
    (is_always_given rule ≡ true → HasValue rule rows) × HaveValues rest rows

-- the name is that of one of the subcommands, and its options have their values in the rows
abbrev pub IsOneOf : List Shape → Text → List Row → Type 0
IsOneOf [] name rows = ⊥
IsOneOf (s ∷ rest) name rows =
    ((name ≡ s.name) × HaveValues s.rules rows) ⊎ IsOneOf rest name rows
