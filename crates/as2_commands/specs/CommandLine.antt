-- The command line of the program, in the terms of the parser of words.
use Rattle.std.specs.Prelude.{◌≡◌, ◌⊎◌, ◌-◌, ℕ, List, [], ◌∷◌, Option, Some, true, false, codes}
use Rattle.as2_names.specs.Moments.{last_moment}
use Rattle.as2_exchange.specs.State.{end_of_numbers}
use Rattle.clap.specs.Words.{App, Row, Rule, Shape, Text, fault_of, matches_of, new_app, new_rule, subcommand_of, with_rule}
use Rattle.clap.specs.Simple.{new_shape, on_top}
use Rattle.clap.specs.Kinds.{IsAmong, Kinds}
use Rattle.clap.specs.declared.builder.action.ArgAction.TheVariants.{SetTrue}
use Rattle.clap.specs.declared.builder.value_parser.ValueParser.TheVariants.{NonEmptyString, Unsigned}
use Rattle.clap.specs.declared.error.kind.ErrorKind.{ErrorKind}
use Rattle.clap.specs.declared.error.kind.ErrorKind.TheVariants.{DisplayHelp, DisplayVersion}

-- `--name VALUE`
abbrev pub option : Text → Rule
option name = record (new_rule name) { long = Some name; value_names = 1 }

-- `--name`
abbrev pub flag : Text → Rule
flag name = record (new_rule name) { long = Some name; action = Some SetTrue }

-- a value that stands by itself, and must be there
abbrev pub positional : Text → Rule
positional name = record (new_rule name) { value_names = 1; required = true }

-- it must be there
abbrev pub must_be_there : Rule → Rule
must_be_there rule = record rule { required = true }

-- it has a byte or more
abbrev pub nonempty : Rule → Rule
nonempty rule = record rule { parser = Some NonEmptyString }

-- it is a number from `low` to `high`
abbrev pub number : ℕ → ℕ → Rule → Rule
number low high rule = record rule { parser = Some (Unsigned low high) }

-- it is this text where it isn't given
abbrev pub default : Text → Rule → Rule
default text rule = record rule { defaults = text ∷ [] }

-- the first number of a store that is made
abbrev pub first : Rule
first = number 1 (end_of_numbers - 1) (default (codes "1") (option (codes "first")))

-- a moment
abbrev pub moment : Rule
moment = number 0 last_moment (option (codes "moment"))

-- the most MiB of a store's files
abbrev pub store_limit : Rule
store_limit = number 1 1048576 (default (codes "2048") (option (codes "store-limit")))

-- the number of an entry
abbrev pub entry : Rule
entry = number 1 (end_of_numbers - 1) (positional (codes "number"))

-- the longest wait for a peer, in seconds
abbrev pub timeout : Rule
timeout = number 1 3600 (default (codes "30") (option (codes "timeout")))

-- how what is told is printed
abbrev pub format : Rule
format = default (codes "text") (option (codes "format"))

-- the path of a store
abbrev pub store : Rule
store = nonempty (must_be_there (option (codes "store")))

-- the longest wait for another request, in seconds
abbrev pub idle : Text → Rule
idle seconds = number 1 3600 (default seconds (option (codes "idle")))

-- the folder that files are made in
abbrev pub folder : Rule
folder = nonempty (default (codes ".") (option (codes "out")))

-- the path at which a station can be asked
abbrev pub control : Rule
control = nonempty (option (codes "control"))

-- where receipts may be sent
abbrev pub receipts_to : Rule
receipts_to = nonempty (option (codes "receipts-to"))

-- how many connections are served
abbrev pub count_option : Rule
count_option = number 1 1000000 (must_be_there (option (codes "count")))

-- the program by its name alone: it has a version
abbrev pub titled_program : App
titled_program = on_top (λ s. record s { has_version = true }) (new_app (codes "as2desk"))

-- the program, before its options: there must be a command
abbrev pub program : App
program = on_top (λ s. record s { subcommand_required = true; disable_help_subcommand = true }) titled_program

abbrev pub options : App
options = with_rule (with_rule (with_rule (with_rule (with_rule program (must_be_there (option (codes "agreements")))) store) store_limit) first) moment

-- a command and what stands behind it
abbrev pub command : Text → List Rule → Shape
command name rules = record (new_shape name) { rules = rules }

abbrev pub post_command : Shape
post_command = command (codes "post") (flag (codes "log") ∷ [])

abbrev pub submit_command : Shape
submit_command = command (codes "submit") (must_be_there (option (codes "from")) ∷ must_be_there (option (codes "to")) ∷ positional (codes "file") ∷ [])

abbrev pub list_command : Shape
list_command = command (codes "list") (positional (codes "kind") ∷ option (codes "state") ∷ format ∷ [])

abbrev pub show_command : Shape
show_command = command (codes "show") (entry ∷ format ∷ [])

abbrev pub evidence_command : Shape
evidence_command = command (codes "evidence") (entry ∷ flag (codes "received") ∷ folder ∷ [])

abbrev pub serve_command : Shape
serve_command = command (codes "serve") (must_be_there (option (codes "listen")) ∷ count_option ∷ timeout ∷ idle (codes "2") ∷ [])

abbrev pub run_command : Shape
run_command = command (codes "run") (must_be_there (option (codes "listen")) ∷ control ∷ timeout ∷ idle (codes "75") ∷ receipts_to ∷ [])

abbrev pub commands : List Shape
commands =
    command (codes "check") []
    ∷ command (codes "migrate") []
    ∷ command (codes "verify") (format ∷ [])
    ∷ evidence_command
    ∷ post_command
    ∷ submit_command
    ∷ command (codes "send") (timeout ∷ [])
    ∷ command (codes "tick") []
    ∷ command (codes "resend") (entry ∷ [])
    ∷ list_command
    ∷ command (codes "outstanding") (format ∷ [])
    ∷ show_command
    ∷ command (codes "fetch") (entry ∷ [])
    ∷ serve_command
    ∷ run_command
    ∷ command (codes "stop") []
    ∷ []

-- as2desk OPTIONS, and behind that a command
abbrev pub command_line : App
command_line = record { top = record options.top { is_leaf = false }; subs = commands }

-- why the words are no such command line; of one that is, nothing
abbrev pub faults : List Text → Kinds
faults words = fault_of command_line words

-- the values that the words give the options before the command
abbrev pub option_values : List Text → List Row
option_values words = matches_of command_line words

-- the command that the words name, and the values behind it
abbrev pub command_in : List Text → Option (Text × List Row)
command_in words = subcommand_of command_line words

-- what words get that ask for help or the version
abbrev pub IsHelp : ErrorKind → Type 0
IsHelp kind = (kind ≡ DisplayHelp) ⊎ (kind ≡ DisplayVersion)

-- the words ask for help or the version
abbrev pub AsksForHelp : List Text → Type 0
AsksForHelp words = IsAmong DisplayHelp (faults words) ⊎ IsAmong DisplayVersion (faults words)
