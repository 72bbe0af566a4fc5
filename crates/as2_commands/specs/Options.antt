-- What a command line asks for.
use Rattle.std.specs.Prelude.{◌≡◌, ◌≤◌, ◌-◌, ℕ, List, [], Option, Some, None, IfSome, option_map, codes, ⊤, Bool, bytes_eq, is_some, true, false, ◌&&◌, nat_le, nat_lt, if◌then◌else◌}
use Rattle.std.specs.Str.Parse.{IsNumeral, digits_value, without_leading_plus}
use Rattle.as2_names.specs.Moments.{last_moment}
use Rattle.as2_names.specs.Names.{Spells}
use Rattle.as2_exchange.specs.State.{end_of_numbers}
use Rattle.as2_views.specs.Layout.{state_text}
use Rattle.as2_views.specs.declared.filter.Filter.{Filter}
use Rattle.as2_views.specs.declared.filter.Filter.TheVariants.{Outbox, Inbox}
use Rattle.clap.specs.Words.{Row, Text, first_of, one_of}
use Rattle.as2_commands.specs.CommandLine.{command_in, faults, option_values}
use Rattle.as2_audit.specs.declared.findings.Mailbox.{Mailbox}
use Rattle.as2_audit.specs.declared.findings.Mailbox.TheVariants as mailbox
use Rattle.as2_commands.specs.Requests.{GivenOperating, GivenServing, GivenSubmission, GivenEvidence}
use Rattle.as2_commands.specs.declared.tasks.Command.{Command}
use Rattle.as2_commands.specs.declared.tasks.Command.TheVariants.{Post, Ask, Send, Serve}
use Rattle.as2_commands.specs.declared.tasks.Format.{Format}
use Rattle.as2_commands.specs.declared.tasks.Format.TheVariants as format
use Rattle.as2_commands.specs.declared.tasks.Question.{Question}
use Rattle.as2_commands.specs.declared.tasks.Question.TheVariants.{Submit, Tick, Resend, List as Listing, Outstanding, Show, Fetch}
use Rattle.as2_commands.specs.declared.tasks.RunOptions.{RunOptions}
use Rattle.as2_commands.specs.declared.tasks.Task.{Task}
use Rattle.as2_commands.specs.declared.tasks.Task.TheVariants.{Check, Migrate, Verify, GatherEvidence, Run, Operate, Stop}

-- the text says the number in decimal digits; a plus may stand before them
abbrev pub Says : Text → ℕ → Type 0
Says text n = IsNumeral 10 (without_leading_plus text) × (n ≡ digits_value 10 (without_leading_plus text))

-- the value is there and says the number
abbrev pub NumberIs : Option Text → ℕ → Type 0
NumberIs (Some text) n = Says text n
NumberIs None n = ⊥

-- the number that the value says, where it is there
abbrev pub TellsOption : Option Text → Option ℕ → Type 0
TellsOption (Some text) (Some n) = Says text n
TellsOption None None = ⊤
TellsOption _ _ = ⊥

-- the moment that the value says, where it is there
abbrev pub TellsMoment : Option Text → Option ℕ → Type 0
TellsMoment value moment = TellsOption value moment × IfSome moment (λ n. n ≤ last_moment)

-- the value says the number of seconds, or it isn't there and the clock tells it
abbrev pub SecondsAre : Option Text → Option ℕ → ℕ → Type 0
SecondsAre (Some text) clock n = Says text n
SecondsAre None clock n = clock ≡ Some n

-- the value is there and says a number from `low` to `high`
pub record NumberFrom (low high : ℕ) (value : Option Text) (n : ℕ) : Type 0 where
  pub number : NumberIs value n
  pub least : low ≤ n
  pub most : n ≤ high

-- the value is there and spells the AS2 name
abbrev pub NameIs : Option Text → List ℕ → Type 0
NameIs (Some text) name = Spells text name
NameIs None name = ⊥

-- the number, where an entry may have it
abbrev pub first_number : ℕ → Option ℕ
first_number n = if nat_le 1 n && nat_lt n end_of_numbers then Some n else None

-- the first number of a new store, the moment, and the most MiB of a store's files, that the values before the command give
pub record AsksRun (values : List Row) (clock : Option ℕ) (options : RunOptions) : Type 0 where
  pub number : NumberFrom 1 (end_of_numbers - 1) (one_of (codes "first") values) options.first
  pub seconds : SecondsAre (one_of (codes "moment") values) clock options.moment
  pub early : options.moment ≤ last_moment
  pub limit : NumberFrom 1 1048576 (one_of (codes "store-limit") values) options.limit

-- the longest wait in seconds
abbrev pub IsTimeout : List Row → ℕ → Type 0
IsTimeout own seconds = NumberFrom 1 3600 (one_of (codes "timeout") own) seconds

-- the number of an entry
abbrev pub IsEntryNumber : List Row → ℕ → Type 0
IsEntryNumber own n = NumberFrom 1 (end_of_numbers - 1) (one_of (codes "number") own) n

-- the sender, the receiver and the path of the document
pub record AsksSubmit (own : List Row) (s : GivenSubmission) : Type 0 where
  pub sender : NameIs (first_of (codes "from") own) s.from
  pub receiver : NameIs (first_of (codes "to") own) s.to
  pub named : first_of (codes "file") own ≡ Some s.path

-- the listing of a kind, and of a state where one is given; the state isn't looked at for what was received
abbrev pub Lists : Option Text → Option Text → Filter → Type 0
Lists kind state Inbox = kind ≡ Some (codes "in")
Lists kind state (Outbox only) = (kind ≡ Some (codes "out")) × (state ≡ option_map state_text only)

-- a state is given and isn't looked at
abbrev pub is_state_ignored : Filter → Option Text → Bool
is_state_ignored Inbox state = is_some state
is_state_ignored (Outbox only) state = false

-- the word for a format
abbrev pub format_word : Format → Text
format_word format.Text = codes "text"
format_word format.Json = codes "json"

-- how what is told is printed
abbrev pub IsFormat : List Row → Format → Type 0
IsFormat own f = first_of (codes "format") own ≡ Some (format_word f)

-- .. and whether a state was given in vain, and the format
abbrev pub AsksList : List Row → Question GivenSubmission → Type 0
AsksList own (Listing f idle form) =
    Lists (first_of (codes "kind") own) (first_of (codes "state") own) f × (idle ≡ is_state_ignored f (first_of (codes "state") own)) × IsFormat own form
AsksList own other = ⊥

-- the number of the document and the format
abbrev pub AsksShow : List Row → Question GivenSubmission → Type 0
AsksShow own (Show n form) = IsEntryNumber own n × IsFormat own form
AsksShow own other = ⊥

-- the address, the count and the waits, and the moment where the values before the command give it
pub record AsksServe (values own : List Row) (s : GivenServing) : Type 0 where
  pub listens : first_of (codes "listen") own ≡ Some s.address
  pub connections : NumberFrom 1 1000000 (one_of (codes "count") own) s.count
  pub wait : IsTimeout own s.waits.seconds
  pub idle : NumberFrom 1 3600 (one_of (codes "idle") own) s.waits.idle
  pub seconds : TellsMoment (one_of (codes "moment") values) s.moment

-- the address, the path, the waits, where receipts may be sent, and the moment where the values before the command give it
pub record AsksOperate (values own : List Row) (s : GivenOperating) : Type 0 where
  pub listens : first_of (codes "listen") own ≡ Some s.address
  pub control : first_of (codes "control") own ≡ s.control
  pub wait : IsTimeout own s.waits.seconds
  pub idle : NumberFrom 1 3600 (one_of (codes "idle") own) s.waits.idle
  pub receipts_to : first_of (codes "receipts-to") own ≡ s.receipts_to
  pub seconds : TellsMoment (one_of (codes "moment") values) s.moment

-- a flag is there
abbrev pub is_set : Option Text → Bool
is_set (Some text) = bytes_eq text (codes "true")
is_set None = false

-- the box of a document: what was received, where that flag is there
abbrev pub box_of : Bool → Mailbox
box_of true = mailbox.Inbox
box_of false = mailbox.Outbox

-- the box, the number and the folder
pub record AsksEvidence (own : List Row) (w : GivenEvidence) : Type 0 where
  pub box : w.mailbox ≡ box_of (is_set (first_of (codes "received") own))
  pub entry : IsEntryNumber own w.number
  pub folder : first_of (codes "out") own ≡ Some w.folder

-- the word for a question
abbrev pub question_word : Question GivenSubmission → Text
question_word (Submit s) = codes "submit"
question_word Tick = codes "tick"
question_word (Resend n) = codes "resend"
question_word (Listing f idle form) = codes "list"
question_word (Outstanding form) = codes "outstanding"
question_word (Show n form) = codes "show"
question_word (Fetch n) = codes "fetch"

-- .. and for a command
abbrev pub word_of : Command GivenSubmission → Text
word_of (Post log) = codes "post"
word_of (Ask question) = question_word question
word_of (Send w) = codes "send"
word_of (Serve s) = codes "serve"

-- what the values of a question say for it
abbrev pub TellQuestion : List Row → Question GivenSubmission → Type 0
TellQuestion own (Submit s) = AsksSubmit own s
TellQuestion own (Resend n) = IsEntryNumber own n
TellQuestion own (Listing f idle form) = AsksList own (Listing f idle form)
TellQuestion own (Outstanding form) = IsFormat own form
TellQuestion own (Show n form) = AsksShow own (Show n form)
TellQuestion own (Fetch n) = IsEntryNumber own n
TellQuestion own _ = ⊤

-- what the values before a command and its own say for it
abbrev pub Tell : List Row → List Row → Command GivenSubmission → Type 0
Tell values own (Post log) = log ≡ is_set (first_of (codes "log") own)
Tell values own (Ask question) = TellQuestion own question
Tell values own (Send w) = IsTimeout own w.seconds
Tell values own (Serve s) = AsksServe values own s

-- the command of a word, by the values
abbrev pub Commands : List Row → Text → List Row → Command GivenSubmission → Type 0
Commands values word own command = (word ≡ word_of command) × Tell values own command

-- what the values and the command ask for; a check, a migration and a stop need no moment
abbrev pub Tasks : List Row → Option (Text × List Row) → Option ℕ → Task → Type 0
Tasks values None clock task = ⊥
Tasks values (Some command) clock Check = command.0 ≡ codes "check"
Tasks values (Some command) clock Migrate = command.0 ≡ codes "migrate"
Tasks values (Some command) clock (Verify options form) = (command.0 ≡ codes "verify") × IsFormat command.1 form × AsksRun values clock options
Tasks values (Some command) clock (GatherEvidence options wanted) = (command.0 ≡ codes "evidence") × AsksEvidence command.1 wanted × AsksRun values clock options
Tasks values (Some command) clock (Run options asked) = Commands values command.0 command.1 asked × AsksRun values clock options
Tasks values (Some command) clock (Operate options wanted) = (command.0 ≡ codes "run") × AsksOperate values command.1 wanted × AsksRun values clock options
Tasks values (Some command) clock Stop = command.0 ≡ codes "stop"

-- the paths of the file of agreements and of the store, and what is asked for
pub record Give (values : List Row) (command : Option (Text × List Row)) (clock : Option ℕ) (path store : Text) (task : Task) : Type 0 where
  pub agreements : first_of (codes "agreements") values ≡ Some path
  pub records : first_of (codes "store") values ≡ Some store
  pub asked : Tasks values command clock task

-- the same of the words of a command line
pub record Gives (words : List Text) (clock : Option ℕ) (path store : Text) (task : Task) : Type 0 where
  pub read : faults words ≡ []
  pub given : Give (option_values words) (command_in words) clock path store task

-- the words ask for nothing
abbrev pub GivesNone : List Text → Option ℕ → Type 0
GivesNone words clock = (path store : Text) (task : Task) → ¬ Gives words clock path store task
