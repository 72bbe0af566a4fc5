-- The words ask for one thing.
use Rattle.std.proofs.Common.{◌≡◌, ◌∙◌, ◌==◌, ◌<◌, ◌+◌, ◌*◌, slice_index, lit<, arith, if◌then◌else◌, [], ◌∷◌, ℕ, Bool, List, Option, Some, None, option_map, refl, sym, ap, ap₂, subst, codes}
use Rattle.clap.specs.Walk.{Row, Text}
use Rattle.clap.specs.Words.{first_of}
use Rattle.as2_names.specs.Names.{Spells}
use Rattle.as2_names.proofs.Spelled.{again}
use Rattle.as2_mdn.specs.declared.detail.DetailClass.{DetailClass}
use Rattle.as2_mdn.specs.declared.detail.DetailClass.TheVariants as class
use Rattle.as2_views.specs.Layout.{state_text}
use Rattle.as2_views.specs.declared.filter.Filter.{Filter}
use Rattle.as2_views.specs.declared.filter.Filter.TheVariants.{Outbox, Inbox}
use Rattle.as2_audit.specs.declared.findings.Mailbox.{Mailbox}
use Rattle.as2_commands.specs.CommandLine.{command_in, option_values}
use Rattle.as2_commands.specs.Options.{AsksEvidence, AsksOperate, AsksRun, AsksServe, AsksSubmit, Gives, IsFormat, Lists, is_state_ignored, NameIs, NumberIs, SecondsAre, Tasks, Tell, TellQuestion, TellsOption, question_word, word_of}
use Rattle.as2_commands.specs.Requests.{GivenOperating, GivenServing, GivenSubmission, GivenEvidence}
use Rattle.as2_commands.specs.declared.tasks.Command.{Command}
use Rattle.as2_commands.specs.declared.tasks.Command.TheVariants as command
use Rattle.as2_commands.specs.declared.tasks.Format.{Format}
use Rattle.as2_commands.specs.declared.tasks.Format.TheVariants as format
use Rattle.as2_commands.specs.declared.tasks.Question.{Question}
use Rattle.as2_commands.specs.declared.tasks.Question.TheVariants as question
use Rattle.as2_commands.specs.declared.tasks.RunOptions.{RunOptions}
use Rattle.as2_commands.specs.declared.tasks.Task.{Task}
use Rattle.as2_commands.specs.declared.tasks.Task.TheVariants.{Check, Migrate, Verify, GatherEvidence, Run, Operate, Stop}
use Rattle.as2_commands.specs.declared.tasks.ServingWaits.{ServingWaits}
use Rattle.as2_commands.specs.declared.tasks.Waits.{Waits}

number_one : (o : Option Text) (a b : ℕ) → NumberIs o a → NumberIs o b → a ≡ b
number_one (Some text) a b x y = x.1 ∙ sym y.1
number_one None a b x y = absurd x

seconds_one : (o : Option Text) (clock : Option ℕ) (a b : ℕ) → SecondsAre o clock a → SecondsAre o clock b → a ≡ b
seconds_one (Some text) clock a b x y = x.1 ∙ sym y.1
seconds_one None clock a b x y = cc

told_one : (o : Option Text) (a b : Option ℕ) → TellsOption o a → TellsOption o b → a ≡ b
told_one (Some text) (Some a) (Some b) x y = ap Some (x.1 ∙ sym y.1)
told_one (Some text) (Some a) None x y = absurd y
told_one (Some text) None b x y = absurd x
told_one None (Some a) b x y = absurd x
told_one None None (Some b) x y = absurd y
told_one None None None x y = refl

spelled_one : (text a b : List ℕ) → Spells text a → Spells text b → a ≡ b
spelled_one text a b x y = cc (again text a x, again text b y)

name_one : (o : Option Text) (a b : List ℕ) → NameIs o a → NameIs o b → a ≡ b
name_one (Some text) a b x y = spelled_one text a b x y
name_one None a b x y = absurd x

path_one : (o : Option Text) (a b : Text) → o ≡ Some a → o ≡ Some b → a ≡ b
path_one o a b x y = cc

-- ---- the same for each command

submission_one : (own : List Row) (a b : GivenSubmission) → AsksSubmit own a → AsksSubmit own b → a ≡ b
submission_one own a b x y =
    ap (λ (n : List ℕ). record a { from = n }) (name_one _ a.from b.from x.sender y.sender)
    ∙ ap (λ (n : List ℕ). record a { from = b.from; to = n }) (name_one _ a.to b.to x.receiver y.receiver)
    ∙ ap (λ (p : List ℕ). record b { path = p }) (path_one _ a.path b.path x.named y.named)

waits_one : (a b : Waits) → a.seconds ≡ b.seconds → a ≡ b
waits_one a b x = ap (λ (n : ℕ). record a { seconds = n }) x

serving_waits_one : (a b : ServingWaits) → a.seconds ≡ b.seconds → a.idle ≡ b.idle → a ≡ b
serving_waits_one a b x y = ap (λ (n : ℕ). record a { seconds = n }) x ∙ ap (λ (n : ℕ). record b { idle = n }) y

serving_one : (values own : List Row) (a b : GivenServing) → AsksServe values own a → AsksServe values own b → a ≡ b
serving_one values own a b x y =
    ap (λ (t : List ℕ). record a { address = t }) (path_one _ a.address b.address x.listens y.listens)
    ∙ ap (λ (n : ℕ). record a { address = b.address; count = n }) (number_one _ a.count b.count x.connections.number y.connections.number)
    ∙ ap (λ (w : ServingWaits). record b { waits = w; moment = a.moment }) (serving_waits_one a.waits b.waits
    (number_one _ a.waits.seconds b.waits.seconds x.wait.number y.wait.number) (number_one _ a.waits.idle b.waits.idle x.idle.number y.idle.number))
    ∙ ap (λ (m : Option ℕ). record b { moment = m }) (told_one _ a.moment b.moment x.seconds.0 y.seconds.0)

operating_one : (values own : List Row) (a b : GivenOperating) → AsksOperate values own a → AsksOperate values own b → a ≡ b
operating_one values own a b x y =
    ap (λ (t : List ℕ). record a { address = t }) (path_one _ a.address b.address x.listens y.listens)
    ∙ ap (λ (c : Option (List ℕ)). record a { address = b.address; control = c }) (sym x.control ∙ y.control)
    ∙ ap (λ (w : ServingWaits). record b { waits = w; receipts_to = a.receipts_to; moment = a.moment }) (serving_waits_one a.waits b.waits
    (number_one _ a.waits.seconds b.waits.seconds x.wait.number y.wait.number) (number_one _ a.waits.idle b.waits.idle x.idle.number y.idle.number))
    ∙ ap (λ (r : Option (List ℕ)). record b { receipts_to = r; moment = a.moment }) (sym x.receipts_to ∙ y.receipts_to)
    ∙ ap (λ (m : Option ℕ). record b { moment = m }) (told_one _ a.moment b.moment x.seconds.0 y.seconds.0)

-- the state of a letter
state_from : Text → DetailClass
state_from [] = class.P
state_from (c ∷ rest) =
    if c == 80 then class.P else if c == 82 then class.R else if c == 83 then class.S else if c == 87 then class.W else class.E

from_letter : (s : DetailClass) → state_from (state_text s) ≡ s
unfolding state_from
from_letter class.P = refl
from_letter class.R = refl
from_letter class.S = refl
from_letter class.W = refl
from_letter class.E = refl

letters_one : (o p : Option DetailClass) → option_map state_text o ≡ option_map state_text p → o ≡ p
letters_one None None x = refl
letters_one None (Some s) x = cc
letters_one (Some s) None x = cc
letters_one (Some s) (Some t) x =
    let same : state_text s ≡ state_text t = cc in
    ap Some (sym (from_letter s) ∙ ap state_from same ∙ from_letter t)

filter_one : (kind state : Option Text) (a b : Filter) → Lists kind state a → Lists kind state b → a ≡ b
filter_one kind state Inbox Inbox x y = refl
filter_one kind state Inbox (Outbox o) x y = let same : Some (codes "in") ≡ Some (codes "out") = sym x ∙ y.0 in cc
filter_one kind state (Outbox o) Inbox x y = let same : Some (codes "in") ≡ Some (codes "out") = sym y ∙ x.0 in cc
filter_one kind state (Outbox o) (Outbox p) x y = ap Outbox (letters_one o p (sym x.1 ∙ y.1))

-- the words of the commands differ in their first and third letters
mark : Text → ℕ
mark word = slice_index word 0 * 1000 + slice_index word 2

-- .. but those of `show` and `stop` in their second
second : Text → ℕ
second word = slice_index word 1

apart : (m n : ℕ) → m < n → m ≡ n → ⊥
apart m n less is = omega (arith, less, is)

format_one : (own : List Row) (a b : Format) → IsFormat own a → IsFormat own b → a ≡ b
unfolding mark
format_one own format.Text format.Text x y = refl
format_one own format.Text format.Json x y = absurd (apart 106111 116120 (lit< tt) (ap mark (path_one _ (codes "json") (codes "text") y x)))
format_one own format.Json format.Text x y = absurd (apart 106111 116120 (lit< tt) (ap mark (path_one _ (codes "json") (codes "text") x y)))
format_one own format.Json format.Json x y = refl

question_one : (own : List Row) (a b : Question GivenSubmission) → question_word a ≡ question_word b → TellQuestion own a → TellQuestion own b → a ≡ b
unfolding mark
question_one own (question.Submit s) (question.Submit t) is x y = ap question.Submit (submission_one own s t x y)
question_one own (question.Submit s) question.Tick is x y = absurd (apart 115098 116099 (lit< tt) (ap mark is))
question_one own (question.Submit s) (question.Resend t) is x y = absurd (apart 114115 115098 (lit< tt) (ap mark (sym is)))
question_one own (question.Submit s) (question.List t j g) is x y = absurd (apart 108115 115098 (lit< tt) (ap mark (sym is)))
question_one own (question.Submit s) (question.Outstanding g) is x y = absurd (apart 111116 115098 (lit< tt) (ap mark (sym is)))
question_one own (question.Submit s) (question.Show t g) is x y = absurd (apart 115098 115111 (lit< tt) (ap mark is))
question_one own (question.Submit s) (question.Fetch t) is x y = absurd (apart 102116 115098 (lit< tt) (ap mark (sym is)))
question_one own question.Tick (question.Submit t) is x y = absurd (apart 115098 116099 (lit< tt) (ap mark (sym is)))
question_one own question.Tick question.Tick is x y = refl
question_one own question.Tick (question.Resend t) is x y = absurd (apart 114115 116099 (lit< tt) (ap mark (sym is)))
question_one own question.Tick (question.List t j g) is x y = absurd (apart 108115 116099 (lit< tt) (ap mark (sym is)))
question_one own question.Tick (question.Outstanding g) is x y = absurd (apart 111116 116099 (lit< tt) (ap mark (sym is)))
question_one own question.Tick (question.Show t g) is x y = absurd (apart 115111 116099 (lit< tt) (ap mark (sym is)))
question_one own question.Tick (question.Fetch t) is x y = absurd (apart 102116 116099 (lit< tt) (ap mark (sym is)))
question_one own (question.Resend s) (question.Submit t) is x y = absurd (apart 114115 115098 (lit< tt) (ap mark is))
question_one own (question.Resend s) question.Tick is x y = absurd (apart 114115 116099 (lit< tt) (ap mark is))
question_one own (question.Resend s) (question.Resend t) is x y = ap question.Resend (number_one _ s t x.number y.number)
question_one own (question.Resend s) (question.List t j g) is x y = absurd (apart 108115 114115 (lit< tt) (ap mark (sym is)))
question_one own (question.Resend s) (question.Outstanding g) is x y = absurd (apart 111116 114115 (lit< tt) (ap mark (sym is)))
question_one own (question.Resend s) (question.Show t g) is x y = absurd (apart 114115 115111 (lit< tt) (ap mark is))
question_one own (question.Resend s) (question.Fetch t) is x y = absurd (apart 102116 114115 (lit< tt) (ap mark (sym is)))
question_one own (question.List s i f) (question.Submit t) is x y = absurd (apart 108115 115098 (lit< tt) (ap mark is))
question_one own (question.List s i f) question.Tick is x y = absurd (apart 108115 116099 (lit< tt) (ap mark is))
question_one own (question.List s i f) (question.Resend t) is x y = absurd (apart 108115 114115 (lit< tt) (ap mark is))
question_one own (question.List s i f) (question.List t j g) is x y =
    let same = filter_one _ _ s t x.0 y.0 in
    ap₂ (λ (a : Filter) (b : Bool). question.List a b f) same (x.1 ∙ ap (λ (a : Filter). is_state_ignored a (first_of (codes "state") own)) same ∙ sym y.1)
    ∙ ap (question.List t j) (format_one own f g x.2 y.2)
question_one own (question.List s i f) (question.Outstanding g) is x y = absurd (apart 108115 111116 (lit< tt) (ap mark is))
question_one own (question.List s i f) (question.Show t g) is x y = absurd (apart 108115 115111 (lit< tt) (ap mark is))
question_one own (question.List s i f) (question.Fetch t) is x y = absurd (apart 102116 108115 (lit< tt) (ap mark (sym is)))
question_one own (question.Outstanding f) (question.Submit t) is x y = absurd (apart 111116 115098 (lit< tt) (ap mark is))
question_one own (question.Outstanding f) question.Tick is x y = absurd (apart 111116 116099 (lit< tt) (ap mark is))
question_one own (question.Outstanding f) (question.Resend t) is x y = absurd (apart 111116 114115 (lit< tt) (ap mark is))
question_one own (question.Outstanding f) (question.List t j g) is x y = absurd (apart 108115 111116 (lit< tt) (ap mark (sym is)))
question_one own (question.Outstanding f) (question.Outstanding g) is x y = ap question.Outstanding (format_one own f g x y)
question_one own (question.Outstanding f) (question.Show t g) is x y = absurd (apart 111116 115111 (lit< tt) (ap mark is))
question_one own (question.Outstanding f) (question.Fetch t) is x y = absurd (apart 102116 111116 (lit< tt) (ap mark (sym is)))
question_one own (question.Show s f) (question.Submit t) is x y = absurd (apart 115098 115111 (lit< tt) (ap mark (sym is)))
question_one own (question.Show s f) question.Tick is x y = absurd (apart 115111 116099 (lit< tt) (ap mark is))
question_one own (question.Show s f) (question.Resend t) is x y = absurd (apart 114115 115111 (lit< tt) (ap mark (sym is)))
question_one own (question.Show s f) (question.List t j g) is x y = absurd (apart 108115 115111 (lit< tt) (ap mark (sym is)))
question_one own (question.Show s f) (question.Outstanding g) is x y = absurd (apart 111116 115111 (lit< tt) (ap mark (sym is)))
question_one own (question.Show s f) (question.Show t g) is x y = ap₂ question.Show (number_one _ s t x.0.number y.0.number) (format_one own f g x.1 y.1)
question_one own (question.Show s f) (question.Fetch t) is x y = absurd (apart 102116 115111 (lit< tt) (ap mark (sym is)))
question_one own (question.Fetch s) (question.Submit t) is x y = absurd (apart 102116 115098 (lit< tt) (ap mark is))
question_one own (question.Fetch s) question.Tick is x y = absurd (apart 102116 116099 (lit< tt) (ap mark is))
question_one own (question.Fetch s) (question.Resend t) is x y = absurd (apart 102116 114115 (lit< tt) (ap mark is))
question_one own (question.Fetch s) (question.List t j g) is x y = absurd (apart 102116 108115 (lit< tt) (ap mark is))
question_one own (question.Fetch s) (question.Outstanding g) is x y = absurd (apart 102116 111116 (lit< tt) (ap mark is))
question_one own (question.Fetch s) (question.Show t g) is x y = absurd (apart 102116 115111 (lit< tt) (ap mark is))
question_one own (question.Fetch s) (question.Fetch t) is x y = ap question.Fetch (number_one _ s t x.number y.number)

no_post : (q : Question GivenSubmission) → codes "post" ≡ question_word q → ⊥
unfolding mark
no_post (question.Submit s) is = absurd (apart 112115 115098 (lit< tt) (ap mark is))
no_post question.Tick is = absurd (apart 112115 116099 (lit< tt) (ap mark is))
no_post (question.Resend s) is = absurd (apart 112115 114115 (lit< tt) (ap mark is))
no_post (question.List s i f) is = absurd (apart 108115 112115 (lit< tt) (ap mark (sym is)))
no_post (question.Outstanding f) is = absurd (apart 111116 112115 (lit< tt) (ap mark (sym is)))
no_post (question.Show s f) is = absurd (apart 112115 115111 (lit< tt) (ap mark is))
no_post (question.Fetch s) is = absurd (apart 102116 112115 (lit< tt) (ap mark (sym is)))

no_send : (q : Question GivenSubmission) → codes "send" ≡ question_word q → ⊥
unfolding mark
no_send (question.Submit s) is = absurd (apart 115098 115110 (lit< tt) (ap mark (sym is)))
no_send question.Tick is = absurd (apart 115110 116099 (lit< tt) (ap mark is))
no_send (question.Resend s) is = absurd (apart 114115 115110 (lit< tt) (ap mark (sym is)))
no_send (question.List s i f) is = absurd (apart 108115 115110 (lit< tt) (ap mark (sym is)))
no_send (question.Outstanding f) is = absurd (apart 111116 115110 (lit< tt) (ap mark (sym is)))
no_send (question.Show s f) is = absurd (apart 115110 115111 (lit< tt) (ap mark is))
no_send (question.Fetch s) is = absurd (apart 102116 115110 (lit< tt) (ap mark (sym is)))

no_serve : (q : Question GivenSubmission) → codes "serve" ≡ question_word q → ⊥
unfolding mark
no_serve (question.Submit s) is = absurd (apart 115098 115114 (lit< tt) (ap mark (sym is)))
no_serve question.Tick is = absurd (apart 115114 116099 (lit< tt) (ap mark is))
no_serve (question.Resend s) is = absurd (apart 114115 115114 (lit< tt) (ap mark (sym is)))
no_serve (question.List s i f) is = absurd (apart 108115 115114 (lit< tt) (ap mark (sym is)))
no_serve (question.Outstanding f) is = absurd (apart 111116 115114 (lit< tt) (ap mark (sym is)))
no_serve (question.Show s f) is = absurd (apart 115111 115114 (lit< tt) (ap mark (sym is)))
no_serve (question.Fetch s) is = absurd (apart 102116 115114 (lit< tt) (ap mark (sym is)))

command_one : (values own : List Row) (a b : Command GivenSubmission) → word_of a ≡ word_of b → Tell values own a → Tell values own b → a ≡ b
unfolding mark
command_one values own (command.Post s) (command.Post t) is x y = ap command.Post (x ∙ sym y)
command_one values own (command.Post s) (command.Ask t) is x y = absurd (no_post t is)
command_one values own (command.Post s) (command.Send t) is x y = absurd (apart 112115 115110 (lit< tt) (ap mark is))
command_one values own (command.Post s) (command.Serve t) is x y = absurd (apart 112115 115114 (lit< tt) (ap mark is))
command_one values own (command.Ask s) (command.Post t) is x y = absurd (no_post s (sym is))
command_one values own (command.Ask s) (command.Ask t) is x y = ap command.Ask (question_one own s t is x y)
command_one values own (command.Ask s) (command.Send t) is x y = absurd (no_send s (sym is))
command_one values own (command.Ask s) (command.Serve t) is x y = absurd (no_serve s (sym is))
command_one values own (command.Send s) (command.Post t) is x y = absurd (apart 112115 115110 (lit< tt) (ap mark (sym is)))
command_one values own (command.Send s) (command.Ask t) is x y = absurd (no_send t is)
command_one values own (command.Send s) (command.Send t) is x y = ap command.Send (waits_one s t (number_one _ s.seconds t.seconds x.number y.number))
command_one values own (command.Send s) (command.Serve t) is x y = absurd (apart 115110 115114 (lit< tt) (ap mark is))
command_one values own (command.Serve s) (command.Post t) is x y = absurd (apart 112115 115114 (lit< tt) (ap mark (sym is)))
command_one values own (command.Serve s) (command.Ask t) is x y = absurd (no_serve t is)
command_one values own (command.Serve s) (command.Send t) is x y = absurd (apart 115110 115114 (lit< tt) (ap mark (sym is)))
command_one values own (command.Serve s) (command.Serve t) is x y = ap command.Serve (serving_one values own s t x y)

run_one : (values : List Row) (clock : Option ℕ) (a b : RunOptions) → AsksRun values clock a → AsksRun values clock b → a ≡ b
run_one values clock a b x y =
    ap (λ (n : ℕ). record a { first = n }) (number_one _ a.first b.first x.number.number y.number.number)
    ∙ ap (λ (m : ℕ). record a { first = b.first; moment = m }) (seconds_one _ clock a.moment b.moment x.seconds y.seconds)
    ∙ ap (λ (n : ℕ). record b { limit = n }) (number_one _ a.limit b.limit x.limit.number y.limit.number)

-- `check` is no command over the records
no_check_question : (q : Question GivenSubmission) → codes "check" ≡ question_word q → ⊥
unfolding mark
no_check_question (question.Submit s) is = absurd (apart 99101 115098 (lit< tt) (ap mark is))
no_check_question question.Tick is = absurd (apart 99101 116099 (lit< tt) (ap mark is))
no_check_question (question.Resend s) is = absurd (apart 99101 114115 (lit< tt) (ap mark is))
no_check_question (question.List s i f) is = absurd (apart 99101 108115 (lit< tt) (ap mark is))
no_check_question (question.Outstanding f) is = absurd (apart 99101 111116 (lit< tt) (ap mark is))
no_check_question (question.Show s f) is = absurd (apart 99101 115111 (lit< tt) (ap mark is))
no_check_question (question.Fetch s) is = absurd (apart 99101 102116 (lit< tt) (ap mark is))

no_check : (command : Command GivenSubmission) → codes "check" ≡ word_of command → ⊥
unfolding mark
no_check (command.Post p) is = absurd (apart 99101 112115 (lit< tt) (ap mark is))
no_check (command.Ask q) is = no_check_question q is
no_check (command.Send s) is = absurd (apart 99101 115110 (lit< tt) (ap mark is))
no_check (command.Serve s) is = absurd (apart 99101 115114 (lit< tt) (ap mark is))

-- nor is `migrate`
no_migrate_question : (q : Question GivenSubmission) → codes "migrate" ≡ question_word q → ⊥
unfolding mark
no_migrate_question (question.Submit s) is = absurd (apart 109103 115098 (lit< tt) (ap mark is))
no_migrate_question question.Tick is = absurd (apart 109103 116099 (lit< tt) (ap mark is))
no_migrate_question (question.Resend s) is = absurd (apart 109103 114115 (lit< tt) (ap mark is))
no_migrate_question (question.List s i f) is = absurd (apart 108115 109103 (lit< tt) (ap mark (sym is)))
no_migrate_question (question.Outstanding f) is = absurd (apart 109103 111116 (lit< tt) (ap mark is))
no_migrate_question (question.Show s f) is = absurd (apart 109103 115111 (lit< tt) (ap mark is))
no_migrate_question (question.Fetch s) is = absurd (apart 102116 109103 (lit< tt) (ap mark (sym is)))

no_migrate : (command : Command GivenSubmission) → codes "migrate" ≡ word_of command → ⊥
unfolding mark
no_migrate (command.Post p) is = absurd (apart 109103 112115 (lit< tt) (ap mark is))
no_migrate (command.Ask q) is = no_migrate_question q is
no_migrate (command.Send s) is = absurd (apart 109103 115110 (lit< tt) (ap mark is))
no_migrate (command.Serve s) is = absurd (apart 109103 115114 (lit< tt) (ap mark is))

-- nor is `verify`
no_verify_question : (q : Question GivenSubmission) → codes "verify" ≡ question_word q → ⊥
unfolding mark
no_verify_question (question.Submit s) is = absurd (apart 115098 118114 (lit< tt) (ap mark (sym is)))
no_verify_question question.Tick is = absurd (apart 116099 118114 (lit< tt) (ap mark (sym is)))
no_verify_question (question.Resend s) is = absurd (apart 114115 118114 (lit< tt) (ap mark (sym is)))
no_verify_question (question.List s i f) is = absurd (apart 108115 118114 (lit< tt) (ap mark (sym is)))
no_verify_question (question.Outstanding f) is = absurd (apart 111116 118114 (lit< tt) (ap mark (sym is)))
no_verify_question (question.Show s f) is = absurd (apart 115111 118114 (lit< tt) (ap mark (sym is)))
no_verify_question (question.Fetch s) is = absurd (apart 102116 118114 (lit< tt) (ap mark (sym is)))

no_verify : (command : Command GivenSubmission) → codes "verify" ≡ word_of command → ⊥
unfolding mark
no_verify (command.Post p) is = absurd (apart 112115 118114 (lit< tt) (ap mark (sym is)))
no_verify (command.Ask q) is = no_verify_question q is
no_verify (command.Send s) is = absurd (apart 115110 118114 (lit< tt) (ap mark (sym is)))
no_verify (command.Serve s) is = absurd (apart 115114 118114 (lit< tt) (ap mark (sym is)))

check_verify : codes "check" ≡ codes "verify" → ⊥
unfolding mark
check_verify is = absurd (apart 99101 118114 (lit< tt) (ap mark is))

migrate_verify : codes "migrate" ≡ codes "verify" → ⊥
unfolding mark
migrate_verify is = absurd (apart 109103 118114 (lit< tt) (ap mark is))

check_migrate : codes "check" ≡ codes "migrate" → ⊥
unfolding mark
check_migrate is = absurd (apart 99101 109103 (lit< tt) (ap mark is))

-- nor is `evidence`
no_evidence_question : (q : Question GivenSubmission) → codes "evidence" ≡ question_word q → ⊥
unfolding mark
no_evidence_question (question.Submit s) is = absurd (apart 101105 115098 (lit< tt) (ap mark is))
no_evidence_question question.Tick is = absurd (apart 101105 116099 (lit< tt) (ap mark is))
no_evidence_question (question.Resend s) is = absurd (apart 101105 114115 (lit< tt) (ap mark is))
no_evidence_question (question.List s i f) is = absurd (apart 101105 108115 (lit< tt) (ap mark is))
no_evidence_question (question.Outstanding f) is = absurd (apart 101105 111116 (lit< tt) (ap mark is))
no_evidence_question (question.Show s f) is = absurd (apart 101105 115111 (lit< tt) (ap mark is))
no_evidence_question (question.Fetch s) is = absurd (apart 101105 102116 (lit< tt) (ap mark is))

no_evidence : (command : Command GivenSubmission) → codes "evidence" ≡ word_of command → ⊥
unfolding mark
no_evidence (command.Post p) is = absurd (apart 101105 112115 (lit< tt) (ap mark is))
no_evidence (command.Ask q) is = no_evidence_question q is
no_evidence (command.Send s) is = absurd (apart 101105 115110 (lit< tt) (ap mark is))
no_evidence (command.Serve s) is = absurd (apart 101105 115114 (lit< tt) (ap mark is))

check_evidence : codes "check" ≡ codes "evidence" → ⊥
unfolding mark
check_evidence is = absurd (apart 99101 101105 (lit< tt) (ap mark is))

migrate_evidence : codes "migrate" ≡ codes "evidence" → ⊥
unfolding mark
migrate_evidence is = absurd (apart 101105 109103 (lit< tt) (ap mark (sym is)))

verify_evidence : codes "verify" ≡ codes "evidence" → ⊥
unfolding mark
verify_evidence is = absurd (apart 101105 118114 (lit< tt) (ap mark (sym is)))

-- nor is `run`
no_run_question : (q : Question GivenSubmission) → codes "run" ≡ question_word q → ⊥
unfolding mark
no_run_question (question.Submit s) is = absurd (apart 114110 115098 (lit< tt) (ap mark is))
no_run_question question.Tick is = absurd (apart 114110 116099 (lit< tt) (ap mark is))
no_run_question (question.Resend s) is = absurd (apart 114110 114115 (lit< tt) (ap mark is))
no_run_question (question.List s i f) is = absurd (apart 108115 114110 (lit< tt) (ap mark (sym is)))
no_run_question (question.Outstanding f) is = absurd (apart 111116 114110 (lit< tt) (ap mark (sym is)))
no_run_question (question.Show s f) is = absurd (apart 114110 115111 (lit< tt) (ap mark is))
no_run_question (question.Fetch s) is = absurd (apart 102116 114110 (lit< tt) (ap mark (sym is)))

no_run : (command : Command GivenSubmission) → codes "run" ≡ word_of command → ⊥
unfolding mark
no_run (command.Post p) is = absurd (apart 112115 114110 (lit< tt) (ap mark (sym is)))
no_run (command.Ask q) is = no_run_question q is
no_run (command.Send s) is = absurd (apart 114110 115110 (lit< tt) (ap mark is))
no_run (command.Serve s) is = absurd (apart 114110 115114 (lit< tt) (ap mark is))

-- nor is `stop`
no_stop_question : (q : Question GivenSubmission) → codes "stop" ≡ question_word q → ⊥
unfolding mark second
no_stop_question (question.Submit s) is = absurd (apart 115098 115111 (lit< tt) (ap mark (sym is)))
no_stop_question question.Tick is = absurd (apart 115111 116099 (lit< tt) (ap mark is))
no_stop_question (question.Resend s) is = absurd (apart 114115 115111 (lit< tt) (ap mark (sym is)))
no_stop_question (question.List s i f) is = absurd (apart 108115 115111 (lit< tt) (ap mark (sym is)))
no_stop_question (question.Outstanding f) is = absurd (apart 111116 115111 (lit< tt) (ap mark (sym is)))
no_stop_question (question.Show s f) is = absurd (apart 104 116 (lit< tt) (ap second (sym is)))
no_stop_question (question.Fetch s) is = absurd (apart 102116 115111 (lit< tt) (ap mark (sym is)))

no_stop : (command : Command GivenSubmission) → codes "stop" ≡ word_of command → ⊥
unfolding mark
no_stop (command.Post p) is = absurd (apart 112115 115111 (lit< tt) (ap mark (sym is)))
no_stop (command.Ask q) is = no_stop_question q is
no_stop (command.Send s) is = absurd (apart 115110 115111 (lit< tt) (ap mark (sym is)))
no_stop (command.Serve s) is = absurd (apart 115111 115114 (lit< tt) (ap mark is))

check_run : codes "check" ≡ codes "run" → ⊥
unfolding mark
check_run is = absurd (apart 99101 114110 (lit< tt) (ap mark is))

migrate_run : codes "migrate" ≡ codes "run" → ⊥
unfolding mark
migrate_run is = absurd (apart 109103 114110 (lit< tt) (ap mark is))

verify_run : codes "verify" ≡ codes "run" → ⊥
unfolding mark
verify_run is = absurd (apart 114110 118114 (lit< tt) (ap mark (sym is)))

evidence_run : codes "evidence" ≡ codes "run" → ⊥
unfolding mark
evidence_run is = absurd (apart 101105 114110 (lit< tt) (ap mark is))

check_stop : codes "check" ≡ codes "stop" → ⊥
unfolding mark
check_stop is = absurd (apart 99101 115111 (lit< tt) (ap mark is))

migrate_stop : codes "migrate" ≡ codes "stop" → ⊥
unfolding mark
migrate_stop is = absurd (apart 109103 115111 (lit< tt) (ap mark is))

verify_stop : codes "verify" ≡ codes "stop" → ⊥
unfolding mark
verify_stop is = absurd (apart 115111 118114 (lit< tt) (ap mark (sym is)))

evidence_stop : codes "evidence" ≡ codes "stop" → ⊥
unfolding mark
evidence_stop is = absurd (apart 101105 115111 (lit< tt) (ap mark is))

run_stop : codes "run" ≡ codes "stop" → ⊥
unfolding mark
run_stop is = absurd (apart 114110 115111 (lit< tt) (ap mark is))

wanted_one : (own : List Row) (a b : GivenEvidence) → AsksEvidence own a → AsksEvidence own b → a ≡ b
wanted_one own a b x y =
    ap (λ (m : Mailbox). record a { mailbox = m }) (x.box ∙ sym y.box)
    ∙ ap (λ (n : ℕ). record a { mailbox = b.mailbox; number = n }) (number_one _ a.number b.number x.entry.number y.entry.number)
    ∙ ap (λ (p : List ℕ). record b { folder = p }) (path_one _ a.folder b.folder x.folder y.folder)

task_one : (values : List Row) (named : Option (Text × List Row)) (clock : Option ℕ) (a b : Task) → Tasks values named clock a → Tasks values named clock b
    → a ≡ b
task_one values None clock a b x y = absurd x
task_one values (Some named) clock Check Check x y = refl
task_one values (Some named) clock Check Migrate x y = absurd (check_migrate (sym x ∙ y))
task_one values (Some named) clock Migrate Check x y = absurd (check_migrate (sym y ∙ x))
task_one values (Some named) clock Migrate Migrate x y = refl
task_one values (Some named) clock Migrate (Run run asked) x y = absurd (no_migrate asked (sym x ∙ y.0.0))
task_one values (Some named) clock (Run run asked) Migrate x y = absurd (no_migrate asked (sym y ∙ x.0.0))
task_one values (Some named) clock Check (Verify run f) x y = absurd (check_verify (sym x ∙ y.0))
task_one values (Some named) clock Migrate (Verify run f) x y = absurd (migrate_verify (sym x ∙ y.0))
task_one values (Some named) clock (Verify run f) Check x y = absurd (check_verify (sym y ∙ x.0))
task_one values (Some named) clock (Verify run f) Migrate x y = absurd (migrate_verify (sym y ∙ x.0))
task_one values (Some named) clock (Verify run f) (Verify other g) x y = ap₂ Verify (run_one values clock run other x.2 y.2) (format_one named.1 f g x.1 y.1)
task_one values (Some named) clock (Verify run f) (Run other asked) x y = absurd (no_verify asked (sym x.0 ∙ y.0.0))
task_one values (Some named) clock (Run run asked) (Verify other g) x y = absurd (no_verify asked (sym y.0 ∙ x.0.0))
task_one values (Some named) clock Check (GatherEvidence run wanted) x y = absurd (check_evidence (sym x ∙ y.0))
task_one values (Some named) clock Migrate (GatherEvidence run wanted) x y = absurd (migrate_evidence (sym x ∙ y.0))
task_one values (Some named) clock (Verify run f) (GatherEvidence other wanted) x y = absurd (verify_evidence (sym x.0 ∙ y.0))
task_one values (Some named) clock (GatherEvidence run wanted) Check x y = absurd (check_evidence (sym y ∙ x.0))
task_one values (Some named) clock (GatherEvidence run wanted) Migrate x y = absurd (migrate_evidence (sym y ∙ x.0))
task_one values (Some named) clock (GatherEvidence run wanted) (Verify other g) x y = absurd (verify_evidence (sym y.0 ∙ x.0))
task_one values (Some named) clock (GatherEvidence run wanted) (GatherEvidence other later) x y =
    ap₂ GatherEvidence (run_one values clock run other x.2 y.2) (wanted_one named.1 wanted later x.1 y.1)
task_one values (Some named) clock (GatherEvidence run wanted) (Run other asked) x y = absurd (no_evidence asked (sym x.0 ∙ y.0.0))
task_one values (Some named) clock (Run run asked) (GatherEvidence other wanted) x y = absurd (no_evidence asked (sym y.0 ∙ x.0.0))
task_one values (Some named) clock Check (Run run asked) x y = absurd (no_check asked (sym x ∙ y.0.0))
task_one values (Some named) clock (Run run asked) Check x y = absurd (no_check asked (sym y ∙ x.0.0))
task_one values (Some named) clock Check (Operate other later) x y = absurd (check_run (sym x ∙ y.0))
task_one values (Some named) clock Check Stop x y = absurd (check_stop (sym x ∙ y))
task_one values (Some named) clock Migrate (Operate other later) x y = absurd (migrate_run (sym x ∙ y.0))
task_one values (Some named) clock Migrate Stop x y = absurd (migrate_stop (sym x ∙ y))
task_one values (Some named) clock (Verify run f) (Operate other later) x y = absurd (verify_run (sym x.0 ∙ y.0))
task_one values (Some named) clock (Verify run f) Stop x y = absurd (verify_stop (sym x.0 ∙ y))
task_one values (Some named) clock (GatherEvidence run wanted) (Operate other later) x y = absurd (evidence_run (sym x.0 ∙ y.0))
task_one values (Some named) clock (GatherEvidence run wanted) Stop x y = absurd (evidence_stop (sym x.0 ∙ y))
task_one values (Some named) clock (Run run asked) (Operate other later) x y = absurd (no_run asked (sym y.0 ∙ x.0.0))
task_one values (Some named) clock (Run run asked) Stop x y = absurd (no_stop asked (sym y ∙ x.0.0))
task_one values (Some named) clock (Operate run station) Check x y = absurd (check_run (sym y ∙ x.0))
task_one values (Some named) clock (Operate run station) Migrate x y = absurd (migrate_run (sym y ∙ x.0))
task_one values (Some named) clock (Operate run station) (Verify other g) x y = absurd (verify_run (sym y.0 ∙ x.0))
task_one values (Some named) clock (Operate run station) (GatherEvidence other wanted) x y = absurd (evidence_run (sym y.0 ∙ x.0))
task_one values (Some named) clock (Operate run station) (Run other asked) x y = absurd (no_run asked (sym x.0 ∙ y.0.0))
task_one values (Some named) clock (Operate run station) (Operate other later) x y =
    ap₂ Operate (run_one values clock run other x.2 y.2) (operating_one values named.1 station later x.1 y.1)
task_one values (Some named) clock (Operate run station) Stop x y = absurd (run_stop (sym x.0 ∙ y))
task_one values (Some named) clock Stop Check x y = absurd (check_stop (sym y ∙ x))
task_one values (Some named) clock Stop Migrate x y = absurd (migrate_stop (sym y ∙ x))
task_one values (Some named) clock Stop (Verify other g) x y = absurd (verify_stop (sym y.0 ∙ x))
task_one values (Some named) clock Stop (GatherEvidence other wanted) x y = absurd (evidence_stop (sym y.0 ∙ x))
task_one values (Some named) clock Stop (Run other asked) x y = absurd (no_stop asked (sym x ∙ y.0.0))
task_one values (Some named) clock Stop (Operate other later) x y = absurd (run_stop (sym y.0 ∙ x))
task_one values (Some named) clock Stop Stop x y = refl
task_one values (Some named) clock (Run run asked) (Run other later) x y =
    ap₂ Run (run_one values clock run other x.1 y.1)
    (command_one values named.1 asked later (sym x.0.0 ∙ y.0.0) x.0.1 y.0.1)

-- so what holds of what was read holds of all that the words ask for
pub given_one : (words : List Text) (clock : Option ℕ) (path other store base : Text) (task later : Task) (P : Text → Text → Task → Type 0)
    → Gives words clock path store task → Gives words clock other base later → P path store task → P other base later
given_one words clock path other store base task later P x y p =
    subst (λ (t : Task). P other base t) (task_one (option_values words) (command_in words) clock task later x.given.asked y.given.asked)
    (subst (λ (b : Text). P other b task) (path_one _ store base x.given.records y.given.records)
    (subst (λ (t : Text). P t store task) (path_one _ path other x.given.agreements y.given.agreements) p))
