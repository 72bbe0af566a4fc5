-- What may help whoever looks on, a line each.
use Rattle.std.specs.Prelude.{ℕ, List, [], ◌++◌, ◌==◌, Bool, codes, decimal, true, if◌then◌else◌}
use Rattle.as2_commands.specs.declared.tasks.Command.{Command}
use Rattle.as2_commands.specs.declared.tasks.Command.TheVariants.{Ask}
use Rattle.as2_commands.specs.declared.tasks.Question.TheVariants.{List as Listing}
use Rattle.as2_commands.specs.Requests.{GivenSubmission}
use Rattle.as2_desk.specs.Escapes.{escaped_text}

-- what is given and not looked at: a state, where what was received is listed
abbrev pub idle_hint : Command GivenSubmission → List ℕ
idle_hint (Ask (Listing filter true format)) = codes "hint: 'list in' doesn't look at --state\n"
idle_hint other = []

-- which file can't be read
abbrev pub file_hint : List ℕ → List ℕ
file_hint path = codes "hint: file \"" ++ (escaped_text path ++ codes "\"\n")

abbrev pub file_hint_if : Bool → List ℕ → List ℕ
file_hint_if unread path = if unread then file_hint path else []

-- how many replies had status 503, where one had
abbrev pub busy_hint : ℕ → List ℕ
busy_hint count = if count == 0 then [] else codes "hint: replies with status 503: " ++ (decimal count ++ codes "\n")

-- how many documents were refused by that limit, where one was
abbrev pub limit_hint : ℕ → ℕ → List ℕ
limit_hint count limit =
    if count == 0 then []
    else codes "hint: documents refused by --store-limit " ++ (decimal limit ++ (codes ": " ++ (decimal count ++ codes "\n")))
