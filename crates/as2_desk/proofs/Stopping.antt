-- A fault of the store that ended the work, said of the task.
use Rattle.std.proofs.Common.{◌≡◌, ◌⊎◌, inl, inr, List, ℕ, Result, Ok, Err, subst}
use Rattle.as2_commands.specs.Requests.{GivenSubmission}
use Rattle.as2_commands.specs.declared.tasks.Command.{Command}
use Rattle.as2_commands.specs.declared.tasks.Command.TheVariants as command
use Rattle.as2_commands.specs.declared.tasks.RunOptions.{RunOptions}
use Rattle.as2_commands.specs.declared.tasks.Task.TheVariants.{Run}
use Rattle.as2_host.specs.FileContents.{Content}
use Rattle.as2_desk.specs.Observed.{Input}
use Rattle.as2_desk.specs.Questions.{QuestionInHand}
use Rattle.as2_desk.specs.Runs.{IsSending, IsServing}
use Rattle.as2_desk.specs.Stops.{StopsAtFault}
use Rattle.as2_desk.specs.Works.{IsWork, SendsWork, ServesWork, begin_question}
use Rattle.as2_desk.specs.Written.{WriterSeen}
use Rattle.as2_desk.specs.declared.refusal.CommandFault.{CommandFault}
use Rattle.as2_desk.specs.declared.status.Ran.{Ran}
use Rattle.as2_desk.specs.declared.work.Work.{Work}
use Rattle.as2_desk.specs.declared.work.Work.TheVariants.{At}

either : {P A B C D : Type 0} → (A → C) → (B → D) → P ⊎ (A ⊎ B) → P ⊎ (C ⊎ D)
either f g (inl p) = inl p
either f g (inr (inl a)) = inr (inl (f a))
either f g (inr (inr b)) = inr (inr (g b))

behind : {P B D Q : Type 0} → (B → D) → P ⊎ (B × Q) → P ⊎ (D × Q)
behind g (inl p) = inl p
behind g (inr both) = inr (g both.0, both.1)

-- what sends or serves may be said in other words
pub stopped_by : {A B C D : Type 0} (input : Input) (output errors : WriterSeen) (ran : Ran) → (A → C) → (B → D) → StopsAtFault A B input output errors ran
    → StopsAtFault C D input output errors ran
stopped_by input output errors ran sends serves it = (it.0, either sends serves it.1, behind serves it.2)

no_question : (K : Work → Type 0) → ((asked : QuestionInHand) → K (At (command.Ask asked)) → ⊥) → (work : Work) (asked : Result QuestionInHand CommandFault)
    → Ok work ≡ begin_question asked → K work → ⊥
no_question K none work (Ok asked) is kind = let same : work ≡ At (command.Ask asked) = cc in none asked (subst K same kind)
no_question K none work (Err refusal) is kind = absurd cc

-- work that sends is that of a task to send
pub sends_task : (contents : List ℕ → Content) (run : RunOptions) (c : Command GivenSubmission) (work : Work) → IsWork contents c (Ok work) → SendsWork work
    → IsSending (Run run c)
sends_task contents run (command.Post logs) work is kind = let same : work ≡ At (command.Post logs) = cc in absurd (subst SendsWork same kind)
sends_task contents run (command.Ask q) work is kind = absurd (no_question SendsWork (λ asked it. it) work is.0 is.2 kind)
sends_task contents run (command.Send waits) work is kind = tt
sends_task contents run (command.Serve serving) work is kind = let same : work ≡ At (command.Serve serving) = cc in absurd (subst SendsWork same kind)

-- .. and work that serves that of one to serve
pub serves_task : (contents : List ℕ → Content) (run : RunOptions) (c : Command GivenSubmission) (work : Work) → IsWork contents c (Ok work) → ServesWork work
    → IsServing (Run run c)
serves_task contents run (command.Post logs) work is kind = let same : work ≡ At (command.Post logs) = cc in absurd (subst ServesWork same kind)
serves_task contents run (command.Ask q) work is kind = absurd (no_question ServesWork (λ asked it. it) work is.0 is.2 kind)
serves_task contents run (command.Send waits) work is kind = let same : work ≡ At (command.Send waits) = cc in absurd (subst ServesWork same kind)
serves_task contents run (command.Serve serving) work is kind = tt
