-- What goes over a network: connections that are served, and links to partners.
use Rattle.std.specs.Prelude.{◌≡◌, ℕ, List, [], ◌∷◌, Option}
use Rattle.as2_agreement.specs.Agreements.{AgreedValues}
use Rattle.as2_commands.specs.Requests.{GivenServing}
use Rattle.as2_commands.specs.declared.tasks.Waits.{Waits}
use Rattle.as2_exchange.specs.Run.{Trace}
use Rattle.as2_exchange.specs.State.{State}
use Rattle.as2_http.specs.declared.stream.Served.{Served}
use Rattle.as2_sending.specs.Exchanges.{Exchange, Exchanges}
use Rattle.as2_sending.specs.declared.links.Links.{Ghosts as LinkGhosts}
use Rattle.as2_host.specs.Serving.{ServesOne}
use Rattle.as2_host.specs.declared.network.Listens.{Ghosts as Listeners}
use Rattle.as2_host.specs.declared.network.Network.{Ghosts as Networks}

-- what came of asking a network once, for a listener
pub record ListenerSeen : Type 1 where
  -- it gave none
  pub Refused : Type 0
  -- it gave one, and got it back as it had been
  pub Opened : Type 0
  -- It gave one that is bound to that address. Connections of that one ended so, one after the other, and the network got it back
  -- as it was then.
  pub Awaited : List ℕ → List Served → Type 0
  -- .. and the posts that they brought led the machine from the one state to the other
  pub Led : List ℕ → List Served → State → State → Type 0

-- connections of a listener, each asked for that moment, where one is given
module _ {Listener : Type 0} (ended : Listener → Option ℕ → Trace → Served → Listener → Type 0) (given : Option ℕ) where
  -- they ended so, one after the other, and the listener was touched otherwise by nothing
  abbrev pub EndsEach : Listener → List Served → Listener → Type 0
  EndsEach l [] m = m ≡ l
  EndsEach l (end ∷ more) m = (k : Listener) × ((trace : Trace) × ended l given trace end k) × EndsEach k more m

  -- .. and the posts that each brought led the machine on, from s to t in all
  abbrev pub ServesEach : AgreedValues → List Served → Listener → State → Listener → State → Type 0
  ServesEach A [] l s m t = (m ≡ l) × (t ≡ s)
  ServesEach A (end ∷ more) l s m t = (k : Listener) × (u : State) × ServesOne A given (λ trace. ended l given trace end k) s u × ServesEach A more k u m t

module _ {Network Listener Links : Type 0} (n : Networks Network Listener Links) where
  -- Of a network that was `old` and is `new`: it was asked once, for a listener where the words say, with their waits, and was
  -- given that back.
  abbrev pub listening_of : Listeners Listener → Network → Network → AgreedValues → GivenServing → ListenerSeen
  listening_of l old new A serving = record {
    Refused = n.refuses old serving.address serving.waits new;
    Opened = (first : Listener) × (mid : Network) × n.listens old serving.address serving.waits first mid × n.stops mid first new;
    Awaited = λ address ends. (first : Listener) × (last : Listener) × (mid : Network) × n.listens old serving.address serving.waits first mid
        × (address ≡ l.bound first) × EndsEach l.ended serving.moment first ends last × n.stops mid last new;
    Led = λ address ends s t. (first : Listener) × (last : Listener) × (mid : Network) × n.listens old serving.address serving.waits first mid
        × (address ≡ l.bound first) × ServesEach l.ended serving.moment A ends first s last t × n.stops mid last new;
  }

  -- Of a network that was `old` and is `new`: it was asked once, for links that are opened with these waits. They gave these
  -- exchanges, and it was given them back.
  abbrev pub ExchangedOver : LinkGhosts Links → Network → Network → Waits → List Exchange → Type 0
  ExchangedOver l old new waits made = (first : Links) × (last : Links) × (mid : Network) × n.opens old waits first mid × Exchanges l.answers first made last × n.closes mid last new
