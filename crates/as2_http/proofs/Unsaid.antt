-- What a request gets, with nothing said of what a crash leaves.
use Rattle.std.proofs.Common.{ℕ}
use Rattle.as2_agreement.specs.Agreements.{AgreedValues}
use Rattle.as2_exchange.specs.State.{State}
use Rattle.as2_http.specs.Responses.{RespondsTo, Responds, RespondsToPost, Unsaid}
use Rattle.as2_messages.specs.declared.request.Request.{Request}
use Rattle.as2_messages.specs.declared.framing.Method.{Method}
use Rattle.as2_messages.specs.declared.framing.Method.TheVariants.{Post, Head, Other as OtherMethod}
use Rattle.as2_messages.specs.declared.framing.Target.{Target}
use Rattle.as2_messages.specs.declared.framing.Target.TheVariants.{Station, Other as OtherTarget}
use Rattle.as2_http.specs.declared.response.Response.{Response}
use Rattle.as2_http.specs.declared.response.Response.TheVariants.{Answered, Failed, OnlyPost, NoPath}

takes_unsaid : (A : AgreedValues) (moment : ℕ) (s : State) (r : Request) (x : Response) (Safe : State → Type 0) (t : State)
    → RespondsToPost A moment s r x Safe t
    → RespondsToPost A moment s r x Unsaid t
takes_unsaid A moment s r (Answered a) Safe t p = (p.0, λ asks. tt)
takes_unsaid A moment s r (Failed f) Safe t p = p
takes_unsaid A moment s r OnlyPost Safe t p = p
takes_unsaid A moment s r NoPath Safe t p = p

unsaid_by : (A : AgreedValues) (moment : ℕ) (s : State) (r : Request) (m : Method) (at : Target) (x : Response) (Safe : State → Type 0) (t : State)
    → RespondsTo A moment m at s r x Safe t → RespondsTo A moment m at s r x Unsaid t
unsaid_by A moment s r Post Station x Safe t p = takes_unsaid A moment s r x Safe t p
unsaid_by A moment s r Post OtherTarget x Safe t p = p
unsaid_by A moment s r Head at x Safe t p = p
unsaid_by A moment s r OtherMethod at x Safe t p = p

pub responds_unsaid : (A : AgreedValues) (moment : ℕ) (s : State) (r : Request) (x : Response) (Safe : State → Type 0) (t : State)
    → Responds A moment s r x Safe t → Responds A moment s r x Unsaid t
responds_unsaid A moment s r x Safe t p = unsaid_by A moment s r r.method r.target x Safe t p
