-- What the readers of a request answer.
use Rattle.std.specs.Prelude.{◌≡◌, ℕ, List}
use Rattle.httparse.specs.Grammar.{RequestHead}
use Rattle.as2_messages.specs.Requests.{IsHead, method_of, target_of, body_framing, is_last_request}
use Rattle.as2_messages.specs.declared.request.Judged.{Judged}

-- the bytes are a head, and that is what it says
pub record Judges (text : List ℕ) (j : Judged) : Type 0 where
  pub head : RequestHead
  pub reads : IsHead text head j.fields
  pub method : j.method ≡ method_of head.method
  pub target : j.target ≡ target_of head.target
  pub framing : body_framing head.minor j.method j.fields ≡ j.framing
  pub last : j.last ≡ is_last_request head.minor j.fields
