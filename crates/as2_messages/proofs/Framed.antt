-- What the bytes so far determine, a request or a refusal, stays so when more bytes come.
use Rattle.std.proofs.Common.{ℕ, ◌≤◌, List, ◌++◌, length, Result, Ok, Err, arith}
use Rattle.std.proofs.lemmas.List.{take-append-le, length-append}
use Rattle.httparse.specs.Grammar.{RequestHead}
use Rattle.as2_framing.specs.HeadText.{HasNoHeadText, head_limit}
use Rattle.as2_framing.specs.declared.body.BodyFraming.{BodyFraming}
use Rattle.as2_framing.proofs.Bodies.{bad_body_append, body_append, large_body_append}
use Rattle.as2_messages.specs.Framing.{IsFaultyBody}
use Rattle.as2_messages.specs.Requests.{Fields, Frames, BeginsRequest, BeginsNoRequest, too_long, no_head, framing, faulty_body}
use Rattle.as2_messages.specs.declared.framing.RequestFault.TheVariants.{BadHead, TransferCoding, BadLength, BadChunk, TooLarge, NoLength}
use Rattle.as2_messages.specs.declared.request.Request.{Request}
use Rattle.as2_messages.specs.declared.framing.RequestFault.{RequestFault}
use Rattle.as2_messages.specs.declared.framing.Refused.{Refused}
use Rattle.as2_framing.proofs.Heads.{head_append}

pub frames_append : (text more : List ℕ) (head : RequestHead) (fields : Fields) (after : List ℕ) (framed : Result BodyFraming RequestFault)
    → Frames text head fields after framed → Frames (text ++ more) head fields (after ++ more) framed
frames_append text more head fields after framed f = record {
  bytes = f.bytes;
  found = head_append text more f.bytes after f.found;
  reads = f.reads;
  framed = f.framed;
}

pub begins_append : (text more : List ℕ) (r : Request) (rest : List ℕ) → BeginsRequest text r rest → BeginsRequest (text ++ more) r (rest ++ more)
begins_append text more r rest b = record {
  head = b.head;
  after = b.after ++ more;
  how = b.how;
  frames = frames_append text more b.head r.fields b.after (Ok b.how) b.frames;
  begins = body_append b.how b.after r.body rest more b.begins;
  method = b.method;
  target = b.target;
  last = b.last;
}

-- a text that is long enough for a head has one exactly where each longer text has
window_full : (text more : List ℕ) → head_limit ≤ length text → HasNoHeadText text → HasNoHeadText (text ++ more)
window_full text more le h = rw (take-append-le head_limit text more le) h

pub faulty_append : (how : BodyFraming) (text more : List ℕ) (reason : RequestFault) → IsFaultyBody how text reason → IsFaultyBody how (text ++ more) reason
faulty_append how text more BadChunk f = bad_body_append how text more f
faulty_append how text more TooLarge f = large_body_append how text more f
faulty_append how text more BadHead f = absurd f
faulty_append how text more TransferCoding f = absurd f
faulty_append how text more BadLength f = absurd f
faulty_append how text more NoLength f = absurd f

pub refuses_append : (text more : List ℕ) (refused : Refused) → BeginsNoRequest text refused → BeginsNoRequest (text ++ more) refused
refuses_append text more refused (too_long none long is) = too_long (window_full text more long none) (omega (arith, long, length-append text more)) is
refuses_append text more refused (no_head bytes after found never is) = no_head bytes (after ++ more) (head_append text more bytes after found) never is
refuses_append text more refused (framing head fields after frames is) =
    framing head fields (after ++ more) (frames_append text more head fields after (Err refused.reason) frames) is
refuses_append text more refused (faulty_body head fields after how frames faulty is) =
    faulty_body head fields (after ++ more) how (frames_append text more head fields after (Ok how) frames)
    (faulty_append how after more refused.reason faulty) is
