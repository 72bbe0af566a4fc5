-- Documents to a partner: taken in, tried, settled by a receipt, given up as time goes by, sent anew (RFC 4130, sections 5 to 7;
-- tries and moments are this station's own rules).
use Rattle.std.specs.Prelude.{ℕ, ◌+◌, Bool, true, false, ◌&&◌, ◌||◌, not, [], ◌∷◌, ◌++◌, map, length, Option, Some, None, option_and_then, is_some, nat_lt, nat_le, count_by, if◌then◌else◌}
use Rattle.as2_mdn.specs.Details.{class_of}
use Rattle.as2_mdn.specs.declared.detail.DetailClass.{DetailClass}
use Rattle.as2_mdn.specs.declared.detail.DetailClass.TheVariants.{E}
use Rattle.as2_exchange.specs.Agreement.{Text, Agreements, Partner, Asked, NoReceipt, Sync, Async, is_organization, partner_of}
use Rattle.as2_exchange.specs.Detail.{Detail, New, Sending, Awaiting, Retry, NoReceiptAsked, TriesUsed, Overdue, Attempt, Idle, Running, Last}
use Rattle.as2_exchange.specs.Readings.{named_by, verdict, out_id, document_job}
use Rattle.as2_exchange.specs.State.{Evidence, OutEntry, State, Digests, content_limit, end_of_numbers, document_named, change_document, is_settled}
use Rattle.as2_exchange.specs.Events.{TryAnswer, UnknownOrganization, UnknownPartner, NotDue, AllSettled, NoOpenTry, TriesUsedUp, TooLarge, NoSuchMessage, Nothing, Answer, Http, Submitted, Job, Settled, Delivered, TryFailed, AlreadySettled, Resent, Ticked, Refused}
use Rattle.as2_exchange.specs.Lines.{http, refusal}
use Rattle.as2_exchange.specs.Posts.{ReceivedReceipt}
use Rattle.as2_exchange.specs.Receipts.{bears, receipt_in_answer, is_delivery, evidence_of}
use Rattle.as2_exchange.specs.Tries.{where_agreed, is_early, is_due, is_last, is_idle}

-- the document once a receipt has settled it by this detail, which closes an open try
abbrev pub settled_as : Detail → Evidence → OutEntry → OutEntry
settled_as detail evidence d = record d { attempt = Idle; due = None; detail = detail; evidence = Some evidence }

-- the document once this receipt has settled it
abbrev pub settled_document : ℕ → ReceivedReceipt → OutEntry → OutEntry
settled_document m r d = settled_as (verdict r.known r.receipt d.content) (evidence_of m r) d

-- it is waiting for what no try can bring
abbrev pub waits : Detail → Bool
waits Awaiting = true
waits Overdue = true
waits NoReceiptAsked = true
waits other = false

-- a try of a document begins
unfoldable pub begun_document : Agreements → ℕ → OutEntry → Answer × OutEntry
begun_document A m d =
    where_agreed A d.organization d.partner d λ p.
    if is_settled d then (Refused AllSettled, d)
    else if nat_le p.max_tries d.tries then (Refused TriesUsedUp, d)
    else if waits d.detail || is_early m d.due then (Refused NotDue, d)
    else (
      Job (document_job A p d.organization d.id d.content),
      record d {
        begun = true;
        tries = d.tries + 1;
        attempt = if nat_le p.max_tries (d.tries + 1) then Last else Running;
        due = Some (m + p.retry_seconds);
        detail = Sending;
      },
    )

-- the document after a try that failed
abbrev pub failed_try : Partner → ℕ → OutEntry → Answer × OutEntry
failed_try p m d =
    if is_last d.attempt
    then (TryFailed, record d { attempt = Idle; due = None; detail = TriesUsed })
    else (TryFailed, record d { attempt = Idle; due = Some (m + p.retry_seconds); detail = Retry })

-- the document after an answer of success that brought no receipt for it
abbrev pub delivered_document : Asked → Partner → ℕ → OutEntry → Answer × OutEntry
delivered_document Async p m d = (Delivered, record d { attempt = Idle; due = Some (m + p.overdue_seconds); detail = Awaiting })
delivered_document NoReceipt p m d = (Delivered, record d { attempt = Idle; due = None; detail = NoReceiptAsked })
delivered_document Sync p m d = failed_try p m d

-- the receipt, where it is for this document
abbrev pub if_for : OutEntry → ReceivedReceipt → Option ReceivedReceipt
if_for d r = if bears r d.organization d.partner d.id then Some r else None

-- the receipt for it that came closes the open try; else the answer does
abbrev pub closed_by : Partner → TryAnswer → ℕ → OutEntry → Option ReceivedReceipt → Answer × OutEntry
closed_by p got m d (Some r) = (Settled (verdict r.known r.receipt d.content), settled_document m r d)
closed_by p got m d None = if is_delivery got then delivered_document p.receipt p m d else failed_try p m d

-- the outcome of a document's try, where these digests are known
unfoldable pub closed_document : Agreements → Digests → TryAnswer → ℕ → OutEntry → Answer × OutEntry
closed_document A known answer m d =
    where_agreed A d.organization d.partner d λ p.
    if is_settled d then (AlreadySettled, d)
    else if is_idle d.attempt then (Refused NoOpenTry, d)
    else closed_by p answer m d (option_and_then (if_for d) (receipt_in_answer known answer))

-- the state is E
abbrev pub is_error : DetailClass → Bool
is_error E = true
is_error other = false

-- the document, to be sent from this moment on, with all tries left; once begun, it stays so
abbrev pub queued_anew : ℕ → OutEntry → OutEntry
queued_anew m d = record d { tries = 0; attempt = Idle; due = Some m; detail = New }

-- a document that failed is to be sent anew
unfoldable pub resent_document : Agreements → ℕ → OutEntry → Answer × OutEntry
resent_document A m d =
    where_agreed A d.organization d.partner d λ p.
    if is_settled d then (Refused AllSettled, d)
    else if not (is_error (class_of d.detail)) then (Refused NotDue, d)
    else (Resent, queued_anew m d)

-- what a document that is due passes into as time goes by
abbrev pub passes_into : Detail → Attempt → Option Detail
passes_into Awaiting attempt = Some Overdue
passes_into Sending Last = Some TriesUsed
passes_into detail attempt = None

-- and at this moment, where it is due
abbrev pub passes_at : ℕ → OutEntry → Option Detail
passes_at m d = if is_due m d.due then passes_into d.detail d.attempt else None

-- the document as it passes into another detail; the attempt stays, so that a late outcome is still taken
abbrev pub passed_document : OutEntry → Option Detail → OutEntry
passed_document d None = d
passed_document d (Some detail) = record d { due = None; detail = detail }

-- each document as time goes by, and how many pass into another detail
unfoldable pub tick : ℕ → State → Answer × State
tick m s = (Ticked (count_by (λ d. is_some (passes_at m d)) s.outbox), record s { outbox = map (λ d. passed_document d (passes_at m d)) s.outbox })

-- a receipt that was posted settles its document, if that was begun and nothing has settled it
abbrev pub settle_for : State → ℕ → ReceivedReceipt → Option OutEntry → Answer × State
settle_for s m r None = (Http (refusal NoSuchMessage), s)
settle_for s m r (Some d) =
    if not (bears r d.organization d.partner d.id && d.begun) then (Http (refusal NoSuchMessage), s)
    else (http 200 Nothing, if is_settled d then s else change_document s d.number (settled_document m r))

-- the document whose identifier the receipt names, if there is one
unfoldable pub settle : State → ℕ → ReceivedReceipt → Answer × State
settle s m r = settle_for s m r (document_named s (named_by r.receipt))

-- a document as it is taken in
abbrev pub new_document : Agreements → ℕ → Text → Text → Text → ℕ → OutEntry
new_document A n organization partner content m =
    record {
      number = n;
      organization = organization;
      partner = partner;
      id = out_id A n;
      content = content;
      moment = m;
      begun = false;
      tries = 0;
      attempt = Idle;
      due = Some m;
      detail = New;
      evidence = None;
    }

-- a document is taken in, under the next number; none is left: nothing
unfoldable pub submit : Agreements → State → Text → Text → Text → ℕ → Option (Answer × State)
submit A s organization partner content m =
    if not (is_organization A organization) then Some (Refused UnknownOrganization, s)
    else if not (is_some (partner_of A partner)) then Some (Refused UnknownPartner, s)
    else if nat_lt content_limit (length content) then Some (Refused TooLarge, s)
    else if nat_le end_of_numbers s.next_out then None
    else Some (
      Submitted s.next_out,
      record s { outbox = s.outbox ++ new_document A s.next_out organization partner content m ∷ []; next_out = s.next_out + 1 },
    )
