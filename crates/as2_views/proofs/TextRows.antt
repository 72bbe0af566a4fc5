-- Worked rows of the texts.
use Rattle.std.proofs.Common.{◌≡◌, ℕ, [], ◌∷◌, Option, Some, None, refl}
use Rattle.std.specs.Prelude.{codes, nat_le, replicate}
use Rattle.std.specs.Fmt.{digits}
use Rattle.as2_names.specs.Ascii.{space}
use Rattle.as2_mic.specs.declared.alg.Alg.TheVariants.{Sha1}
use Rattle.as2_mdn.specs.declared.detail.Detail.{Detail}
use Rattle.as2_mdn.specs.declared.detail.Detail.TheVariants.{New, Sending, Awaiting, Retry, Processed, Overdue}
use Rattle.as2_mdn.specs.declared.detail.DetailClass.TheVariants.{R, S}
use Rattle.as2_mdn.specs.declared.outcome.Outcome.TheVariants.{Processed as WasProcessed}
use Rattle.as2_exchange.specs.State.{LaterVersion, State, empty}
use Rattle.as2_exchange.specs.declared.attempt.Attempt.{Attempt}
use Rattle.as2_exchange.specs.declared.attempt.Attempt.TheVariants.{Idle, Running}
use Rattle.as2_exchange.specs.declared.inbox.ReceiptStage.TheVariants.{Pending}
use Rattle.as2_exchange.specs.declared.inbox.ReceiptDelivery.TheVariants.{Async}
use Rattle.as2_exchange.specs.declared.outbox.Evidence.{Evidence}
use Rattle.as2_exchange.specs.declared.outbox.OutEntry.{OutEntry}
use Rattle.as2_views.specs.Texts.{list_out, list_in, outstanding_text, show_text, fetch}

-- a document as it stands
abbrev standing : ℕ → ℕ → Attempt → Option ℕ → Detail → Option Evidence → OutEntry
standing n tries attempt due detail evidence =
    record {
      number = n;
      organization = codes "Supplier";
      partner = codes "Depot";
      id = codes "<out-1@station.example>";
      content = codes "abc";
      moment = 1000;
      begun = nat_le 1 tries;
      tries = tries;
      attempt = attempt;
      due = due;
      detail = detail;
      evidence = evidence;
    }

-- one that a receipt of 406 bytes has settled
after_settling : State
after_settling = record {
  version = LaterVersion 0;
  inbox = [];
  outbox = standing 1 1 Idle None Processed (Some (record { moment = 1000; content_type = codes "multipart/report"; body = replicate 406 space })) ∷ [];
  next_in = 1;
  next_out = 2;
}

list_and_show : (list_out after_settling None ≡ codes "           1 S  1 R processed        Supplier -> Depot\n")
    × (show_text after_settling 1 ≡ Some
    (codes "number: 1\nstate: S processed\ntries: 1\ndue: -\nfrom: Supplier\nto: Depot\nidentifier: <out-1@station.example>\ncontent: 3 bytes\nreceipt: R at 1000, 406 bytes\n"))
    × (show_text after_settling 2 ≡ None)
unfolding after_settling digits
list_and_show = (refl, refl, refl)

nothing_outstanding : outstanding_text
    (empty (LaterVersion 0) 1) 1000 ≡ codes "documents not sent: 0\ndocuments in retry: 0\nreceipts awaited: 0\ndocuments in error: 0\nreceipts to send: 0\n"
unfolding digits
nothing_outstanding = refl

-- a new document, one in retry, one awaited, one overdue and one whose first try is open
under_way : State
under_way = record {
  version = LaterVersion 0;
  inbox = [];
  outbox = standing 1 0 Idle (Some 1000) New None ∷ standing 2 1 Idle (Some 1030) Retry None ∷ standing 3 1 Idle
      (Some 1060) Awaiting None ∷ standing 4 1 Idle None Overdue None ∷ standing 5 1 Running (Some 1031) Sending None ∷ [];
  next_in = 1;
  next_out = 6;
}

-- at 1030 the third isn't due yet, and the fourth and fifth wait for nothing or for later
outstanding_at_1030 : outstanding_text under_way 1030 ≡ codes "documents not sent: 1\ndocuments in retry: 2\nreceipts awaited: 1\ndocuments in error: 1\nreceipts to send: 0\n           1 P  0 - new              Supplier -> Depot\n           2 R  1 - retry            Supplier -> Depot\n"
unfolding under_way digits
outstanding_at_1030 = refl

-- the documents of one state, in order of number; and one document that is due
listed_by_state : (list_out under_way
    (Some R) ≡ codes "           2 R  1 - retry            Supplier -> Depot\n           5 R  1 - sending          Supplier -> Depot\n")
    × (list_out under_way (Some S) ≡ [])
    × (show_text under_way 3 ≡ Some
    (codes "number: 3\nstate: P awaiting\ntries: 1\ndue: 1060\nfrom: Supplier\nto: Depot\nidentifier: <out-1@station.example>\ncontent: 3 bytes\nreceipt: -\n"))
unfolding under_way digits
listed_by_state = (refl, refl, refl)

-- a document that was posted, whose receipt is to be sent later
after_a_post : State
after_a_post = record {
  version = LaterVersion 0;
  inbox =
      record {
        number = 1;
        posted = record {
          sender = codes "Depot";
          receiver = codes "Supplier";
          id = codes "<m1@x>";
          content_type = codes "application/edi-x12";
          content = codes "abc";
          outcome = WasProcessed;
          how = Async (codes "http://127.0.0.1:8082/mdn");
          mic =
              Some (record { digest = Sha1; text = codes "qZk+NkcGgWq6PiVxeFDCbJzQ2J0=" });
        };
        moment = 1000;
        receipt_stage = Pending;
        tries = 0;
        attempt = Idle;
        due = Some 1000;
      }
      ∷ [];
  outbox = [];
  next_in = 2;
  next_out = 1;
}

-- the inbox, and the content of its entry
received_is_listed : (list_in after_a_post ≡ codes "           1 S P Depot -> Supplier <m1@x>\n")
    × (fetch after_a_post 1 ≡ Some (codes "abc"))
    × (fetch after_a_post 2 ≡ None)
unfolding after_a_post digits
received_is_listed = (refl, refl, refl)
