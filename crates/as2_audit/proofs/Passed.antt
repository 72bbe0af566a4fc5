-- Nothing is found of a document that stands as successful: then it is confirmed.
use Rattle.std.proofs.Common.{◌≡◌, ◌||◌, ◌&&◌, Bool, true, false, not, Option, Some, None, refl, subst, is_some, if◌then◌else◌, nat_le, bytes_eq}
use Rattle.std.proofs.lemmas.Slice.Eq.{bytes_eq-Decides}
use Rattle.as2_mic.specs.Algs.{AllDigests}
use Rattle.as2_mdn.proofs.Confirming.{confirmed}
use Rattle.as2_mdn.specs.Receipts.{Unreadable}
use Rattle.as2_mdn.specs.declared.detail.Detail.{Detail}
use Rattle.as2_mdn.specs.declared.detail.Detail.TheVariants as detail
use Rattle.as2_exchange.specs.Agreement.{Text}
use Rattle.as2_exchange.specs.Invariants.{is_by_receipt}
use Rattle.as2_exchange.specs.Readings.{Receipt, named_by, value_of, verdict}
use Rattle.as2_exchange.specs.declared.outbox.Evidence.{Evidence}
use Rattle.as2_exchange.specs.declared.outbox.OutEntry.{OutEntry}
use Rattle.as2_exchange.specs.Tries.{is_idle}
use Rattle.as2_audit.specs.Faults.{gives, is_by_late, is_detail, kept_receipt, receipt_fault, sent_fault, settled_fault}
use Rattle.as2_audit.specs.Laws.{HasConfirmingReceipt}
use Rattle.as2_audit.specs.declared.fault.Fault.{Fault}
use Rattle.as2_audit.specs.declared.fault.Fault.TheVariants.{NoReceipt, StrayReceipt, StillWaits, NeverBegun, ReceiptOfAnother, DetailDiffers}

-- nothing is found: so not this, and nothing behind it
behind : (b : Bool) (f : Fault) (x : Option Fault) → (if b then Some f else x) ≡ None → x ≡ None
behind true f x is = cc
behind false f x is = is

holds : (b : Bool) (f : Fault) (x : Option Fault) → (if not b then Some f else x) ≡ None → b ≡ true
holds true f x is = refl
holds false f x is = cc

-- one name, one detail
one_name : (x : Detail) → is_detail x detail.Processed ≡ true → x ≡ detail.Processed
one_name detail.New is = cc
one_name detail.Sending is = cc
one_name detail.Awaiting is = cc
one_name detail.Retry is = cc
one_name detail.Processed is = refl
one_name detail.NoReceiptAsked is = cc
one_name detail.Warning is = cc
one_name detail.NoMic is = cc
one_name detail.UnknownMic is = cc
one_name detail.NotProcessed is = cc
one_name detail.ErrorModifier is = cc
one_name detail.MicDiffers is = cc
one_name detail.TriesUsed is = cc
one_name detail.Overdue is = cc

-- a receipt whose MIC can't be read confirms nothing
unconfirmed : (r : Receipt) (content : Text) → verdict AllDigests (record r { mic = Unreadable }) content ≡ detail.Processed → ⊥
unfolding verdict
unconfirmed r content is = let given = ((confirmed AllDigests (record r { mic = Unreadable }) content).0 is).given in cc

either : (a m b : Bool) → (a || (m && b)) ≡ true → (b ≡ true → ⊥) → a ≡ true
either true m b is never = refl
either false true b is never = absurd (never is)
either false false b is never = cc

given_success : (migrated : Bool) (r : Receipt) (content : Text) → gives migrated r content detail.Processed ≡ true
    → verdict AllDigests r content ≡ detail.Processed
given_success migrated r content is =
    one_name (verdict AllDigests r content)
    (either (is_detail (verdict AllDigests r content) detail.Processed) (migrated && is_by_late r.mic)
    (is_detail (verdict AllDigests (record r { mic = Unreadable }) content) detail.Processed) is
    (λ other. unconfirmed r content (one_name _ other)))

module _ (migrated : Bool) (d : OutEntry) (success : d.detail ≡ detail.Processed) where
  read_one : (e : Evidence) → d.evidence ≡ Some e → (r : Option Receipt) → kept_receipt e ≡ r → receipt_fault migrated d r ≡ None → HasConfirmingReceipt d
  unfolding verdict
  read_one e kept None read is = cc
  read_one e kept (Some r) read is =
      let rest = behind (not (bytes_eq (named_by r) (value_of d.id))) ReceiptOfAnother
      (if not (gives migrated r d.content d.detail) then Some DetailDiffers else None) is in
      let given : gives migrated r d.content detail.Processed ≡ true =
      subst (λ (x : Detail). gives migrated r d.content x ≡ true) success (holds (gives migrated r d.content d.detail) DetailDiffers None rest) in
      record {
        evidence = e;
        kept = kept;
        receipt = r;
        read = read;
        names = (bytes_eq-Decides (named_by r) (value_of d.id)).0
            (holds (bytes_eq (named_by r) (value_of d.id)) ReceiptOfAnother
            (if not (gives migrated r d.content d.detail) then Some DetailDiffers else None) is);
        confirms = (confirmed AllDigests r d.content).0 (given_success migrated r d.content given);
      }

  settled_one : (o : Option Evidence) → d.evidence ≡ o → settled_fault migrated d o ≡ None → HasConfirmingReceipt d
  settled_one None kept is =
      let none : (if is_by_receipt detail.Processed then Some NoReceipt else None) ≡ None =
      subst (λ (x : Detail). (if is_by_receipt x then Some NoReceipt else None) ≡ None) success is in cc
  settled_one (Some e) kept is =
      read_one e kept (kept_receipt e) refl
      (behind (not (is_idle d.attempt) || is_some d.due) StillWaits (receipt_fault migrated d (kept_receipt e))
      (behind (not (is_by_receipt d.detail)) StrayReceipt
      (if not (is_idle d.attempt) || is_some d.due then Some StillWaits else receipt_fault migrated d (kept_receipt e)) is))

pub passed : (migrated : Bool) (d : OutEntry) → sent_fault migrated d ≡ None → d.detail ≡ detail.Processed → HasConfirmingReceipt d
passed migrated d is success =
    settled_one migrated d success d.evidence refl (behind (nat_le 1 d.tries && not d.begun) NeverBegun (settled_fault migrated d d.evidence) is)
