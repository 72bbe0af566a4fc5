-- Each object that is listed is read back from its text.
use Rattle.std.proofs.Common.{◌≡◌, ℕ, ◌≤◌, Bool, List, Option, Some, None, length, true, refl, arith}
use Rattle.std.specs.Prelude.{IfSome, IsUtf8}
use Rattle.json.specs.Tree.{depth, HasNumbers}
use Rattle.json.proofs.Printed.Decimals.{IsNumber-decimal}
use Rattle.json.proofs.Printed.Utf8.{are_ascii, IsUtf8-are_ascii}
use Rattle.serde_json.specs.Read.{of_json}
use Rattle.serde_json.specs.Written.{outline}
use Rattle.serde_json.proofs.Numbers.{number_of-decimal}
use Rattle.as2_mdn.specs.Details.{class_of}
use Rattle.as2_exchange.specs.declared.outbox.Evidence.{Evidence}
use Rattle.as2_exchange.specs.declared.outbox.OutEntry.{OutEntry}
use Rattle.as2_records.specs.declared.counts.Counts.{Counts}
use Rattle.as2_records.specs.declared.summaries.InRow.{InRow}
use Rattle.as2_records.specs.declared.summaries.OutRow.{OutRow}
use Rattle.as2_audit.specs.declared.findings.Finding.{Finding}
use Rattle.as2_json.specs.Lines.{ReadsBack}
use Rattle.as2_json.specs.Objects.{counts_object, document_object, due_value, finding_object, in_object, out_object, receipt_value, verified_object}
use Rattle.as2_json.specs.Types.{AreCounts, FitsNumber, IsDocument, IsInRow, IsOutRow, IsReceipt}
use Rattle.as2_json.proofs.Encoded.{HasTexts, IsUtf8-decimal}
use Rattle.as2_json.proofs.Named.{box_utf8, detail_utf8, fault_utf8, id_utf8, name_utf8, receipt_utf8, state_utf8}
use Rattle.as2_json.proofs.Reading.{back}

-- a literal
word : (w : List ℕ) → are_ascii w ≡ true → IsUtf8 w
word = IsUtf8-are_ascii

-- a member of an object, whose name is a literal, before the others
named : {w : List ℕ} {Value Others : Type 0} → are_ascii w ≡ true → Value → Others → IsUtf8 w × (Value × Others)
named is value others = (word _ is, (value, others))

-- ---- listings

pub out_back : (is_settled : Bool) (r : OutRow) → IsOutRow r → ReadsBack (out_object is_settled r)
out_back is_settled r h = back _ (record {
  known = rw (number_of-decimal r.number h.number, number_of-decimal r.tries h.tries);
  numerals = (tt, (tt, (tt, (tt, (IsNumber-decimal r.number h.number, (tt, (tt, (tt, (IsNumber-decimal r.tries h.tries, tt)))))))));
  texts =
      named refl (word _ refl)
      (named refl (detail_utf8 r.detail)
      (named refl (name_utf8 _ h.organization)
      (named refl (id_utf8 _ h.id)
      (named refl (IsUtf8-decimal _ h.number)
      (named refl tt
      (named refl (state_utf8 (class_of r.detail))
      (named refl (name_utf8 _ h.partner)
      (named refl (IsUtf8-decimal _ h.tries) tt))))))));
  shallow = omega arith;
})

pub in_back : (r : InRow) → IsInRow r → ReadsBack (in_object r)
in_back r h = back _ (record {
  known = rw (number_of-decimal r.number h.number);
  numerals = (tt, (tt, (tt, (IsNumber-decimal r.number h.number, (tt, (tt, (tt, tt)))))));
  texts =
      named refl (word _ refl)
      (named refl (name_utf8 _ h.sender)
      (named refl (id_utf8 _ h.id)
      (named refl (IsUtf8-decimal _ h.number)
      (named refl tt
      (named refl (receipt_utf8 r.receipt_stage)
      (named refl (name_utf8 _ h.receiver) tt))))));
  shallow = omega arith;
})

pub counts_back : (c : Counts) → AreCounts c → ReadsBack (counts_object c)
counts_back c h = back _ (record {
  known = rw (
    number_of-decimal c.in_error h.in_error,
    number_of-decimal c.in_retry h.in_retry,
    number_of-decimal c.not_sent h.not_sent,
    number_of-decimal c.awaited h.awaited,
    number_of-decimal c.to_send h.to_send,
  );
  numerals = (
    IsNumber-decimal _ h.in_error,
    (IsNumber-decimal _ h.in_retry, (IsNumber-decimal _ h.not_sent, (IsNumber-decimal _ h.awaited, (IsNumber-decimal _ h.to_send, tt)))),
  );
  texts =
      named refl (IsUtf8-decimal _ h.in_error)
      (named refl (IsUtf8-decimal _ h.in_retry)
      (named refl (IsUtf8-decimal _ h.not_sent)
      (named refl (IsUtf8-decimal _ h.awaited)
      (named refl (IsUtf8-decimal _ h.to_send) tt))));
  shallow = omega arith;
})

-- ---- one document

due_known : (due : Option ℕ) → IfSome due FitsNumber → of_json (outline (due_value due)) ≡ Some (due_value due)
due_known None h = refl
due_known (Some due) h = rw (number_of-decimal due h)

due_numerals : (due : Option ℕ) → IfSome due FitsNumber → HasNumbers (outline (due_value due))
due_numerals None h = tt
due_numerals (Some due) h = IsNumber-decimal due h

due_texts : (due : Option ℕ) → IfSome due FitsNumber → HasTexts (due_value due)
due_texts None h = tt
due_texts (Some due) h = IsUtf8-decimal due h

due_flat : (due : Option ℕ) → depth (outline (due_value due)) ≡ 0
due_flat None = refl
due_flat (Some due) = refl

receipt_known : (e : Option Evidence) → IfSome e IsReceipt → of_json (outline (receipt_value e)) ≡ Some (receipt_value e)
receipt_known None h = refl
receipt_known (Some e) h = rw (number_of-decimal (length e.body) h.bytes, number_of-decimal e.moment h.moment)

receipt_numerals : (e : Option Evidence) → IfSome e IsReceipt → HasNumbers (outline (receipt_value e))
receipt_numerals None h = tt
receipt_numerals (Some e) h = (IsNumber-decimal _ h.bytes, (IsNumber-decimal _ h.moment, tt))

receipt_texts : (e : Option Evidence) → IfSome e IsReceipt → HasTexts (receipt_value e)
receipt_texts None h = tt
receipt_texts (Some e) h = (word _ refl, (IsUtf8-decimal _ h.bytes, (word _ refl, (IsUtf8-decimal _ h.moment, tt))))

receipt_shallow : (e : Option Evidence) → depth (outline (receipt_value e)) ≤ 1
receipt_shallow None = omega arith
receipt_shallow (Some e) = omega arith

pub document_back : (d : OutEntry) → IsDocument d → ReadsBack (document_object d)
document_back d h = back _ (record {
  known = rw (
    due_known d.due h.due,
    number_of-decimal (length d.content) h.bytes,
    number_of-decimal d.number h.number,
    receipt_known d.evidence h.receipt,
    number_of-decimal d.tries h.tries,
  );
  numerals = (
    tt,
    (
      tt,
      (
        due_numerals d.due h.due,
        (
          tt,
          (
            tt,
            (
              IsNumber-decimal _ h.bytes,
              (IsNumber-decimal _ h.number, (receipt_numerals d.evidence h.receipt, (tt, (tt, (IsNumber-decimal _ h.tries, tt))))),
            ),
          ),
        ),
      ),
    ),
  );
  texts =
      named refl (word _ refl)
      (named refl (detail_utf8 d.detail)
      (named refl (due_texts d.due h.due)
      (named refl (name_utf8 _ h.organization)
      (named refl (id_utf8 _ h.id)
      (named refl (IsUtf8-decimal _ h.bytes)
      (named refl (IsUtf8-decimal _ h.number)
      (named refl (receipt_texts d.evidence h.receipt)
      (named refl (state_utf8 (class_of d.detail))
      (named refl (name_utf8 _ h.partner)
      (named refl (IsUtf8-decimal _ h.tries) tt))))))))));
  shallow = omega (arith, due_flat d.due, receipt_shallow d.evidence);
})

-- ---- a verification

pub finding_back : (f : Finding) → FitsNumber f.number → ReadsBack (finding_object f)
finding_back f n = back _ (record {
  known = rw (number_of-decimal f.number n);
  numerals = (tt, (tt, (IsNumber-decimal f.number n, tt)));
  texts = (word _ refl, (box_utf8 f.mailbox, (word _ refl, (fault_utf8 f.fault, (word _ refl, (IsUtf8-decimal _ n, tt))))));
  shallow = omega arith;
})

pub verified_back : (received sent findings : ℕ) → FitsNumber received → FitsNumber sent → FitsNumber findings
    → ReadsBack (verified_object received sent findings)
verified_back received sent findings r s f = back _ (record {
  known = rw (number_of-decimal findings f, number_of-decimal received r, number_of-decimal sent s);
  numerals = (IsNumber-decimal findings f, (IsNumber-decimal received r, (IsNumber-decimal sent s, tt)));
  texts = (word _ refl, (IsUtf8-decimal _ f, (word _ refl, (IsUtf8-decimal _ r, (word _ refl, (IsUtf8-decimal _ s, tt))))));
  shallow = omega arith;
})
