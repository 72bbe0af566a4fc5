-- A report that is written is read as its own receipt.
use Rattle.std.proofs.Common.{◌≡◌, ℕ, List, [], ◌∷◌, ◌++◌, Option, Some, None, Ok, refl, sym, subst, ◌∙◌}
use Rattle.as2_media.specs.MediaTypes.{Media, IsMediaType}
use Rattle.as2_media.proofs.Readings as media_types
use Rattle.as2_mic.specs.Algs.{alg_name}
use Rattle.as2_mic.specs.declared.alg.Alg.{Alg}
use Rattle.as2_mic.specs.declared.alg.Alg.TheVariants.{Md5, Sha1, Sha256}
use Rattle.as2_parts.proofs.Laws.{HasNoFeed}
use Rattle.as2_mdn.specs.Laws.{ReportsAreOfOne, ReportsAreRead, ReportsHaveTypes, IsOut, HasMicBytes, IsItsReport, receipt_of}
use Rattle.as2_mdn.specs.MicBytes.{is_mic_byte}
use Rattle.as2_mdn.specs.Outcomes.{outcome_text}
use Rattle.as2_mdn.specs.Reports.{content_type_text, receipt_text}
use Rattle.as2_mdn.specs.ReportReading.{IsReport}
use Rattle.as2_mdn.specs.declared.outcome.Outcome.{Outcome}
use Rattle.as2_mdn.specs.declared.outcome.Outcome.TheVariants.{DecryptionFailed, DecompressionFailed, AuthenticationFailed, UnsupportedFormat, UnsupportedMicAlgorithms, Processed}
use Rattle.as2_mdn.specs.declared.report.ReceiptMic.{ReceiptMic}
use Rattle.as2_mdn.specs.declared.report.ReceiptOut.{ReceiptOut}
use Rattle.as2_mdn.proofs.OwnFields.{notification_content, notification_head}
use Rattle.as2_mdn.proofs.OwnParts.{Feedless, two_parts, notification_part, mic_texts}
use Rattle.as2_mdn.proofs.OwnType.{spelled_media, typed_as, boundary_is, kind_is}
use Rattle.as2_mdn.proofs.ReportReading.{again}
use Rattle.as2_mdn.proofs.Written.{HaveNoFeed, no_feed_append}
use Rattle.as2_mdn.proofs.WrittenBytes.{decimal_no_feed, identifier_no_feed, no_feed_of, spelling_no_feed}

pub reports_typed : ReportsHaveTypes
reports_typed out x = (spelled_media out.number, typed_as out.number x.number)

-- ---- no value has an LF

outcome_no_feed : (outcome : Outcome) → HasNoFeed (outcome_text outcome)
outcome_no_feed DecryptionFailed = refl
outcome_no_feed DecompressionFailed = refl
outcome_no_feed AuthenticationFailed = refl
outcome_no_feed UnsupportedFormat = refl
outcome_no_feed UnsupportedMicAlgorithms = refl
outcome_no_feed Processed = refl

name_no_feed : (digest : Alg) → HasNoFeed (alg_name digest)
name_no_feed Md5 = refl
name_no_feed Sha1 = refl
name_no_feed Sha256 = refl

mic_no_feed : (mic : Option ReceiptMic) → HasMicBytes mic → HaveNoFeed (mic_texts mic)
mic_no_feed None h = tt
mic_no_feed (Some mic) h = (
  no_feed_append (mic.text ++ 44 ∷ 32 ∷ []) (alg_name mic.digest)
      (no_feed_append mic.text (44 ∷ 32 ∷ []) (no_feed_of is_mic_byte mic.text refl h) refl) (name_no_feed mic.digest),
  tt,
)

feedless : (out : ReceiptOut) → IsOut out → HasMicBytes out.mic → Feedless out
feedless out x b = record {
  digits = decimal_no_feed out.number x.number;
  outcome = outcome_no_feed out.outcome;
  from = spelling_no_feed out.from x.from;
  id = identifier_no_feed out.original_id x.original_id;
  mic = mic_no_feed out.mic b;
}

-- ---- the report

own : (out : ReceiptOut) → IsOut out → HasMicBytes out.mic → IsReport (spelled_media out.number) (receipt_text out) (receipt_of out)
own out x b =
    let f = feedless out x b in
    record {
      boundary = _;
      first = _;
      second = notification_part out;
      kind_is = kind_is out.number;
      given = boundary_is out.number x.number;
      two = two_parts out f;
      head = notification_head;
      content = notification_content out out.mic x.original_id x.mic b (record { outcome = f.outcome; from = f.from; id = f.id; mic_lines = f.mic });
    }

-- the media type that is spelled is that one
media_is : (out : ReceiptOut) (media : Media) → IsOut out → IsMediaType (content_type_text out.number) media → spelled_media out.number ≡ media
media_is out media x m =
    let same : Ok (spelled_media out.number) ≡ Ok media =
    sym (media_types.again (content_type_text out.number) (spelled_media out.number) (typed_as out.number x.number))
    ∙ media_types.again (content_type_text out.number) media m in
    cc same

pub read : ReportsAreRead
read out x b media m = subst (λ (t : Media). IsReport t (receipt_text out) (receipt_of out)) (media_is out media x m) (own out x b)

pub its_report : (out : ReceiptOut) (text : List ℕ) → text ≡ receipt_text out → IsOut out → IsItsReport out text
its_report out text same x = subst (IsItsReport out) (sym same) (read out x)

pub of_one : ReportsAreOfOne
of_one out media receipt x b m r =
    let same : Ok receipt ≡ Ok (receipt_of out) = sym (again media (receipt_text out) receipt r)
    ∙ again media (receipt_text out) (receipt_of out) (read out x b media m) in
    cc same
