-- The outcomes of a received document, as a disposition spells them (RFC 4130, section 7.5): which document has which,
-- and the MIC of a processed one (RFC 4130, section 7.3.1).
use Rattle.std.specs.Prelude.{ℕ, Bool, ◌||◌, ◌&&◌, List, if◌then◌else◌, Option, Some, None, is_none, codes}
use Rattle.as2_media.specs.declared.kind.Kind.{Kind}
use Rattle.as2_media.specs.declared.kind.Kind.TheVariants.{Enveloped, Compressed, Signed}
use Rattle.as2_mic.specs.declared.alg.Alg.{Alg}
use Rattle.as2_mic.specs.declared.alg.Alg.TheVariants.{Sha1}
use Rattle.as2_mic.specs.Algs.{Digests, first_known_of}
use Rattle.as2_mic.specs.Mic.{mic}
use Rattle.as2_text.specs.ReceiptRequests.{Request}
use Rattle.as2_mdn.specs.declared.outcome.Outcome.{Outcome}
use Rattle.as2_mdn.specs.declared.outcome.Outcome.TheVariants.{DecryptionFailed, DecompressionFailed, AuthenticationFailed, UnsupportedFormat, UnsupportedMicAlgorithms, Processed}
use Rattle.as2_mdn.specs.declared.report.ReceiptMic.{ReceiptMic}

-- the disposition type, and the modifier where there is one (RFC 8098, section 3.2.6)
abbrev pub outcome_text : Outcome → List ℕ
outcome_text DecryptionFailed = codes "processed/error: decryption-failed"
outcome_text DecompressionFailed = codes "processed/error: decompression-failed"
outcome_text AuthenticationFailed = codes "processed/error: authentication-failed"
outcome_text UnsupportedFormat = codes "failed/failure: unsupported format"
outcome_text UnsupportedMicAlgorithms = codes "failed/failure: unsupported MIC-algorithms"
outcome_text Processed = codes "processed"

-- ---- the outcome of a document, the first line that fits

-- a digest is required, and none that is listed is known
abbrev pub requires_unknown_digest : Digests → Request → Bool
requires_unknown_digest known request = request.digests_required && is_none (first_known_of known request.digests)

-- the outcome of a content that is neither enveloped nor compressed nor signed
abbrev pub outcome_of_plain : Digests → Bool → Request → Outcome
outcome_of_plain known encoding_refused request =
    if encoding_refused || request.other_required then UnsupportedFormat
    else if requires_unknown_digest known request then UnsupportedMicAlgorithms
    else Processed

-- the outcome of a content of that kind, whose encoding is refused or not, where these digests are known
abbrev pub outcome_of_kind : Digests → Kind → Bool → Request → Outcome
outcome_of_kind known Enveloped encoding_refused request = DecryptionFailed
outcome_of_kind known Compressed encoding_refused request = DecompressionFailed
outcome_of_kind known Signed encoding_refused request = AuthenticationFailed
outcome_of_kind known kind encoding_refused request = outcome_of_plain known encoding_refused request

-- ---- the MIC of a document

-- the digest, or else SHA-1
abbrev pub or_sha1 : Option Alg → Alg
or_sha1 (Some digest) = digest
or_sha1 None = Sha1

-- the MIC of a content under that digest
abbrev pub mic_under : Alg → List ℕ → ReceiptMic
mic_under digest content = record { digest = digest; text = mic digest content }

-- a processed document has a MIC, under the first digest that is listed and known
abbrev pub report_mic : Digests → Outcome → Request → List ℕ → Option ReceiptMic
report_mic known Processed request content = Some (mic_under (or_sha1 (first_known_of known request.digests)) content)
report_mic known outcome request content = None
