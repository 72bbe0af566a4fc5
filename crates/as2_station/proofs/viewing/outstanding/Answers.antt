use Rattle.std.proofs.Common.{◌≡◌, refl, string_bytes}
use Rattle.as2_views.specs.Texts.{outstanding_text}
use Rattle.as2_records.proofs.Following.{read_bad, read_then}
use Rattle.as2_station.proofs.Viewed.{outstanding_shown}
use Rattle.as2_station.proofs.viewing.outstanding.Goals as goal

pub returns-in_err-documents-clause-outstanding : goal.returns-in_err-documents-clause-outstanding
returns-in_err-documents-clause-outstanding g c =
    read_then _ _ (λ s text. string_bytes text ≡ outstanding_text s c.args.moment) _ _ _ _ c.from_residual-in_err-documents.result
    (λ s text rests known more. more) c.in_ok-counts.ensures.counts
    (read_bad _ (λ s text. string_bytes text ≡ outstanding_text s c.args.moment) _ _ _ c.from_residual-in_err-documents.result
    c.from_residual-in_err-documents.ensures.0 c.in_err-documents.ensures.marked)

pub returns-clause-outstanding : goal.returns-clause-outstanding
returns-clause-outstanding g c =
    outstanding_shown _ _ c.in_ok-documents.documents _ _ c.outstanding_text.result refl c.as_slice.ensures.value _ c.args.moment
    c.in_ok-counts.counts c.outstanding_text.ensures.lines c.in_ok-counts.ensures.counts c.in_ok-documents.ensures.marked
