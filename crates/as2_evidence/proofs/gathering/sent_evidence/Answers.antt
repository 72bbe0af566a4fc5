use Rattle.std.proofs.Common.{◌≡◌, ◌==◌, ℕ, Bool, not, option_map, ap, subst}
use Rattle.as2_exchange.specs.State.{document, origin_of}
use Rattle.as2_records.proofs.Following.{read_then}
use Rattle.as2_evidence.specs.Evidence.{AreFilesWhere, AreSentFiles}
use Rattle.as2_evidence.specs.Files.{files_of}
use Rattle.as2_evidence.proofs.gathering.sent_evidence.Goals as goal

pub returns-clause-files : goal.returns-clause-files
returns-clause-files g c =
    read_then (λ s n. n ≡ origin_of s.version)
    (λ s files. AreFilesWhere (AreSentFiles (not (c.in_ok-origin.origin == 0))) (document s c.args.number)
    (option_map (λ v. files_of v.items) files)) _ _ _ _ _ c.sent_at.result
    (λ s files rests first then. subst
    (λ (b : Bool). AreFilesWhere (AreSentFiles b) (document s c.args.number) (option_map (λ v. files_of v.items) files))
    (ap (λ (n : ℕ). not (n == 0)) first) then)
    c.in_ok-origin.ensures.origin c.sent_at.ensures.files
