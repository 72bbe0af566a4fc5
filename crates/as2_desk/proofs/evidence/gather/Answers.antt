use Rattle.std.proofs.Common.{sym}
use Rattle.as2_commands.specs.Requests.{GivenEvidence}
use Rattle.as2_evidence.specs.Files.{files_of}
use Rattle.as2_desk.proofs.Gathered.{fault_came, reads_known}
use Rattle.as2_desk.specs.Evidence.{came_of}
use Rattle.as2_desk.proofs.evidence.gather.Goals as goal

pub returns-clause-proves : goal.returns-clause-proves
returns-clause-proves g c =
    let w : GivenEvidence = record { mailbox = c.wanted.inside.mailbox; number = c.wanted.inside.number; folder = c.wanted.inside.folder.now } in
    rw (sym c.wanted.view_is) (λ known stood. record {
      came = came_of (λ v. files_of v.items) c.evidence-came.result;
      fault = fault_came (λ v. files_of v.items) c.evidence-came.result c.evidence-came.ensures.may;
      reads = reads_known (λ v. files_of v.items) _ _ c.args.terms.now.agreements.now w c.evidence-came.result known c.evidence-came.ensures.files stood;
      makes = c.make_what_came.ensures.makes;
    })
