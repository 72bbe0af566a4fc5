use Rattle.as2_json.proofs.Returning.{finding_back, verified_back}
use Rattle.as2_json.proofs.laws.verifications_read_back.Goals as goal

pub returns-clause-finding : goal.returns-clause-finding
returns-clause-finding c = finding_back

pub returns-clause-verified : goal.returns-clause-verified
returns-clause-verified c = verified_back
