use Rattle.as2_json.proofs.Cutting.{cut, all_read}
use Rattle.as2_json.proofs.laws.lines_read_back.Goals as goal

pub returns-clause-cut : goal.returns-clause-cut
returns-clause-cut c = cut

pub returns-clause-whole : goal.returns-clause-whole
returns-clause-whole c = all_read
