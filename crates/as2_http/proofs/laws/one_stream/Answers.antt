use Rattle.as2_http.proofs.Alike.{serves_in_one_way}
use Rattle.as2_http.proofs.laws.one_stream.Goals as goal

pub returns : goal.returns
returns c = serves_in_one_way
