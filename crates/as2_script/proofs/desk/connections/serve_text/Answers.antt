use Rattle.as2_http.proofs.Serving.{runs_none}
use Rattle.as2_script.proofs.desk.connections.serve_text.Goals as goal

-- the text can't be read, so nothing is taken
pub returns-in_default-clause-posts : goal.returns-in_default-clause-posts
returns-in_default-clause-posts g c = λ clean s rests. (s, rests, runs_none c.args.agreements.now c.args.moment s)
