use Rattle.std.proofs.Common.{◌∙◌}
use Rattle.as2_framing.specs.declared.chunk_line.LineRead.TheVariants.{Open, Line, Bad}
use Rattle.as2_framing.proofs.Chunking.{found_as, goes_nowhere, goes_on, stays_in_line}
use Rattle.as2_framing.proofs.chunked_body.ChunkedBody.take_line.Goals as goal

pub returns-in-Open-clause-taken : goal.returns-in-Open-clause-taken
returns-in-Open-clause-taken c = λ body text many h.
    let found = found_as c.find_line.new.self.line.items body text c.args.rest.now c.in_ok-find_line.field-0 Open c.in-Open.is
    (c.in_ok-find_line.ensures.found body text h) in
    stays_in_line c.find_line.new.self body text c.args.rest.now (c.in_ok-find_line.ensures.place ∙ c.requires.place) found

pub returns-in-Bad-clause-taken : goal.returns-in-Bad-clause-taken
returns-in-Bad-clause-taken c = λ body text many h.
    found_as c.find_line.new.self.line.items body text c.args.rest.now c.in_ok-find_line.field-0 Bad c.in-Bad.is (c.in_ok-find_line.ensures.found body text h)

pub returns-in-Some-clause-taken : goal.returns-in-Some-clause-taken
returns-in-Some-clause-taken c = λ body text many h.
    let found = found_as c.find_line.new.self.line.items body text c.args.rest.now c.in_ok-find_line.field-0
    (Line c.in-Line.used c.in-Line.size) c.in-Line.is (c.in_ok-find_line.ensures.found body text h) in
    goes_on c.in-Some.place c.find_line.new.self.line.items body text c.args.rest.now c.in-Line.used c.in-Line.size c.args.came many found c.in-Some.ensures

pub returns-in-None-clause-taken : goal.returns-in-None-clause-taken
returns-in-None-clause-taken c = λ body text many h.
    let found = found_as c.find_line.new.self.line.items body text c.args.rest.now c.in_ok-find_line.field-0
    (Line c.in-Line.used c.in-Line.size) c.in-Line.is (c.in_ok-find_line.ensures.found body text h) in
    goes_nowhere c.find_line.new.self.line.items body text c.args.rest.now c.in-Line.used c.in-Line.size c.args.came many found c.in-None.ensures
