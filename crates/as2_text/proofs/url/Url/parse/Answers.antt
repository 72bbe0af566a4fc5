use Rattle.as2_text.proofs.Addresses.{some_found, none_found, url_again}
use Rattle.std.proofs.Common.{◌∙◌}
use Rattle.as2_text.proofs.url.Url.parse.Goals as goal

pub returns-clause-found : goal.returns-clause-found
returns-clause-found c = some_found c.args.text.now c.url_of.result c.url_of.ensures

pub returns-clause-only : goal.returns-clause-only
returns-clause-only c url u = c.url_of.ensures ∙ url_again c.args.text.now url u

pub returns-clause-none : goal.returns-clause-none
returns-clause-none c = none_found c.args.text.now c.url_of.result c.url_of.ensures
