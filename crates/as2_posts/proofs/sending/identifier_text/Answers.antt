use Rattle.std.proofs.Common.{rules, subst, sym}
use Rattle.as2_names.specs.Domains.{IsDomain}
use Rattle.as2_names.specs.Identifiers.{IsIdentifier}
use Rattle.as2_posts.proofs.Naming.{own_identifier}
use Rattle.as2_posts.proofs.sending.identifier_text.Goals as goal

pub returns-clause-text : goal.returns-clause-text
returns-clause-text c = search rules

pub returns-clause-identifier : goal.returns-clause-identifier
returns-clause-identifier c =
    subst IsIdentifier (sym (returns-clause-text c))
    (own_identifier c.args.agreements.now c.args.number (subst IsDomain c.domain.ensures c.bytes.ensures.domain) c.ranges.number.fits)
