use Rattle.std.proofs.Common.{◌++◌, subst, sym}
use Rattle.as2_messages.specs.Requests.{BeginsNoRequest}
use Rattle.as2_messages.specs.declared.framing.Refused.{Refused}
use Rattle.as2_messages.proofs.Parsing.{ends_request, fed_as}
use Rattle.as2_messages.proofs.parser.RequestParser.take_body.Goals as goal

pub returns-in-Open : goal.returns-in-Open
returns-in-Open c = λ text framed.
    let k = fed_as c.args.awaited c.feed.new.self c.args.bytes.now c.args.from c.in_ok-feed.field-0 _ c.in-Open.is c.in_ok-feed.ensures.fed
    (text ++ c.args.bytes.now) framed.awaits in
    (k.1, (framed.empty, k.0, k.2))

pub returns-in-Whole : goal.returns-in-Whole
returns-in-Whole c = λ text framed.
    ends_request c.args.self.now c.args.awaited c.feed.new.self text c.args.bytes.now c.args.from c.in-Whole.used c.requires.none c.requires.within framed
    (fed_as c.args.awaited c.feed.new.self c.args.bytes.now c.args.from c.in_ok-feed.field-0 _ c.in-Whole.is c.in_ok-feed.ensures.fed
    (text ++ c.args.bytes.now) framed.awaits)

pub returns-in-Bad : goal.returns-in-Bad
returns-in-Bad c = λ text framed.
    subst (λ (r : Refused). BeginsNoRequest (text ++ c.args.bytes.now) r) (sym c.refused.ensures)
    (fed_as c.args.awaited c.feed.new.self c.args.bytes.now c.args.from c.in_ok-feed.field-0 _ c.in-Bad.is c.in_ok-feed.ensures.fed
    (text ++ c.args.bytes.now) framed.awaits)

pub returns-in-TooLarge : goal.returns-in-TooLarge
returns-in-TooLarge c = λ text framed.
    subst (λ (r : Refused). BeginsNoRequest (text ++ c.args.bytes.now) r) (sym c.refused-in-TooLarge.ensures)
    (fed_as c.args.awaited c.feed.new.self c.args.bytes.now c.args.from c.in_ok-feed.field-0 _ c.in-TooLarge.is c.in_ok-feed.ensures.fed
    (text ++ c.args.bytes.now) framed.awaits)
