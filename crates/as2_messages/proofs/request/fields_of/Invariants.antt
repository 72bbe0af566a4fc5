use Rattle.std.proofs.Common.{◌≡◌, [], drop, map}
use Rattle.httparse.specs.Spans.{header_bytes}
use Rattle.as2_messages.specs.Requests.{fields_behind}
use Rattle.as2_messages.proofs.request.fields_of.Given as goal

abbrev pub invariant-loop-span : goal.invariant-loop-span
invariant-loop-span l = fields_behind [] (map (header_bytes l.text) l.spans) ≡ fields_behind l.fields (map (header_bytes l.text) (drop l.span-index l.spans))
