use Rattle.std.proofs.Common.{List, ℕ, ◌++◌, codes, refl, string_bytes, subst}
use Rattle.std.proofs.KnownBytes.{Appends-trans}
use Rattle.std.specs.Io.KnownBytes.{Appends}
use Rattle.as2_desk.proofs.Saying.{behind_ok}
use Rattle.as2_desk.specs.Escapes.{escaped_text}
use Rattle.as2_desk.proofs.places.write_unknown.Goals as goal

-- the front, the key and what it stands in, one behind the other
pub returns : goal.returns
returns g c =
    let contents = g.H.Write.contents in
    let text = string_bytes c.args.unknown.now.key in
    let key = subst (λ (t : List ℕ). Appends (contents c.write_all.new.self) (contents c.write_escaped.new.errors)
    (escaped_text t)) c.as_str.ensures.value c.in_ok-write_escaped.ensures in
    let front = Appends-trans (contents c.args.hints.now) (contents c.write_all.new.self) (contents c.write_escaped.new.errors)
    (codes "warning: key \"") (escaped_text text) c.in_ok-write_all.ensures.bytes key in
    behind_ok _ _ _ (codes "warning: key \"" ++ escaped_text text) _ _ c.write_holder.result refl front c.write_holder.ensures
