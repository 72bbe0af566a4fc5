-- Texts that are said one behind the other.
use Rattle.std.proofs.Common.{◌≡◌, ◌≤◌, ◌<◌, ◌∙◌, ℕ, Bool, true, false, List, ◌++◌, Option, Result, Ok, Err, OnOk, OnErr, refl, sym, ap, subst, append_assoc, arith}
use Rattle.std.proofs.KnownBytes.{Appends-trans}
use Rattle.std.specs.Io.KnownBytes.{Appends}
use Rattle.as2_agreement.specs.Keys.{fault_name, key_name}
use Rattle.as2_agreement.specs.declared.key.Key.{Key}
use Rattle.as2_agreement.specs.declared.key.Key.TheVariants as key
use Rattle.as2_agreement.specs.declared.fault.AgreementFault.{AgreementFault}
use Rattle.as2_agreement.specs.declared.fault.AgreementFault.TheVariants as fault
use Rattle.as2_http.specs.Sending.{AppendsPart}
use Rattle.as2_http.specs.declared.device.Sink.{Ghosts}
use Rattle.as2_desk.specs.Endings.{Ends}
use Rattle.as2_desk.specs.Refusals.{error_line, refusal_status}
use Rattle.as2_desk.specs.Written.{WritesIf, WritesOrBreaks, written_of}
use Rattle.as2_desk.specs.declared.refusal.CommandFault.{CommandFault}
use Rattle.as2_desk.specs.declared.status.Ran.{Ran}
use Rattle.std.specs.Prelude.{length}

-- a part of a text is one of a longer one, and so is the whole of a text with a part of the next
pub said_behind : {E : Type 0} (g : Ghosts E) (a b d : E) (xs ys : List ℕ) (first then : Bool) → WritesIf first (written_of g a b) xs → g.failed a ≤ g.failed b
    → (first ≡ true → WritesIf then (written_of g b d) ys) → (first ≡ false → (then ≡ false) × (d ≡ b)) → WritesIf then (written_of g a d) (xs ++ ys)
said_behind g a b d xs ys true true said counted more none =
    let after = more refl in (Appends-trans (g.written a) (g.written b) (g.written d) xs ys said.0 after.0, after.1 ∙ said.1)
said_behind g a b d xs ys true false said counted more none =
    let broke = more refl in
    let fails = broke.0 in (
      omega (arith, counted, fails),
      record {
        part = xs ++ broke.1.part;
        missing = broke.1.missing;
        cut = ap (λ (l : List ℕ). xs ++ l) broke.1.cut ∙ sym (append_assoc xs broke.1.part broke.1.missing);
        appended = Appends-trans (g.written a) (g.written b) (g.written d) xs broke.1.part said.0 broke.1.appended;
      },
    )
said_behind g a b d xs ys false true said counted more none = absurd (let bad : true ≡ false = (none refl).0 in cc)
said_behind g a b d xs ys false false said counted more none =
    subst (λ (e : _). WritesIf false (written_of g a e) (xs ++ ys)) (sym (none refl).1) (
      said.0,
      record {
        part = said.1.part;
        missing = said.1.missing ++ ys;
        cut = ap (λ (l : List ℕ). l ++ ys) said.1.cut
            ∙ append_assoc said.1.part said.1.missing ys;
        appended = said.1.appended;
      },
    )

-- a refusal behind what was said before
pub ends_behind : {E : Type 0} (g : Ghosts E) (old first mid end : E) (xs : List ℕ) (refusal : CommandFault) (told : Bool) (ran : Ran)
    → WritesIf told (written_of g old first) xs → g.failed old ≤ g.failed first → mid ≡ first
    → ran.status ≡ refusal_status refusal → (told ≡ true → WritesIf ran.told (written_of g mid end) (error_line refusal))
    → (told ≡ false → (ran.told ≡ false) × (end ≡ mid))
    → Ends (refusal_status refusal) (xs ++ error_line refusal) (written_of g old end) ran
ends_behind g old first mid end xs refusal told ran said counted same status more none = record {
  ended = status;
  said = said_behind g old first end xs (error_line refusal) told ran.told said counted
      (λ is. subst (λ (e : _). WritesIf ran.told (written_of g e end) (error_line refusal)) same (more is))
      (λ is. let it = none is in (it.0, it.1 ∙ same));
}

-- what a writer was given is written, or broken off where a write failed
pub pushed : {W V F : Type 0} (g : Ghosts W) (a b : W) (xs ys : List ℕ) (r : Result V F) → xs ≡ ys → OnOk r (Appends (g.written a) (g.written b) xs)
    → OnOk r (g.failed b ≡ g.failed a) → OnErr r (AppendsPart (g.written a) (g.written b) xs)
    → OnErr r (g.failed a < g.failed b) → WritesOrBreaks r (written_of g a b) ys
pushed g a b xs ys (Ok v) is whole sound part failed = (subst (Appends (g.written a) (g.written b)) is whole, sound)
pushed g a b xs ys (Err f) is whole sound part failed = (failed, subst (AppendsPart (g.written a) (g.written b)) is part)

-- a text behind another
pub behind_ok : {V F : Type 0} (a b d : Option (List ℕ)) (xs ys zs : List ℕ) (r : Result V F) → ys ≡ zs → Appends a b xs → OnOk r (Appends b d ys)
    → OnOk r (Appends a d (xs ++ zs))
behind_ok a b d xs ys zs (Ok v) is first then = Appends-trans a b d xs zs first (subst (Appends b d) is then)
behind_ok a b d xs ys zs (Err f) is first then = tt

-- the names of faults and of keys are short
pub fault_short : (f : AgreementFault) → length (fault_name f) ≤ 20
fault_short fault.NotToml = omega arith
fault_short (fault.Missing k) = omega arith
fault_short (fault.WrongKind k) = omega arith
fault_short fault.BadName = omega arith
fault_short fault.NameTwice = omega arith
fault_short (fault.BadUrl k) = omega arith
fault_short (fault.OutOfRange k) = omega arith
fault_short fault.NoReturnUrl = omega arith
fault_short fault.TooMany = omega arith
fault_short fault.Memory = omega arith

pub key_short : (k : Key) → length (key_name k) ≤ 20
key_short key.Domain = omega arith
key_short key.ReturnUrl = omega arith
key_short key.Organization = omega arith
key_short key.Partner = omega arith
key_short key.Name = omega arith
key_short key.Url = omega arith
key_short key.Receipt = omega arith
key_short key.Digest = omega arith
key_short key.ContentType = omega arith
key_short key.MaxTries = omega arith
key_short key.RetrySeconds = omega arith
key_short key.OverdueSeconds = omega arith
