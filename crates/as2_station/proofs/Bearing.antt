-- Which document a receipt is for.
use Rattle.std.proofs.Common.{◌≡◌, ◌↔◌, Bool, true, false, ◌&&◌, refl}
use Rattle.std.specs.Prelude.{IsTrue}
use Rattle.std.specs.Str.{bytes_eq}
use Rattle.std.proofs.lemmas.Bool.{false≢true}
use Rattle.std.proofs.lemmas.Slice.Eq.{bytes_eq-Decides}
use Rattle.as2_exchange.specs.Agreement.{Text}
use Rattle.as2_exchange.specs.Readings.{named_by, value_of}
use Rattle.as2_exchange.specs.Posts.{ReceivedReceipt}
use Rattle.as2_exchange.specs.Receipts.{bears}
use Rattle.as2_exchange.proofs.Equal.{and_all}

all_three : (a b c : Bool) → (a && (b && c)) ≡ true → (a ≡ true) × (b ≡ true) × (c ≡ true)
all_three true true true h = (refl, refl, refl)
all_three true true false h = absurd (false≢true h)
all_three true false c h = absurd (false≢true h)
all_three false b c h = absurd (false≢true h)

pub bears_exactly : (r : ReceivedReceipt) (organization partner id : Text)
    → IsTrue (bears r organization partner id) ↔ ((organization ≡ r.to) × (partner ≡ r.from) × (value_of id ≡ named_by r.receipt))
bears_exactly r organization partner id = (there, back)
  where
    there : bears r organization partner id ≡ true → (organization ≡ r.to) × (partner ≡ r.from) × (value_of id ≡ named_by r.receipt)
    there h =
        let t = all_three (bytes_eq organization r.to) (bytes_eq partner r.from) (bytes_eq (value_of id) (named_by r.receipt)) h in
        ((bytes_eq-Decides organization r.to).0 t.0, (bytes_eq-Decides partner r.from).0 t.1, (bytes_eq-Decides (value_of id) (named_by r.receipt)).0 t.2)

    back : (organization ≡ r.to) × (partner ≡ r.from) × (value_of id ≡ named_by r.receipt) → bears r organization partner id ≡ true
    back h = and_all _ _ _ ((bytes_eq-Decides organization r.to).1 h.0) ((bytes_eq-Decides partner r.from).1 h.1)
        ((bytes_eq-Decides (value_of id) (named_by r.receipt)).1 h.2)
