-- A post repeats an entry exactly where it would make the same.
-- The plan: each test of equality that is true makes its two sides equal (`.. _is`); from these, that a post repeats an entry exactly where
-- both are the same document (`repeats_exactly`), or the same in what was known before (`repeats_before`). A new field gets its `.. _is`.
use Rattle.std.proofs.Common.{◌≡◌, ◌↔◌, ℕ, ◌<◌, ◌≤◌, Bool, true, false, ◌&&◌, ◌||◌, Option, Some, None, refl, sym, ap, ◌∙◌, subst, arith}
use Rattle.std.specs.Prelude.{IsTrue, nat_lt}
use Rattle.std.specs.List.{find}
use Rattle.std.specs.Str.{bytes_eq}
use Rattle.std.proofs.lemmas.Bool.{false≢true}
use Rattle.std.proofs.lemmas.Bool.Decides.{nat_tests}
use Rattle.std.proofs.lemmas.Slice.Eq.{bytes_eq-Decides}
use Rattle.as2_exchange.specs.Agreement.{Text, Alg, Md5, Sha1, Sha256}
use Rattle.as2_exchange.specs.Readings.{ReceiptDelivery, NoReceipt, Sync, Async, Mic, Outcome, Processed, DecryptionFailed}
use Rattle.as2_exchange.specs.Readings.{DecompressionFailed, AuthenticationFailed, UnsupportedFormat, UnsupportedMicAlgorithms, value_of}
use Rattle.as2_exchange.specs.State.{State, InEntry, Posted, has_key, same_key, received_as}
use Rattle.as2_exchange.specs.Posts.{ArePostedAlike, same_post, same_result, repeats, outcome_eq, how_eq, alg_eq, mic_eq}
use Rattle.as2_exchange.proofs.Repeats.{same_text, how_same, repeats_itself}

pub both : (a b : Bool) → (a && b) ≡ true → (a ≡ true) × (b ≡ true)
both true b h = (refl, h)
both false b h = absurd (false≢true h)

text_is : (a b : Text) → bytes_eq a b ≡ true → a ≡ b
text_is a b h = (bytes_eq-Decides a b).0 h

outcome_is : (a b : Outcome) → outcome_eq a b ≡ true → a ≡ b
outcome_is Processed Processed h = refl
outcome_is Processed DecryptionFailed h = absurd (false≢true h)
outcome_is Processed DecompressionFailed h = absurd (false≢true h)
outcome_is Processed AuthenticationFailed h = absurd (false≢true h)
outcome_is Processed UnsupportedFormat h = absurd (false≢true h)
outcome_is Processed UnsupportedMicAlgorithms h = absurd (false≢true h)
outcome_is DecryptionFailed Processed h = absurd (false≢true h)
outcome_is DecryptionFailed DecryptionFailed h = refl
outcome_is DecryptionFailed DecompressionFailed h = absurd (false≢true h)
outcome_is DecryptionFailed AuthenticationFailed h = absurd (false≢true h)
outcome_is DecryptionFailed UnsupportedFormat h = absurd (false≢true h)
outcome_is DecryptionFailed UnsupportedMicAlgorithms h = absurd (false≢true h)
outcome_is DecompressionFailed Processed h = absurd (false≢true h)
outcome_is DecompressionFailed DecryptionFailed h = absurd (false≢true h)
outcome_is DecompressionFailed DecompressionFailed h = refl
outcome_is DecompressionFailed AuthenticationFailed h = absurd (false≢true h)
outcome_is DecompressionFailed UnsupportedFormat h = absurd (false≢true h)
outcome_is DecompressionFailed UnsupportedMicAlgorithms h = absurd (false≢true h)
outcome_is AuthenticationFailed Processed h = absurd (false≢true h)
outcome_is AuthenticationFailed DecryptionFailed h = absurd (false≢true h)
outcome_is AuthenticationFailed DecompressionFailed h = absurd (false≢true h)
outcome_is AuthenticationFailed AuthenticationFailed h = refl
outcome_is AuthenticationFailed UnsupportedFormat h = absurd (false≢true h)
outcome_is AuthenticationFailed UnsupportedMicAlgorithms h = absurd (false≢true h)
outcome_is UnsupportedFormat Processed h = absurd (false≢true h)
outcome_is UnsupportedFormat DecryptionFailed h = absurd (false≢true h)
outcome_is UnsupportedFormat DecompressionFailed h = absurd (false≢true h)
outcome_is UnsupportedFormat AuthenticationFailed h = absurd (false≢true h)
outcome_is UnsupportedFormat UnsupportedFormat h = refl
outcome_is UnsupportedFormat UnsupportedMicAlgorithms h = absurd (false≢true h)
outcome_is UnsupportedMicAlgorithms Processed h = absurd (false≢true h)
outcome_is UnsupportedMicAlgorithms DecryptionFailed h = absurd (false≢true h)
outcome_is UnsupportedMicAlgorithms DecompressionFailed h = absurd (false≢true h)
outcome_is UnsupportedMicAlgorithms AuthenticationFailed h = absurd (false≢true h)
outcome_is UnsupportedMicAlgorithms UnsupportedFormat h = absurd (false≢true h)
outcome_is UnsupportedMicAlgorithms UnsupportedMicAlgorithms h = refl

how_is : (a b : ReceiptDelivery) → how_eq a b ≡ true → a ≡ b
how_is NoReceipt NoReceipt h = refl
how_is NoReceipt Sync h = absurd (false≢true h)
how_is NoReceipt (Async url) h = absurd (false≢true h)
how_is Sync NoReceipt h = absurd (false≢true h)
how_is Sync Sync h = refl
how_is Sync (Async url) h = absurd (false≢true h)
how_is (Async url) NoReceipt h = absurd (false≢true h)
how_is (Async url) Sync h = absurd (false≢true h)
how_is (Async url) (Async other) h = ap Async (text_is url other h)

alg_is : (a b : Alg) → alg_eq a b ≡ true → a ≡ b
alg_is Md5 Md5 h = refl
alg_is Md5 Sha1 h = absurd (false≢true h)
alg_is Md5 Sha256 h = absurd (false≢true h)
alg_is Sha1 Md5 h = absurd (false≢true h)
alg_is Sha1 Sha1 h = refl
alg_is Sha1 Sha256 h = absurd (false≢true h)
alg_is Sha256 Md5 h = absurd (false≢true h)
alg_is Sha256 Sha1 h = absurd (false≢true h)
alg_is Sha256 Sha256 h = refl

mic_is : (a b : Option Mic) → mic_eq a b ≡ true → a ≡ b
mic_is None None h = refl
mic_is None (Some b) h = absurd (false≢true h)
mic_is (Some a) None h = absurd (false≢true h)
mic_is (Some a) (Some b) h =
    let parts = both (alg_eq a.digest b.digest) (bytes_eq a.text b.text) h in
    λ i. Some (record { digest = alg_is a.digest b.digest parts.0 i; text = text_is a.text b.text parts.1 i })

pub post_is : (p q : Posted) → same_post p q ≡ true → ArePostedAlike p q
post_is p q h =
    let a = both _ _ h in
    let b = both _ _ a.1 in
    let c = both _ _ b.1 in
    let d = both _ _ c.1 in
    let e = both _ _ d.1 in
    record {
      sender = text_is p.sender q.sender a.0;
      receiver = text_is p.receiver q.receiver b.0;
      id = text_is p.id q.id c.0;
      content_type = text_is p.content_type q.content_type d.0;
      content = text_is p.content q.content e.0;
      how = how_is p.how q.how e.1;
    }

alike_is : (p q : Posted) → ArePostedAlike p q → same_post p q ≡ true
alike_is p q h = simp (h.sender, h.receiver, h.id, h.content_type, h.content, h.how, same_text, how_same)

all_is : (p q : Posted) → same_post p q ≡ true → same_result p q ≡ true → p ≡ q
all_is p q h g =
    let one = post_is p q h in
    let two = both _ _ g in
    λ i. record {
      sender = one.sender i;
      receiver = one.receiver i;
      id = one.id i;
      content_type = one.content_type i;
      content = one.content i;
      outcome = outcome_is p.outcome q.outcome two.0 i;
      how = one.how i;
      mic = mic_is p.mic q.mic two.1 i;
    }

repeat_is : (origin n : ℕ) (p q : Posted) → nat_lt n origin ≡ false → repeats origin n p q ≡ true → p ≡ q
repeat_is origin n p q late h =
    let parts = both _ _ h in
    all_is p q parts.0 (ap (λ (b : Bool). b || same_result p q) (sym late) ∙ parts.1)

-- from the origin on, a post repeats what it equals
pub repeats_exactly : (origin n : ℕ) (p q : Posted) → origin ≤ n → IsTrue (repeats origin n p q) ↔ (p ≡ q)
repeats_exactly origin n p q late = (
  repeat_is origin n p q (grind (arith, nat_tests)),
  λ same. subst (λ (x : Posted). repeats origin n p x ≡ true) same (repeats_itself origin n p),
)

-- below it, what was posted alike
pub repeats_before : (origin n : ℕ) (p q : Posted) → n < origin → IsTrue (repeats origin n p q) ↔ ArePostedAlike p q
repeats_before origin n p q early =
    let below : nat_lt n origin ≡ true = grind (arith, nat_tests) in
    (λ h. post_is p q (both _ _ h).0, λ alike. rw (alike_is p q alike, below) refl)

-- ---- keys

text_turned : (a b : Text) → bytes_eq a b ≡ true → bytes_eq b a ≡ true
text_turned a b h = (bytes_eq-Decides b a).1 (sym (text_is a b h))

pub and_all : (a b c : Bool) → a ≡ true → b ≡ true → c ≡ true → (a && (b && c)) ≡ true
and_all a b c h g f = rw (h, g, f) refl

pub key_turned : (p q : Posted) → same_key p q ≡ true → same_key q p ≡ true
key_turned p q h =
    let a = both _ _ h in
    let b = both _ _ a.1 in
    and_all _ _ _ (text_turned p.sender q.sender a.0) (text_turned p.receiver q.receiver b.0) (text_turned (value_of p.id) (value_of q.id) b.1)

-- two documents of one key
pub record HaveOneKey (p q : Posted) : Type 0 where
  pub sender : p.sender ≡ q.sender
  pub receiver : p.receiver ≡ q.receiver
  pub value : value_of p.id ≡ value_of q.id

pub key_is : (p q : Posted) → same_key p q ≡ true → HaveOneKey p q
key_is p q h =
    let a = both _ _ h in
    let b = both _ _ a.1 in
    record { sender = text_is p.sender q.sender a.0; receiver = text_is p.receiver q.receiver b.0; value = text_is (value_of p.id) (value_of q.id) b.1 }

pub post_key : (p q : Posted) → same_post p q ≡ true → HaveOneKey p q
post_key p q h = let it = post_is p q h in record { sender = it.sender; receiver = it.receiver; value = ap value_of it.id }

pub one_key : (p q : Posted) → HaveOneKey p q → same_key p q ≡ true
one_key p q k =
    and_all _ _ _ ((bytes_eq-Decides p.sender q.sender).1 k.sender) ((bytes_eq-Decides p.receiver q.receiver).1 k.receiver)
    ((bytes_eq-Decides (value_of p.id) (value_of q.id)).1 k.value)

pub keys_joined : (p q r : Posted) → HaveOneKey p r → HaveOneKey q r → same_key p q ≡ true
keys_joined p q r h g = one_key p q (record { sender = h.sender ∙ sym g.sender; receiver = h.receiver ∙ sym g.receiver; value = h.value ∙ sym g.value })

-- and so both find one entry
pub received_one : (s : State) (p q : Posted) → HaveOneKey p q → received_as s p ≡ received_as s q
received_one s p q k = λ i. find (λ (e : InEntry). has_key (k.sender i) (k.receiver i) (k.value i) e.posted) s.inbox
