-- Texts that are appended one behind the other.
use Rattle.std.proofs.Common.{◌≡◌, ◌∙◌, ◌++◌, ℕ, List, ap, append_assoc}

-- five texts that are appended one behind the other
pub five : (t a b c d e : List ℕ) → ((((t ++ a) ++ b) ++ c) ++ d) ++ e ≡ t ++ ((((a ++ b) ++ c) ++ d) ++ e)
five t a b c d e =
    ap (λ l. ((l ++ c) ++ d) ++ e) (append_assoc t a b)
    ∙ ap (λ l. (l ++ d) ++ e) (append_assoc t (a ++ b) c)
    ∙ ap (λ l. l ++ e) (append_assoc t ((a ++ b) ++ c) d)
    ∙ append_assoc t (((a ++ b) ++ c) ++ d) e
