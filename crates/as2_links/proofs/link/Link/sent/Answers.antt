use Rattle.std.proofs.Common.{◌≡◌, ◌∙◌, ◌+◌, ◌++◌, ℕ, zero, suc, List, [], ◌∷◌, length, refl, take, drop, min, sym, ap, arith, append_assoc}
use Rattle.std.proofs.lemmas.List.{take-append-drop, drop_min}
use Rattle.as2_links.specs.Links.{unsent_of}
use Rattle.as2_links.proofs.link.Link.sent.Goals as goal

drop_none : (n : ℕ) → drop {A = ℕ} n [] ≡ []
drop_none zero = refl
drop_none (suc n) = refl

-- what is dropped behind what was
drop_more : (k n : ℕ) (xs : List ℕ) → drop n (drop k xs) ≡ drop (k + n) xs
drop_more zero n xs = ap (λ (k : ℕ). drop k xs) (omega arith)
drop_more (suc k) n [] = drop_none n ∙ sym (drop_none (suc k + n))
drop_more (suc k) n (x ∷ xs) = drop_more k n xs ∙ ap (λ (j : ℕ). drop j (x ∷ xs)) more
  where
    more : suc (k + n) ≡ suc k + n
    more = omega arith

pub returns-clause-holds : goal.returns-clause-holds
returns-clause-holds c = λ s it.
    let link = c.args.self.now in
    let n = c.args.count in
    let bytes = link.job.bytes in
    let rest : drop (c.min.result + n) bytes ≡ drop n (unsent_of link)
    = ap (λ (k : ℕ). drop (k + n) bytes) (c.min.ensures ∙ ap (λ (b : List ℕ). min link.sent (length b)) c.as_slice.ensures)
    ∙ sym (drop_more (min link.sent (length bytes)) n bytes) ∙ ap (drop n) (drop_min link.sent bytes) in
    record {
      what = it.what;
      job = it.job;
      sent = it.sent ∙ ap (λ (b : List ℕ). s.sent ++ b) (sym (take-append-drop n (unsent_of link)))
          ∙ sym (append_assoc s.sent (take n (unsent_of link)) (drop n (unsent_of link)))
          ∙ ap (λ (b : List ℕ). (s.sent ++ take n (unsent_of link)) ++ b) (sym rest);
      answer = it.answer;
    }
