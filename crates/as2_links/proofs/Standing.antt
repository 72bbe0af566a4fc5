-- What a change at one place leaves at all of them.
use Rattle.std.proofs.Common.{◌≡◌, ◌≢◌, ◌∙◌, ℕ, zero, suc, ◌<◌, ◌≤◌, ◌==◌, ◌||◌, Bool, true, false, get_or, List, [], ◌∷◌, ◌++◌, length, take, drop, if◌then◌else◌, Option, Some, None, IsTrue, true≢false, refl, sym, ap, subst, arith, append_assoc, append-nil, replicate}
use Rattle.std.specs.Prelude.{slice_get, slice_set}
use Rattle.std.specs.List.{list_any}
use Rattle.std.proofs.lemmas.Option.{slice_get_read}
use Rattle.std.proofs.lemmas.List.{take-append-drop}
use Rattle.as2_exchange.specs.declared.answer.Job.{Job}
use Rattle.as2_exchange.specs.declared.event.TryAnswer.{TryAnswer}
use Rattle.as2_exchange.specs.declared.next.Next.{Next}
use Rattle.as2_exchange.specs.declared.next.Next.TheVariants.{Document, Receipt}
use Rattle.as2_links.specs.Happenings.{Begins, Cuts, Ends, GetsBy, Hears, IsBegun, IsLinkFor, IsOpenWith, IsRight, LinkHappening, LinkHappenings, LinkState, Sends, fresh, if_so, link_at, link_with, link_place}
use Rattle.as2_links.specs.Links.{ChangesOnly, HoldsLink, LinksStand, MayOpen, PlaceHolds, is_for, is_same, links_of, unsent_of}
use Rattle.as2_links.specs.declared.link.Link.{Link}
use Rattle.as2_links.specs.declared.table.LinkTable.{LinkTable}

differs : (a c : ℕ) → a ≢ c → (a == c) ≡ false
differs a c ne = grind arith

itself : (a : ℕ) → (a == a) ≡ true
itself a = grind arith

-- a list with one place set has there what was set, and elsewhere what it had
placed : {X : Type 0} (xs : List X) (at : ℕ) (v : X) (P : ℕ → Option X → Type 0) → at < length xs → P at (Some v)
    → ((c : ℕ) → at ≢ c → P c (slice_get xs c)) → (c : ℕ) → P c (slice_get (slice_set xs at v) c)
placed [] at v P within here other c = absurd (omega (arith, within))
placed (x ∷ xs) zero v P within here other zero = here
placed (x ∷ xs) zero v P within here other (suc c) = other (suc c) (λ is. omega (arith, is))
placed (x ∷ xs) (suc at) v P within here other zero = other zero (λ is. omega (arith, is))
placed (x ∷ xs) (suc at) v P within here other (suc c) =
    placed xs at v (λ k. P (suc k)) (omega (arith, within)) here (λ k ne. other (suc k) (λ is. ne (omega (arith, is)))) c

-- what was found at a place is there
pub there : {X : Type 0} (xs : List X) (at : ℕ) (o : X) → at < length xs → o ≡ get_or xs at o → slice_get xs at ≡ Some o
there xs at o within found = slice_get_read xs (length xs) at o refl within found

pub set_same : {X : Type 0} (xs : List X) (at : ℕ) (v : X) → slice_get xs at ≡ Some v → slice_set xs at v ≡ xs
set_same [] at v is = refl
set_same (x ∷ xs) zero v is = let e : v ≡ x = cc in ap (λ y. y ∷ xs) e
set_same (x ∷ xs) (suc at) v is = ap (λ l. x ∷ l) (set_same xs at v is)

pub got : {X : Type 0} (xs : List X) (at : ℕ) (v : X) → at < length xs → slice_get (slice_set xs at v) at ≡ Some v
got [] at v within = absurd (omega (arith, within))
got (x ∷ xs) zero v within = refl
got (x ∷ xs) (suc at) v within = got xs at v (omega (arith, within))

-- .. and one that isn't there gets nothing
pub beyond : {X : Type 0} (xs : List X) (at : ℕ) (v : X) → length xs ≤ at → slice_set xs at v ≡ xs
beyond [] at v past = refl
beyond (x ∷ xs) zero v past = absurd (omega (arith, past))
beyond (x ∷ xs) (suc at) v past = ap (λ l. x ∷ l) (beyond xs at v (omega (arith, past)))

length_set : {X : Type 0} (xs : List X) (at : ℕ) (v : X) → length (slice_set xs at v) ≡ length xs
length_set [] at v = refl
length_set (x ∷ xs) zero v = refl
length_set (x ∷ xs) (suc at) v = ap suc (length_set xs at v)

pub as_many_set : (old new : LinkTable) (at : ℕ) (v : Option Link) → links_of new ≡ slice_set (links_of old) at v
    → length (links_of new) ≡ length (links_of old)
as_many_set old new at v set = ap length set ∙ length_set (links_of old) at v

pub as_many : (old new : LinkTable) (at : ℕ) → ChangesOnly at old new → length (links_of new) ≡ length (links_of old)
as_many old new at (v, set) = as_many_set old new at v set

-- a place that gets what it had
pub unchanged : (old new : LinkTable) (at : ℕ) (v : Option Link) → slice_get (links_of old) at ≡ Some v → links_of new ≡ slice_set (links_of old) at v
    → (h : LinkHappenings) → LinksStand old h → LinksStand new h
unchanged old new at v here set h it =
    let same : links_of new ≡ links_of old = set ∙ set_same (links_of old) at v here in
    record { each = λ l. subst (λ (ls : List (Option Link)). PlaceHolds (slice_get ls l) (link_at l h)) (sym same) (it.each l); right = it.right }

-- something happened at a place, and leaves that there
happened : (old new : LinkTable) (at : ℕ) (v : Option Link) (x : LinkHappening) (h : LinkHappenings) → link_place x ≡ at → at < length (links_of old)
    → links_of new ≡ slice_set (links_of old) at v → PlaceHolds (Some v) (link_with x (link_at at h)) → IsRight x h → LinksStand old h
    → LinksStand new (x ∷ h)
happened old new at v x h at_is within set here right it = record {
  each = λ l. subst (λ (ls : List (Option Link)). PlaceHolds (slice_get ls l) (link_at l (x ∷ h))) (sym set)
      (placed (links_of old) at v (λ k o. PlaceHolds o (if link_place x == k then link_with x (link_at k h) else link_at k h)) within
      (subst (λ (b : Bool). PlaceHolds (Some v) (if b then link_with x (link_at at h) else link_at at h))
      (sym (ap (λ (k : ℕ). k == at) at_is ∙ itself at)) here)
      (λ k ne. subst (λ (b : Bool). PlaceHolds (slice_get (links_of old) k) (if b then link_with x (link_at k h) else link_at k h))
      (sym (ap (λ (p : ℕ). p == k) at_is ∙ differs at k ne)) (it.each k))
      l);
  right = (right, it.right);
}

-- ---- a link is opened

none_of : {X : Type 0} (f : X → Bool) (xs : List X) (k : ℕ) (x : X) → list_any f xs ≡ false → slice_get xs k ≡ Some x → f x ≡ false
none_of f [] k x none is = cc
none_of f (y ∷ xs) zero x none is = go (f y) none (let e : y ≡ x = cc in ap f (sym e))
  where
    go : (b : Bool) → (b || list_any f xs) ≡ false → f x ≡ b → f x ≡ false
    go true e is = absurd (true≢false e)
    go false e is = is
none_of f (y ∷ xs) (suc k) x none is = none_of f xs k x (rest (f y) none) is
  where
    rest : (b : Bool) → (b || list_any f xs) ≡ false → list_any f xs ≡ false
    rest true e = absurd (true≢false e)
    rest false e = e

same_is : (what : Next) → is_same what what ≡ true
same_is (Receipt n) = itself n
same_is (Document n) = itself n

-- no link is for it
not_linked : (table : LinkTable) (what : Next) (h : LinkHappenings) → list_any (is_for what) (links_of table) ≡ false → LinksStand table h → (k : ℕ)
    → ¬ (IsLinkFor what (link_at k h))
not_linked table what h none it k =
    go (slice_get (links_of table) k) (link_at k h) (λ o is. none_of (is_for what) (links_of table) k o none is) (it.each k)
  where
    go : (p : Option (Option Link)) (o : Option LinkState) → ((v : Option Link) → p ≡ Some v → is_for what v ≡ false) → PlaceHolds p o → ¬ (IsLinkFor what o)
    go p None other holds linked = linked
    go None (Some s) other holds linked = absurd cc
    go (Some None) (Some s) other holds linked = absurd cc
    go (Some (Some link)) (Some s) other holds linked =
        true≢false (sym (ap (λ (n : Next). is_same n what) (holds.what ∙ linked) ∙ same_is what) ∙ other (Some link) refl)

pub opened : (old new : LinkTable) (at : ℕ) (what : Next) (job : Job) (link : Link) (h : LinkHappenings) → at < length (links_of old)
    → links_of new ≡ slice_set (links_of old) at (Some link) → MayOpen old at what → HoldsLink link (fresh what job) → LinksStand old h
    → LinksStand new (Begins at what job ∷ h)
opened old new at what job link h within set may holds it =
    happened old new at (Some link) (Begins at what job) h refl within set holds
    (subst (λ (p : Option (Option Link)). PlaceHolds p (link_at at h)) may.free (it.each at), not_linked old what h may.only it) it

-- ---- a link goes on

module _ (old new : LinkTable) (at : ℕ) (link : Link) (h : LinkHappenings) (within : at < length (links_of old))
    (here : slice_get (links_of old) at ≡ Some (Some link)) (it : LinksStand old h) where
  -- what is known of it
  held : (o : Option LinkState) → PlaceHolds (Some (Some link)) o → (s : LinkState) × (o ≡ Some s) × HoldsLink link s
  held None holds = absurd holds
  held (Some s) holds = (s, refl, holds)

  known : (s : LinkState) × (link_at at h ≡ Some s) × HoldsLink link s
  known = held (link_at at h) (subst (λ (p : Option (Option Link)). PlaceHolds p (link_at at h)) here (it.each at))

  -- the whole request was written
  is_whole : (s : LinkState) → HoldsLink link s → unsent_of link ≡ [] → s.sent ≡ s.job.bytes
  is_whole s holds none =
      sym (append-nil s.sent) ∙ ap (λ (rest : List ℕ). s.sent ++ rest) (sym none) ∙ sym holds.sent ∙ ap (λ (j : Job). j.bytes) holds.job

  module _ (next : Link) (set : links_of new ≡ slice_set (links_of old) at (Some next)) where
    goes_on : (x : LinkHappening) → link_place x ≡ at → PlaceHolds (Some (Some next)) (link_with x (Some known.0)) → IsRight x h → LinksStand new (x ∷ h)
    goes_on x at_is holds right =
        happened old new at (Some next) x h at_is within set
        (subst (λ (o : Option LinkState). PlaceHolds (Some (Some next)) (link_with x o)) (sym known.1) holds) right it

    pub heard : (piece : List ℕ) (is : Bool) → unsent_of link ≡ []
        → (IsTrue is → (s : LinkState) → HoldsLink link s → HoldsLink next (record s { heard = s.heard ++ piece })) → (is ≡ false → next ≡ link)
        → LinksStand new (if_so is (Hears at piece) ++ h)
    heard piece true none holds same =
        goes_on (Hears at piece) refl (holds refl known.0 known.2)
        (subst (λ (o : Option LinkState). IsOpenWith o (λ s. s.sent ≡ s.job.bytes)) (sym known.1) (is_whole known.0 known.2 none))
    heard piece false none holds same = unchanged old new at (Some link) here (set ∙ ap (λ (l : Link). slice_set (links_of old) at (Some l)) (same refl)) h it

    pub cut : (is : Bool) → unsent_of link ≡ [] → (IsTrue is → (s : LinkState) → HoldsLink link s → HoldsLink next (record s { is_over = true }))
        → (is ≡ false → next ≡ link) → LinksStand new (if_so is (Cuts at) ++ h)
    cut true none holds same =
        goes_on (Cuts at) refl (holds refl known.0 known.2)
        (subst (λ (o : Option LinkState). IsOpenWith o (λ s. s.sent ≡ s.job.bytes)) (sym known.1) (is_whole known.0 known.2 none))
    cut false none holds same = unchanged old new at (Some link) here (set ∙ ap (λ (l : Link). slice_set (links_of old) at (Some l)) (same refl)) h it

    -- so many of the first bytes were written
    pub sent : (most : ℕ)
        → ((s : LinkState) → HoldsLink link s → HoldsLink next (record s { sent = s.sent ++ take most (unsent_of link) }))
        → LinksStand new (Sends at (take most (unsent_of link)) ∷ h)
    sent most holds =
        goes_on (Sends at (take most (unsent_of link))) refl (holds known.0 known.2)
        (subst (λ (o : Option LinkState). IsOpenWith o (λ s. IsBegun s (s.sent ++ take most (unsent_of link)))) (sym known.1) (
          drop most (unsent_of link),
          sym (ap (λ (j : Job). j.bytes) known.2.job) ∙ known.2.sent
              ∙ ap (λ (b : List ℕ). known.0.sent ++ b) (sym (take-append-drop most (unsent_of link)))
              ∙ sym (append_assoc known.0.sent (take most (unsent_of link)) (drop most (unsent_of link))),
        ))

  -- it is closed
  pub ended : (what : Next) (got : TryAnswer) → links_of new ≡ slice_set (links_of old) at None → what ≡ link.what
      → ((s : LinkState) → HoldsLink link s → GetsBy s.is_over s.heard got) → LinksStand new (Ends at what got ∷ h)
  ended what got set for gets =
      happened old new at None (Ends at what got) h refl within set refl
      (subst (λ (o : Option LinkState). IsOpenWith o (λ s. (s.what ≡ what) × GetsBy s.is_over s.heard got)) (sym known.1)
      (sym (for ∙ known.2.what), gets known.0 known.2)) it

-- ---- no link

pub vacant : (table : LinkTable) (n : ℕ) → links_of table ≡ replicate n None → LinksStand table []
vacant table n is = record { each = λ l. subst (λ (ls : List (Option Link)). PlaceHolds (slice_get ls l) None) (sym is) (nobody n l); right = tt }
  where
    nobody : (n l : ℕ) → PlaceHolds (slice_get (replicate n None) l) None
    nobody zero l = refl
    nobody (suc n) zero = refl
    nobody (suc n) (suc l) = nobody n l
