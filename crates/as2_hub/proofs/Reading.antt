-- More bytes come from a connection, and what waits is answered.
use Rattle.std.proofs.Common.{◌≡◌, inl, inr, ℕ, ◌+◌, ◌<◌, ◌≤◌, Bool, true, false, true≢false, List, [], ◌∷◌, ◌++◌, drop, take, ◌-◌, length, Option, Some, None, IsSome, is_some, arith, refl, sym, ap, subst, ◌∙◌, length-append, length-drop}
use Rattle.std.proofs.lemmas.List.{drop_all, take_all}
use Rattle.as2_messages.specs.Parsing.{HasTaken}
use Rattle.as2_messages.specs.declared.parser.RequestParser.{RequestParser}
use Rattle.as2_messages.proofs.Framed.{begins_append, refuses_append}
use Rattle.as2_hub.specs.Calls.{DeskCall, GoesOnBehind, EndsBehind, MayStay, ReadsTo, ReadsToEnd, AnswersInOrder}
use Rattle.as2_hub.specs.Talks.{UnansweredBy, HoldsUnanswered, HoldsRest, KeepsBehind, unanswered_of}
use Rattle.as2_hub.specs.declared.beginning.Beginning.{Beginning}
use Rattle.as2_hub.specs.declared.beginning.Beginning.TheVariants as beginning
use Rattle.as2_hub.specs.declared.talk.Talk.{Talk}

-- ---- more bytes behind a text

goes_on_append : (text more rest : List ℕ) (b : Beginning) (stays : Bool) → GoesOnBehind text b stays rest → GoesOnBehind (text ++ more) b stays (rest ++ more)
goes_on_append text more rest (beginning.Request r) true it = (it.0, begins_append text more r rest it.1)
goes_on_append text more rest (beginning.Request r) false it = absurd it
goes_on_append text more rest (beginning.NoRequest refused) stays it = absurd it

ends_append : (text more : List ℕ) (b : Beginning) (stays : Bool) → EndsBehind text b stays → EndsBehind (text ++ more) b stays
ends_append text more (beginning.Request r) true it = absurd it
ends_append text more (beginning.Request r) false it = (it.0 ++ more, begins_append text more r it.0 it.1)
ends_append text more (beginning.NoRequest refused) stays it = refuses_append text more refused it

pub reads_append : (text more : List ℕ) (calls : List DeskCall) (rest : List ℕ) → ReadsTo text calls rest → ReadsTo (text ++ more) calls (rest ++ more)
reads_append text more [] rest it = ap (λ (x : List ℕ). x ++ more) it
reads_append text more (e ∷ earlier) rest it = (it.0 ++ more, reads_append text more earlier it.0 it.1, goes_on_append it.0 more rest e.asked e.stays it.2)

pub reads_end_append : (text more : List ℕ) (calls : List DeskCall) → ReadsToEnd text calls → ReadsToEnd (text ++ more) calls
reads_end_append text more [] it = absurd it
reads_end_append text more (e ∷ earlier) it = (it.0 ++ more, reads_append text more earlier it.0 it.1, ends_append it.0 more e.asked e.stays it.2)

-- some bytes before or behind others are some
pub some_before : (xs ys : List ℕ) → ¬ (xs ≡ []) → ¬ (xs ++ ys ≡ [])
some_before [] ys some = absurd (some refl)
some_before (x ∷ xs) ys some = λ none. cc

pub some_behind : (xs ys : List ℕ) → ¬ (ys ≡ []) → ¬ (xs ++ ys ≡ [])
some_behind [] ys some = some
some_behind (x ∷ xs) ys some = λ none. cc

-- the connection is given up, with some bytes that came
pub gave_up : (p : Option RequestParser) (w : Option Beginning) (n : ℕ) (text bytes : List ℕ) → p ≡ None → w ≡ None → 0 < length bytes → length bytes ≤ n
    → UnansweredBy p w true 0 (drop n bytes) (text ++ bytes)
gave_up p w n text bytes none free some all =
    subst (λ (o : Option RequestParser). UnansweredBy o w true 0 (drop n bytes) (text ++ bytes)) (sym none)
    (subst (λ (o : Option Beginning). UnansweredBy None o true 0 (drop n bytes) (text ++ bytes)) (sym free)
    (refl, some_behind text bytes (λ nothing. omega (arith, some, ap length nothing)), refl, drop_all n bytes all))

-- nothing more is read, and what waits begins a longer text too
spent_append : (w : Option Beginning) (spent : Bool) (taken : ℕ) (behind text more : List ℕ) → UnansweredBy None w spent taken behind text
    → UnansweredBy None w spent taken behind (text ++ more)
spent_append None spent taken behind text more it = (it.0, some_before text more it.1, it.2, it.3)
spent_append (Some (beginning.Request r)) spent taken behind text more it = (
  it.0,
  (
    it.1.0 ++ more,
    begins_append text more r it.1.0 it.1.1,
    some_before it.1.0 more it.1.2,
    omega (arith, it.1.3, length-append text more, length-append it.1.0 more),
  ),
)
spent_append (Some (beginning.NoRequest refused)) spent taken behind text more it = refuses_append text more refused it

-- memory wasn't there for what came behind
spent_of : (p : Option RequestParser) (w : Option Beginning) (spent : Bool) (taken : ℕ) (behind other text : List ℕ) → UnansweredBy p w spent taken behind text
    → ¬ (behind ≡ []) → (IsSome p → taken + length behind ≡ length text) → UnansweredBy None w true taken other text
spent_of (Some p) None spent taken behind other text it some counted = absurd (some it.1)
spent_of (Some p) (Some (beginning.Request r)) spent taken behind other text it some counted = (refl, (behind, it.1, some, omega (arith, counted refl)))
spent_of (Some p) (Some (beginning.NoRequest refused)) spent taken behind other text it some counted = absurd it
spent_of None None spent taken behind other text it some counted = absurd (some it.3)
spent_of None (Some (beginning.Request r)) spent taken behind other text it some counted = (refl, it.1)
spent_of None (Some (beginning.NoRequest refused)) spent taken behind other text it some counted = it

none_not_some : {A : Type 0} (o : Option A) → o ≡ None → IsSome o → ⊥
none_not_some None is some = absurd (true≢false (sym some))
none_not_some (Some x) is some = cc

-- what is unread of a talk with such fields
unread_at : (t : Talk) (p : Option RequestParser) (w : Option Beginning) (s : Bool) (n : ℕ) (b text : List ℕ) → t.parser ≡ p → t.waiting ≡ w
    → t.is_spent ≡ s → t.taken ≡ n → t.behind ≡ b
    → UnansweredBy p w s n b text → UnansweredBy t.parser t.waiting t.is_spent t.taken t.behind text
unread_at t p w s n b text parser waiting spent taken behind it =
    subst (λ (o : Option RequestParser). UnansweredBy o t.waiting t.is_spent t.taken t.behind text) (sym parser)
    (subst (λ (o : Option Beginning). UnansweredBy p o t.is_spent t.taken t.behind text) (sym waiting)
    (subst (λ (o : Bool). UnansweredBy p w o t.taken t.behind text) (sym spent)
    (subst (λ (k : ℕ). UnansweredBy p w s k t.behind text) (sym taken)
    (subst (λ (x : List ℕ). UnansweredBy p w s n x text) (sym behind) it))))

-- .. and back
unread_as : (t : Talk) (p : Option RequestParser) (w : Option Beginning) (text : List ℕ) → t.parser ≡ p → t.waiting ≡ w
    → UnansweredBy t.parser t.waiting t.is_spent t.taken t.behind text → UnansweredBy p w t.is_spent t.taken t.behind text
unread_as t p w text parser waiting it =
    subst (λ (o : Option Beginning). UnansweredBy p o t.is_spent t.taken t.behind text) waiting
    (subst (λ (o : Option RequestParser). UnansweredBy o t.waiting t.is_spent t.taken t.behind text) parser it)

some_is : {A : Type 0} (o : Option A) (x : A) → o ≡ Some x → IsSome o
some_is {A} o x is = subst (λ (y : Option A). IsSome y) (sym is) refl

unread_same : (old new : Talk) → new.taken ≡ old.taken → new.behind ≡ old.behind → unanswered_of new ≡ unanswered_of old
unread_same old new taken behind = ap (λ (n : ℕ). n + length new.behind) taken ∙ ap (λ (l : List ℕ). old.taken + length l) behind

-- what goes by these alone
pub rest_same : (old new : Talk) (input : List ℕ) (calls : List DeskCall) → new.parser ≡ old.parser → new.waiting ≡ old.waiting → new.is_spent ≡ old.is_spent
    → new.taken ≡ old.taken → new.behind ≡ old.behind
    → HoldsRest old input calls → HoldsRest new input calls
rest_same old new input calls parser waiting spent taken behind (inl it) =
    let same : unanswered_of new ≡ unanswered_of old = unread_same old new taken behind in inl (record {
      text = it.text;
      answered = it.answered;
      holds = record {
        unread = unread_at new old.parser old.waiting old.is_spent old.taken old.behind it.text parser waiting spent taken
            behind it.holds.unread;
        no_more = omega (arith, same, it.holds.no_more);
        counted = λ some. same ∙ it.holds.counted (subst (λ (o : Option RequestParser). IsSome o) parser some);
      };
    })
rest_same old new input calls parser waiting spent taken behind (inr it) =
    inr (record {
      answered = it.answered;
      unread = parser ∙ it.unread;
      none = waiting ∙ it.none;
      nothing = unread_same old new taken behind ∙ it.nothing;
    })

pub is_none_of : {A : Type 0} (o : Option A) → is_some o ≡ false → o ≡ None
is_none_of None is = refl
is_none_of (Some x) is = absurd (true≢false is)

-- what is behind the first bytes
pub rest_of : (n : ℕ) (xs : List ℕ) → take (length xs - n) (drop n xs) ≡ drop n xs
rest_of n xs = take_all (length xs - n) (drop n xs) (omega (arith, length-drop n xs))

-- ---- a piece came

-- .. and nothing more is read
pub heard_nothing : (old new : Talk) (piece input : List ℕ) (calls : List DeskCall) → old.parser ≡ None → new.parser ≡ None → new.waiting ≡ old.waiting
    → new.is_spent ≡ old.is_spent → new.taken ≡ old.taken → new.behind ≡ old.behind
    → HoldsRest old input calls → HoldsRest new (input ++ piece) calls
heard_nothing old new piece input calls was is same spent taken behind (inr ended) = inr (record {
  answered = reads_end_append input piece calls ended.answered;
  unread = is;
  none = same ∙ ended.none;
  nothing = unread_same old new taken behind ∙ ended.nothing;
})
heard_nothing old new piece input calls was is same spent taken behind (inl it) = inl (record {
  text = it.text ++ piece;
  answered = reads_append input piece calls it.text it.answered;
  holds = record {
    unread = unread_at new None old.waiting old.is_spent old.taken old.behind (it.text ++ piece) is same spent taken
        behind
        (spent_append old.waiting old.is_spent old.taken old.behind it.text piece
        (unread_as old None old.waiting it.text was refl it.holds.unread));
    no_more = omega (arith, it.holds.no_more, unread_same old new taken behind, length-append it.text piece);
    counted = λ some. absurd (none_not_some new.parser is some);
  };
})

-- .. behind what waits
unread_more : (p : RequestParser) (b : Beginning) (spent : Bool) (taken : ℕ) (behind text more : List ℕ)
    → UnansweredBy (Some p) (Some b) spent taken behind text
    → UnansweredBy (Some p) (Some b) spent taken (behind ++ more) (text ++ more)
unread_more p (beginning.Request r) spent taken behind text more it = (it.0, begins_append text more r behind it.1)
unread_more p (beginning.NoRequest refused) spent taken behind text more it = absurd it

-- what was kept behind a talk that holds an unread text
kept_behind : (mid new : Talk) (more text input : List ℕ) (calls : List DeskCall) → KeepsBehind mid new more → ReadsTo input calls text
    → UnansweredBy mid.parser mid.waiting mid.is_spent mid.taken (mid.behind ++ more) text → unanswered_of mid + length more ≤ length text
    → (IsSome mid.parser → unanswered_of mid + length more ≡ length text) → HoldsRest new input calls
kept_behind mid new more text input calls (inl k) reads unread no_more counted =
    let taken : new.taken ≡ mid.taken = ap (λ (t : Talk). t.taken) k.0 in
    let behind : length new.behind ≡ length mid.behind + length more = ap length k.1 ∙ length-append mid.behind more in inl (record {
      text = text;
      answered = reads;
      holds = record {
        unread = unread_at new mid.parser mid.waiting mid.is_spent mid.taken (mid.behind ++ more) text (ap (λ (t : Talk). t.parser) k.0)
            (ap (λ (t : Talk). t.waiting) k.0) (ap (λ (t : Talk). t.is_spent) k.0) taken k.1 unread;
        no_more = omega (arith, taken, behind, no_more);
        counted = λ some.
            let count = counted (subst (λ (o : Option RequestParser). IsSome o) (ap (λ (t : Talk). t.parser) k.0) some) in
            omega (arith, taken, behind, count);
      };
    })
kept_behind mid new more text input calls (inr k) reads unread no_more counted =
    let taken : new.taken ≡ mid.taken = ap (λ (t : Talk). t.taken) k.1 in
    let behind : length new.behind ≡ 0 = ap length k.2 in inl (record {
      text = text;
      answered = reads;
      holds = record {
        unread = unread_at new None mid.waiting true mid.taken new.behind text (ap (λ (t : Talk). t.parser) k.1) (ap (λ (t : Talk). t.waiting) k.1)
            (ap (λ (t : Talk). t.is_spent) k.1) taken refl
            (spent_of mid.parser mid.waiting mid.is_spent mid.taken (mid.behind ++ more) new.behind text unread
            (some_behind mid.behind more k.0)
            (λ some. omega (arith, counted some, length-append mid.behind more)));
        no_more = omega (arith, taken, behind, no_more);
        counted = λ some. absurd (none_not_some new.parser (ap (λ (t : Talk). t.parser) k.1) some);
      };
    })

pub heard_behind : (old new : Talk) (p : RequestParser) (b : Beginning) (piece input : List ℕ) (calls : List DeskCall) → old.parser ≡ Some p
    → old.waiting ≡ Some b
    → KeepsBehind old new piece → HoldsRest old input calls → HoldsRest new (input ++ piece) calls
heard_behind old new p b piece input calls was waits keeps (inr ended) = absurd (none_not_some old.parser ended.unread (some_is old.parser p was))
heard_behind old new p b piece input calls was waits keeps (inl it) =
    let count : unanswered_of old ≡ length it.text = it.holds.counted (some_is old.parser p was) in
    kept_behind old new piece (it.text ++ piece) (input ++ piece) calls keeps (reads_append input piece calls it.text it.answered)
    (subst (λ (o : Option RequestParser). UnansweredBy o old.waiting old.is_spent old.taken (old.behind ++ piece) (it.text ++ piece)) (sym was)
    (subst (λ (w : Option Beginning). UnansweredBy (Some p) w old.is_spent old.taken (old.behind ++ piece) (it.text ++ piece)) (sym waits)
    (unread_more p b old.is_spent old.taken old.behind it.text piece (unread_as old (Some p) (Some b) it.text was waits it.holds.unread))))
    (omega (arith, count, length-append it.text piece))
    (λ some. omega (arith, count, length-append it.text piece))

pub heard_while_waiting : (old new : Talk) (p : RequestParser) (piece input : List ℕ) (calls : List DeskCall) → old.parser ≡ Some p → is_some old.waiting ≡ true
    → KeepsBehind (record old { parser = Some p }) new piece → HoldsRest old input calls → HoldsRest new (input ++ piece) calls
heard_while_waiting old new p piece input calls was waits keeps it = go old.waiting refl waits
  where
    go : (w : Option Beginning) → old.waiting ≡ w → is_some w ≡ true → HoldsRest new (input ++ piece) calls
    go None is some = absurd (true≢false (sym some))
    go (Some b) is some = heard_behind (record old { parser = Some p }) new p b piece input calls refl is keeps
        (rest_same old (record old { parser = Some p }) input calls (sym was) refl refl refl refl it)

-- .. and the parser took the first bytes of it
pub heard_parsed : (old mid new : Talk) (p : RequestParser) (n : ℕ) (piece input : List ℕ) (calls : List DeskCall) → old.parser ≡ Some p → old.waiting ≡ None
    → n ≤ length piece
    → mid.taken ≤ old.taken + n → (IsSome mid.parser → mid.taken ≡ old.taken + n) → mid.behind ≡ old.behind
    → ((text : List ℕ) → HasTaken p text → old.taken ≡ length text
    → UnansweredBy mid.parser mid.waiting mid.is_spent mid.taken (drop n piece) (text ++ piece))
    → KeepsBehind mid new (drop n piece) → HoldsRest old input calls → HoldsRest new (input ++ piece) calls
heard_parsed old mid new p n piece input calls was free within most taken same parsed keeps (inr ended) =
    absurd (none_not_some old.parser ended.unread (some_is old.parser p was))
heard_parsed old mid new p n piece input calls was free within most taken same parsed keeps (inl it) =
    let before : UnansweredBy (Some p) None old.is_spent old.taken old.behind it.text = unread_as old (Some p) None it.text was free it.holds.unread in
    let nothing : mid.behind ≡ [] = same ∙ before.1 in
    let count : unanswered_of old ≡ length it.text = it.holds.counted (some_is old.parser p was) in
    let none : length old.behind ≡ 0 = ap length before.1 in
    let gone : length mid.behind ≡ 0 = ap length nothing in
    let all : old.taken ≡ length it.text = omega (arith, count, none) in
    kept_behind mid new (drop n piece) (it.text ++ piece) (input ++ piece) calls keeps (reads_append input piece calls it.text it.answered)
    (subst (λ (x : List ℕ). UnansweredBy mid.parser mid.waiting mid.is_spent mid.taken (x ++ drop n piece) (it.text ++ piece)) (sym nothing)
    (parsed it.text before.0 all))
    (omega (arith, all, gone, within, most, length-append it.text piece, length-drop n piece))
    (λ some. omega (arith, all, gone, within, taken some, length-append it.text piece, length-drop n piece))

-- ---- what waits is answered

-- .. and the connection stays open
pub settled_on : (old new : Talk) (e : DeskCall) (input : List ℕ) (calls : List DeskCall) → old.waiting ≡ Some e.asked → e.stays ≡ true
    → MayStay e.asked e.stays
    → ((p : RequestParser) → old.parser ≡ Some p → HasTaken p [] → HoldsUnanswered new old.behind)
    → (old.parser ≡ None → (new.parser ≡ None) × (new.waiting ≡ None) × (new.is_spent ≡ old.is_spent) × (new.taken ≡ 0) × (new.behind ≡ []))
    → HoldsRest old input calls → HoldsRest new input (e ∷ calls)
settled_on old new e input calls waits stays last on off (inr ended) = absurd (none_not_some old.waiting ended.none (some_is old.waiting e.asked waits))
settled_on old new e input calls waits stays last on off (inl it) =
    go old.parser e.asked refl refl (subst (λ (s : Bool). MayStay e.asked s) stays last)
    (unread_as old old.parser (Some e.asked) it.text refl waits it.holds.unread)
  where
    behind : (b : Beginning) (rest : List ℕ) → e.asked ≡ b → GoesOnBehind it.text b true rest → ReadsTo input (e ∷ calls) rest
    behind b rest is begins = (
      it.text,
      it.answered,
      subst (λ (x : Beginning). GoesOnBehind it.text x e.stays rest) (sym is)
          (subst (λ (s : Bool). GoesOnBehind it.text b s rest) (sym stays) begins),
    )

    last_of : (b : Beginning) → e.asked ≡ b → MayStay e.asked true → MayStay b true
    last_of b is it = subst (λ (x : Beginning). MayStay x true) is it

    go : (o : Option RequestParser) (b : Beginning) → old.parser ≡ o → e.asked ≡ b → MayStay e.asked true
        → UnansweredBy o (Some b) old.is_spent old.taken old.behind it.text → HoldsRest new input (e ∷ calls)
    go (Some p) (beginning.Request r) was is may u = inl (record {
      text = old.behind;
      answered = behind (beginning.Request r) old.behind is (last_of (beginning.Request r) is may, u.1);
      holds = on p was u.0;
    })
    go (Some p) (beginning.NoRequest refused) was is may u = absurd u
    go None (beginning.Request r) was is may u = inl (record {
      text = u.1.0;
      answered = behind (beginning.Request r) u.1.0 is (last_of (beginning.Request r) is may, u.1.1);
      holds = record {
        unread = unread_at new None None old.is_spent 0 [] u.1.0 (off was).0 (off was).1 (off was).2 (off was).3 (off was).4
            (u.0, u.1.2, refl, refl);
        no_more = omega (arith, (off was).3, ap length (off was).4);
        counted = λ some. absurd (none_not_some new.parser (off was).0 some);
      };
    })
    go None (beginning.NoRequest refused) was is may u = inr (record {
      answered = (it.text, it.answered, subst (λ (x : Beginning). EndsBehind it.text x e.stays) (sym is) u);
      unread = (off was).0;
      none = (off was).1;
      nothing = omega (arith, (off was).3, ap length (off was).4);
    })

-- .. and the connection ends
pub settled_end : (old new : Talk) (e : DeskCall) (input : List ℕ) (calls : List DeskCall) → old.waiting ≡ Some e.asked → e.stays ≡ false → new.parser ≡ None
    → new.waiting ≡ None → unanswered_of new ≡ 0
    → HoldsRest old input calls → HoldsRest new input (e ∷ calls)
settled_end old new e input calls waits stays off none nothing (inr ended) = absurd (none_not_some old.waiting ended.none (some_is old.waiting e.asked waits))
settled_end old new e input calls waits stays off none nothing (inl it) = inr (record {
  answered = (
    it.text,
    it.answered,
    subst (λ (s : Bool). EndsBehind it.text e.asked s) (sym stays)
        (go old.parser e.asked (unread_as old old.parser (Some e.asked) it.text refl waits it.holds.unread)),
  );
  unread = off;
  none = none;
  nothing = nothing;
})
  where
    go : (o : Option RequestParser) (b : Beginning) → UnansweredBy o (Some b) old.is_spent old.taken old.behind it.text → EndsBehind it.text b false
    go (Some p) (beginning.Request r) u = (old.behind, u.1)
    go (Some p) (beginning.NoRequest refused) u = absurd u
    go None (beginning.Request r) u = (u.1.0, u.1.1)
    go None (beginning.NoRequest refused) u = u

-- what waits is answered by a call more
pub in_order_with : (t : Talk) (e : DeskCall) (input : List ℕ) (calls : List DeskCall) → t.waiting ≡ Some e.asked → MayStay e.asked e.stays
    → HoldsRest t input calls → AnswersInOrder input (e ∷ calls)
in_order_with t e input calls waits last (inr ended) = absurd (none_not_some t.waiting ended.none (some_is t.waiting e.asked waits))
in_order_with t e input calls waits last (inl it) =
    go t.parser e.asked e.stays refl refl last (unread_as t t.parser (Some e.asked) it.text refl waits it.holds.unread)
  where
    goes : (b : Beginning) (s : Bool) (rest : List ℕ) → e.asked ≡ b → e.stays ≡ s → GoesOnBehind it.text b s rest → AnswersInOrder input (e ∷ calls)
    goes b s rest asked stays begins =
        inl (
          rest,
          (
            it.text,
            it.answered,
            subst (λ (x : Beginning). GoesOnBehind it.text x e.stays rest) (sym asked) (subst (λ (x : Bool). GoesOnBehind it.text b x rest) (sym stays) begins),
          ),
        )

    ends : (b : Beginning) (s : Bool) → e.asked ≡ b → e.stays ≡ s → EndsBehind it.text b s → AnswersInOrder input (e ∷ calls)
    ends b s asked stays begins =
        inr (
          it.text,
          it.answered,
          subst (λ (x : Beginning). EndsBehind it.text x e.stays) (sym asked) (subst (λ (x : Bool). EndsBehind it.text b x) (sym stays) begins),
        )

    may : (b : Beginning) (s : Bool) → e.asked ≡ b → e.stays ≡ s → MayStay e.asked e.stays → MayStay b s
    may b s asked stays it = subst (λ (x : Bool). MayStay b x) stays (subst (λ (x : Beginning). MayStay x e.stays) asked it)

    go : (o : Option RequestParser) (b : Beginning) (s : Bool) → e.asked ≡ b → e.stays ≡ s → MayStay e.asked e.stays
        → UnansweredBy o (Some b) t.is_spent t.taken t.behind it.text → AnswersInOrder input (e ∷ calls)
    go (Some p) (beginning.Request r) true asked stays m u =
        goes (beginning.Request r) true t.behind asked stays (may (beginning.Request r) true asked stays m, u.1)
    go (Some p) (beginning.Request r) false asked stays m u = ends (beginning.Request r) false asked stays (t.behind, u.1)
    go (Some p) (beginning.NoRequest refused) s asked stays m u = absurd u
    go None (beginning.Request r) true asked stays m u =
        goes (beginning.Request r) true u.1.0 asked stays (may (beginning.Request r) true asked stays m, u.1.1)
    go None (beginning.Request r) false asked stays m u = ends (beginning.Request r) false asked stays (u.1.0, u.1.1)
    go None (beginning.NoRequest refused) s asked stays m u = ends (beginning.NoRequest refused) s asked stays u

-- these calls answer what the input begins with
pub in_order : (t : Talk) (input : List ℕ) (calls : List DeskCall) → HoldsRest t input calls → AnswersInOrder input calls
in_order t input calls (inl it) = inl (it.text, it.answered)
in_order t input calls (inr it) = inr it.answered
