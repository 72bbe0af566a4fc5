-- What is noted, and what is said: one after the other.
use Rattle.std.proofs.Common.{◌≡◌, ℕ, List, [], ◌∷◌, ◌++◌, refl, sym, ap, ◌∙◌, subst, append_assoc, append-nil}
use Rattle.std.proofs.KnownBytes.{Appends-nil, Appends-trans}
use Rattle.std.specs.Io.KnownBytes.{Appends}
use Rattle.as2_http.specs.Notes.{WritesAndNotes, SinkAndJournal, note}
use Rattle.as2_http.specs.Streams.{RequestAndResponse, notes}

pub says_nil : (a : SinkAndJournal) → WritesAndNotes a a [] []
says_nil a = (Appends-nil a.written, Appends-nil a.noted)

pub says_trans : (a b c : SinkAndJournal) (x y l m : List ℕ) → WritesAndNotes a b x l → WritesAndNotes b c y m → WritesAndNotes a c (x ++ y) (l ++ m)
says_trans a b c x y l m p q = (Appends-trans a.written b.written c.written x y p.0 q.0, Appends-trans a.noted b.noted c.noted l m p.1 q.1)

-- nothing more is written, and that is noted
pub says_unwritten : (a b c : SinkAndJournal) (x l m : List ℕ) → WritesAndNotes a b x l → WritesAndNotes b c [] m → WritesAndNotes a c x (l ++ m)
says_unwritten a b c x l m p q = let both = says_trans a b c x [] l m p q in (subst (Appends a.written c.written) (append-nil x) both.0, both.1)

notes_join : (moment : ℕ) (done later : List RequestAndResponse) → notes moment (done ++ later) ≡ notes moment done ++ notes moment later
notes_join moment [] later = refl
notes_join moment (x ∷ done) later = ap (λ (l : List ℕ). note moment x.0 x.1 ++ l) (notes_join moment done later)
    ∙ sym (append_assoc (note moment x.0 x.1) (notes moment done) (notes moment later))

-- P of the lines of all of them
pub notes_of_both : (moment : ℕ) (done later : List RequestAndResponse) (P : List ℕ → Type 0) → P (notes moment done ++ notes moment later)
    → P (notes moment (done ++ later))
notes_of_both moment done later P p = subst P (sym (notes_join moment done later)) p

pub says_join : (moment : ℕ) (a b c : SinkAndJournal) (x y : List ℕ) (done later : List RequestAndResponse) → WritesAndNotes a b x (notes moment done)
    → WritesAndNotes b c y (notes moment later)
    → WritesAndNotes a c (x ++ y) (notes moment (done ++ later))
says_join moment a b c x y done later p q =
    notes_of_both moment done later (λ (l : List ℕ). WritesAndNotes a c (x ++ y) l) (says_trans a b c x y (notes moment done) (notes moment later) p q)

-- .. of one more
pub says_one : (moment : ℕ) (a b c : SinkAndJournal) (x y : List ℕ) (done : List RequestAndResponse) (e : RequestAndResponse)
    → WritesAndNotes a b x (notes moment done)
    → WritesAndNotes b c y (note moment e.0 e.1) → WritesAndNotes a c (x ++ y) (notes moment (done ++ e ∷ []))
says_one moment a b c x y done e p q =
    says_join moment a b c x y done (e ∷ []) p (subst (λ (l : List ℕ). WritesAndNotes b c y l) (sym (append-nil (note moment e.0 e.1))) q)
