-- What a try gets, from what was read.
use Rattle.std.proofs.Common.{◌≡◌, ◌+◌, ◌<◌, ◌≤◌, length, ℕ, List, [], ◌++◌, Option, Some, sym, ap, ◌∙◌, subst, append-nil, append_assoc, arith}
use Rattle.std.specs.Io.KnownBytes.{Consumes, IsAtEnd, Keeps}
use Rattle.as2_exchange.specs.declared.event.TryAnswer.{TryAnswer}
use Rattle.as2_exchange.specs.declared.event.TryAnswer.TheVariants.{Reply}
use Rattle.as2_messages.specs.Answering.{BeginsAnswer, AnswerIn, by_length, Gets, IsOpenAnswer}
use Rattle.as2_messages.specs.AnswerPieces.{HasKept}
use Rattle.as2_http.specs.InputReads.{read_limit, AllGave, ReadsNeeded}
use Rattle.as2_messages.specs.declared.answer_parser.AnswerParser.{AnswerParser}
use Rattle.as2_messages.specs.declared.answer_parser.ReceivedAnswer.{ReceivedAnswer}
use Rattle.as2_messages.proofs.AnswerHeads.{begins_more}
use Rattle.as2_messages.proofs.Answered.{holds_open}
use Rattle.as2_http.proofs.InputReads.{piece_of, nothing_of, at_end, gave_on, reads_none, read_on}

-- what was read is less than an answer, and the parser has it
pub record AwaitsMore (input : List ℕ) (p : AnswerParser) (unread : Option (List ℕ)) (calls later : ℕ) : Type 0 where
  pub reads : ReadsNeeded IsOpenAnswer input unread calls later
  pub gave : AllGave reads.pieces
  pub holds : HasKept p reads.read

pub awaits_none : (input : List ℕ) (p : AnswerParser) (unread : Option (List ℕ)) (calls : ℕ) → HasKept p [] → unread ≡ Some input
    → AwaitsMore input p unread calls calls
unfolding reads_none
awaits_none input p unread calls holds known = record { reads = reads_none IsOpenAnswer input unread calls known; gave = tt; holds = holds }

-- one read more
pub was_needed : (input : List ℕ) (p : AnswerParser) (unread after : Option (List ℕ)) (calls later next : ℕ) (piece : List ℕ)
    → AwaitsMore input p unread calls later → Consumes unread after piece → length piece ≤ read_limit
    → next ≡ later + 1 → ReadsNeeded IsOpenAnswer input after calls next
was_needed input p unread after calls later next piece w c most is =
    read_on IsOpenAnswer input unread after calls later next piece w.reads w.gave (holds_open p w.reads.read w.holds)
    (piece_of unread after w.reads.left piece c w.reads.known) most is

-- .. and one that failed
pub failed_needed : (input : List ℕ) (p : AnswerParser) (unread after : Option (List ℕ)) (calls later next : ℕ) → AwaitsMore input p unread calls later
    → Keeps unread after → next ≡ later + 1
    → ReadsNeeded IsOpenAnswer input after calls next
failed_needed input p unread after calls later next w kept is =
    read_on IsOpenAnswer input unread after calls later next [] w.reads w.gave (holds_open p w.reads.read w.holds)
    (nothing_of unread after w.reads.left kept w.reads.known) (omega arith) is

pub awaits_on : (input : List ℕ) (p q : AnswerParser) (unread after : Option (List ℕ)) (calls later next : ℕ) (piece : List ℕ)
    → (w : AwaitsMore input p unread calls later) → Consumes unread after piece → length piece ≤ read_limit
    → next ≡ later + 1 → 0 < length piece → HasKept q (w.reads.read ++ piece) → AwaitsMore input q after calls next
unfolding was_needed read_on
awaits_on input p q unread after calls later next piece w c most is some holds =
    record { reads = was_needed input p unread after calls later next piece w c most is; gave = gave_on w.reads.pieces piece w.gave some; holds = holds }

-- the input ended
pub holds_all : (input : List ℕ) (p : AnswerParser) (unread after : Option (List ℕ)) (calls later : ℕ) → AwaitsMore input p unread calls later
    → Consumes unread after [] → IsAtEnd after → HasKept p input
holds_all input p unread after calls later w c done =
    let none : w.reads.left ≡ [] = at_end unread after w.reads.left c done w.reads.known in
    let same : w.reads.read ≡ input = sym (w.reads.whole ∙ ap (λ (t : List ℕ). w.reads.read ++ t) none ∙ append-nil w.reads.read) in
    subst (HasKept p) same w.holds

pub answer_arrives : (input : List ℕ) (p : AnswerParser) (unread after : Option (List ℕ)) (calls later : ℕ) (piece : List ℕ) (a : ReceivedAnswer)
    (w : AwaitsMore input p unread calls later) → Consumes unread after piece
    → ((rest : List ℕ) × BeginsAnswer (w.reads.read ++ piece) a.status a.fields a.body rest) → AnswerIn input a.status a.fields a.body
answer_arrives input p unread after calls later piece a w c b =
    let m = piece_of unread after w.reads.left piece c w.reads.known in
    let rest = b.0 ++ m.left in
    let whole : (w.reads.read ++ piece) ++ m.left ≡ input = append_assoc w.reads.read piece m.left
    ∙ ap (λ (t : List ℕ). w.reads.read ++ t) (sym m.whole) ∙ sym w.reads.whole in
    by_length rest (subst (λ (i : List ℕ). BeginsAnswer i a.status a.fields a.body rest) whole
    (begins_more (w.reads.read ++ piece) m.left a.status a.fields a.body b.0 b.1))

-- ---- what is got

pub gets : (input : List ℕ) (t : TryAnswer) (a : ReceivedAnswer) → t ≡ Reply a.status a.fields a.body → AnswerIn input a.status a.fields a.body → Gets input t
gets input t a is b = subst (Gets input) (sym is) b
