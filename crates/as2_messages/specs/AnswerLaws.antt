-- An input holds one answer at most, and none where none can come. No bytes are awaited behind an answer whose head tells its
-- end. None are awaited where no answer can come any more.
use Rattle.std.specs.Prelude.{◌≡◌, ℕ, List}
use Rattle.as2_messages.specs.Answering.{AnswerIn, BeginsAnswer, IsNoAnswer, IsOpenAnswer}
use Rattle.as2_messages.specs.Requests.{Fields}

-- two answers of an input are one
abbrev pub HoldsOneAnswer : Type 0
HoldsOneAnswer = (input : List ℕ) (status code : ℕ) (fields others : Fields) (body other : List ℕ) → AnswerIn input status fields body → AnswerIn input code others other
    → (status ≡ code) × (fields ≡ others) × (body ≡ other)

-- an input that begins with no answer, however it goes on, has none
abbrev pub NeverAnswers : Type 0
NeverAnswers = (input : List ℕ) (status : ℕ) (fields : Fields) (body : List ℕ) → IsNoAnswer input → ¬ (AnswerIn input status fields body)

-- a text that begins with a whole answer isn't open
abbrev pub NeverOpensAnswers : Type 0
NeverOpensAnswers = (text : List ℕ) (status : ℕ) (fields : Fields) (body rest : List ℕ) → BeginsAnswer text status fields body rest → ¬ (IsOpenAnswer text)

-- .. and neither is one that begins with none, however it goes on
abbrev pub NeverOpensNone : Type 0
NeverOpensNone = (text : List ℕ) → IsNoAnswer text → ¬ (IsOpenAnswer text)
