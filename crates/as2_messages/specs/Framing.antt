-- What the fields of a head say of the bytes behind it (RFC 9112, sections 6 and 9.6).
use Rattle.std.specs.Prelude.{ℕ, ◌==◌, ◌&&◌, Bool, true, false, List, [], ◌∷◌, if◌then◌else◌, nat_le, Result, Ok, Err, codes}
use Rattle.std.specs.Str.Parse.{digits_value}
use Rattle.as2_names.specs.Numbers.{is_number}
use Rattle.as2_names.specs.Options.{is_word}
use Rattle.as2_framing.specs.Bodies.{IsBadBody, IsTooLargeBody}
use Rattle.as2_framing.specs.Chunks.{body_limit}
use Rattle.as2_framing.specs.declared.body.BodyFraming.{BodyFraming}
use Rattle.as2_framing.specs.declared.body.BodyFraming.TheVariants.{Length, Chunked}
use Rattle.as2_messages.specs.declared.framing.RequestFault.{RequestFault}
use Rattle.as2_messages.specs.declared.framing.RequestFault.TheVariants.{BadLength, TooLarge, TransferCoding, BadChunk}

-- how a body ends, by the number of bytes that one Content-Length says (RFC 9110, section 8.6)
abbrev pub content_length : List ℕ → Result BodyFraming RequestFault
content_length value =
    if is_number value then (if nat_le (digits_value 10 value) body_limit then Ok (Length (digits_value 10 value)) else Err TooLarge)
    else Err BadLength

-- this one transfer coding is `chunked`, in whichever case, in version 1.1 (RFC 9112, sections 6.1 and 7.1)
abbrev pub is_chunked : ℕ → List ℕ → Bool
is_chunked minor coding = minor == 1 && is_word coding (codes "chunked")

-- how a body ends, by whether that is so, and by the values of Content-Length, which may not stand beside it (RFC 9112, section 6.3)
abbrev pub coded_framing : Bool → List (List ℕ) → Result BodyFraming RequestFault
coded_framing false lengths = Err TransferCoding
coded_framing true [] = Ok Chunked
coded_framing true (length ∷ lengths) = Err BadLength

-- behind the head no body of that framing begins, however the text goes on: a chunk is bad, or the sizes are too much together
abbrev pub IsFaultyBody : BodyFraming → List ℕ → RequestFault → Type 0
IsFaultyBody framing after BadChunk = IsBadBody framing after
IsFaultyBody framing after TooLarge = IsTooLargeBody framing after
IsFaultyBody framing after other = ⊥
