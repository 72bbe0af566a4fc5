-- What is counted of failed writes.
use Rattle.std.proofs.Common.{◌≡◌, ◌∙◌, Some, Result, Ok, Err, sym}
use Rattle.as2_http.specs.declared.sending.SendFault.{SendFault}
use Rattle.as2_http.specs.declared.sending.SendFault.TheVariants.{Write, Memory}
use Rattle.as2_http.specs.declared.stream.Served.{Served}
use Rattle.as2_http.specs.declared.stream.Served.TheVariants.{WriteFault}
use Rattle.as2_http.specs.Streams.{end_by}

module _ {A Sound : Type 0} {r : Result A SendFault} where
  -- of a reply that is written whole no write has failed
  pub sent_sound : {a : A} → r ≡ Ok a → (¬ (r ≡ Err Write) → Sound) → Sound
  sent_sound is sound = sound (λ bad. let e = sym is ∙ bad in cc)

  -- nor of one for which memory was wanting
  pub cut_sound : {end : Served} (fault : SendFault) → r ≡ Err fault → end ≡ end_by fault → (¬ (r ≡ Err Write) → Sound) → ¬ (Some end ≡ Some WriteFault)
      → Sound
  cut_sound {end} Write is ends sound not = absurd (not (let e : end ≡ WriteFault = ends in cc))
  cut_sound Memory is ends sound not = sound (λ bad. let e = sym is ∙ bad in cc)
