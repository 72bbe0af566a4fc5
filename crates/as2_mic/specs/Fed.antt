-- What a digester was fed.
use Rattle.std.specs.Prelude.{ℕ, List}
use Rattle.sha1.specs.Sha1 as sha1
use Rattle.sha2.specs.Hashers as sha2
use Rattle.md5.specs.Md5 as md5
use Rattle.as2_mic.specs.declared.alg.Alg.{Alg}
use Rattle.as2_mic.specs.declared.alg.Alg.TheVariants as alg
use Rattle.as2_mic.specs.declared.digester.Hasher.{Hasher}
use Rattle.as2_mic.specs.declared.digester.Hasher.TheVariants as hasher
use Rattle.as2_mic.specs.declared.digester.Digester.{Digester}

-- the hasher is of that digest, and was fed those bytes
abbrev pub IsFed : Hasher → Alg → List ℕ → Type 0
IsFed (hasher.Md5 h) alg.Md5 fed = md5.Holds h fed
IsFed (hasher.Sha1 h) alg.Sha1 fed = sha1.Holds h fed
IsFed (hasher.Sha256 h) alg.Sha256 fed = sha2.Holds256 h fed
IsFed _ _ fed = ⊥

-- the digester makes MICs of that digest, and was fed those bytes
abbrev pub HasDigested : Digester → Alg → List ℕ → Type 0
HasDigested digester alg fed = IsFed digester.hasher alg fed
