-- The parser of a number in a range.
use Rattle.std.proofs.Common.{◌≡◌, ◌∙◌, ◌==◌, ◌<◌, ◌≤◌, ◌^◌, ℕ, ℤ, Bool, Some, pos, subst, ap, ap₂, if◌then◌else◌, Less, Equal, Greater, is_lt, nat_lt, true, false, arith, refl}
use Rattle.std.proofs.Math.Nat.{min-eq_left}
use Rattle.std.proofs.lemmas.Bool.{le-ltb, lt-ltb}
use Rattle.std.specs.Ordering.{nat_cmp, ord_max, ord_min}
use Rattle.std.specs.Int.{saturate_unsigned, w64}
use Rattle.clap.specs.Words.{NarrowsTo}
use Rattle.clap.specs.declared.builder.value_parser.ValueParser.{ValueParser}
use Rattle.clap.specs.declared.builder.value_parser.ValueParser.TheVariants.{Unsigned}

-- the parser of all numbers of 64 bits
abbrev any : ValueParser
any = Unsigned 0 18446744073709551615

compared : (less equal : Bool) → is_lt (if less then Less else if equal then Equal else Greater) ≡ less
compared true equal = refl
compared false true = refl
compared false false = refl

less : (a b : ℕ) → is_lt (nat_cmp a b) ≡ nat_lt a b
less a b = compared (nat_lt a b) (a == b)

least : (low : ℕ) → low < 2 ^ 63 → ord_max nat_cmp 0 (saturate_unsigned w64 (pos low)) ≡ low
least low fits =
    let low_is : saturate_unsigned w64 (pos low) ≡ low = min-eq_left (omega (arith, fits)) ∙ omega arith in
    ap (ord_max nat_cmp 0) low_is
    ∙ ap (λ (b : Bool). if b then 0 else low) (less low 0 ∙ le-ltb low 0 (omega arith))

most : (high : ℕ) → high < 2 ^ 63 → ord_min nat_cmp 18446744073709551615 high ≡ high
most high fits =
    ap (λ (b : Bool). if b then high else 18446744073709551615)
    (less high 18446744073709551615 ∙ lt-ltb high 18446744073709551615 (omega (arith, fits)))

pub narrowed : (r : ValueParser) (a b : ℤ) (low high : ℕ) → a ≡ pos low → b ≡ pos high → low ≤ high → high < 2 ^ 63
    → NarrowsTo any (Some a) (Some b) r → r ≡ Unsigned low high
narrowed r a b low high at_low at_high order fits h =
    subst (λ e. NarrowsTo any (Some (pos low)) (Some e) r) at_high (subst (λ s. NarrowsTo any (Some s) (Some b) r) at_low h)
    ∙ ap₂ Unsigned (least low (omega (arith, order, fits))) (most high fits)
