-- Digits and their values: each digit has one value and each value below 16 one digit, and so it is with pairs of digits and bytes.
use Rattle.std.proofs.Common.{◌≡◌, ℕ, ◌+◌, ◌*◌, ◌/◌, ◌%◌, ◌<◌, List, [], ◌∷◌, length, Some, None, Option, refl, arith}
use Rattle.std.proofs.lemmas.Bool.Decides.{nat_tests}
use Rattle.frames.specs.Digits.{digit_value, from_values, byte_of, digit_for, high_digit, low_digit, digits}

value_of_digit : (v : ℕ) → v < 16 → digit_value (digit_for v) ≡ Some v
value_of_digit v h = grind (arith, nat_tests)

digit_of_value : (c v : ℕ) → digit_value c ≡ Some v → digit_for v ≡ c
digit_of_value c v e = grind (arith, nat_tests)

value_small : (c v : ℕ) → digit_value c ≡ Some v → v < 16
value_small c v e = grind (arith, nat_tests)

pub digit_no_newline : (v : ℕ) → digit_for v ≡ 10 → ⊥
digit_no_newline v e = grind (arith, nat_tests)

pub byte_of_digits : (b : ℕ) → b < 256 → byte_of (high_digit b) (low_digit b) ≡ Some b
byte_of_digits b h =
    let e : b / 16 * 16 + b % 16 ≡ b = omega arith in
    rw (value_of_digit (b / 16) (omega arith), value_of_digit (b % 16) (omega arith), e)

-- The digits that stand for a byte are its own.
pub record DigitsOf (first second b : ℕ) : Type 0 where
  pub high_is : high_digit b ≡ first
  pub low_is : low_digit b ≡ second
  pub bounded : b < 256

pub digits_of_byte : (first second b : ℕ) → byte_of first second ≡ Some b → DigitsOf first second b
digits_of_byte first second b e = go (digit_value first) (digit_value second) refl refl e
  where
    go : (high low : Option ℕ) → digit_value first ≡ high → digit_value second ≡ low → from_values high low ≡ Some b → DigitsOf first second b
    go None low p q e = absurd (grind arith)
    go (Some h) None p q e = absurd (grind arith)
    go (Some h) (Some l) p q e =
        let small_h = value_small first h p in
        let small_l = value_small second l q in
        let is : b ≡ h * 16 + l = cc in
        let high : b / 16 ≡ h = omega arith in
        let low : b % 16 ≡ l = omega arith in
        record { high_is = rw high (digit_of_value first h p); low_is = rw low (digit_of_value second l q); bounded = omega arith }

pub length_digits : (bytes : List ℕ) → length (digits bytes) ≡ 2 * length bytes
length_digits [] = refl
length_digits (b ∷ bytes) = omega (arith, length_digits bytes)
