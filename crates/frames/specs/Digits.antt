-- Digits 0 to 9 and A to F, as bytes of text: 48 to 57 and 65 to 70. Two of them stand for a byte, the high one first.
use Rattle.std.specs.Prelude.{ℕ, ◌+◌, ◌-◌, ◌*◌, ◌/◌, ◌%◌, cond, ◌&&◌, List, [], ◌∷◌, Some, None, Option, nat_le, nat_lt}

-- The value of a digit; nothing for any other character.
abbrev pub digit_value : ℕ → Option ℕ
digit_value c =
    cond (nat_le 48 c && nat_le c 57) (Some (c - 48)) (cond (nat_le 65 c && nat_le c 70) (Some (c - 65 + 10)) None)

abbrev pub from_values : Option ℕ → Option ℕ → Option ℕ
from_values None low = None
from_values (Some h) None = None
from_values (Some h) (Some l) = Some (h * 16 + l)

-- The byte that two digits stand for.
abbrev pub byte_of : ℕ → ℕ → Option ℕ
byte_of first second = from_values (digit_value first) (digit_value second)

-- The digit that stands for a value below 16.
abbrev pub digit_for : ℕ → ℕ
digit_for v = cond (nat_lt v 10) (48 + v) (65 + (v - 10))

abbrev pub high_digit : ℕ → ℕ
high_digit b = digit_for (b / 16)

abbrev pub low_digit : ℕ → ℕ
low_digit b = digit_for (b % 16)

-- The digits of bytes.
abbrev pub digits : List ℕ → List ℕ
digits [] = []
digits (b ∷ bytes) = high_digit b ∷ low_digit b ∷ digits bytes
