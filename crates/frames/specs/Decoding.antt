-- Which bytes a line of digits stands for.
use Rattle.std.specs.Prelude.{ℕ, ◌%◌, Bool, cond, ◌&&◌, List, [], ◌∷◌, length, Some, None, Option, ◌==◌, nat_le}
use Rattle.frames.specs.Digits.{byte_of}

-- A byte before the bytes that follow; nothing where one of the two is missing.
abbrev pub with_byte : Option ℕ → Option (List ℕ) → Option (List ℕ)
with_byte None rest = None
with_byte (Some b) None = None
with_byte (Some b) (Some bytes) = Some (b ∷ bytes)

-- The bytes that pairs of digits stand for.
abbrev pub pairs : List ℕ → Option (List ℕ)
pairs [] = Some []
pairs (a ∷ []) = None
pairs (a ∷ b ∷ text) = with_byte (byte_of a b) (pairs text)

-- How many digits a line has: 1 to 20, in pairs.
abbrev pub line_length : ℕ → Bool
line_length count = nat_le 1 count && (nat_le count 20 && count % 2 == 0)

-- What the text of a line stands for. Any other text is malformed and stands for nothing.
unfoldable pub decoded : List ℕ → Option (List ℕ)
decoded text = cond (line_length (length text)) (pairs text) None
