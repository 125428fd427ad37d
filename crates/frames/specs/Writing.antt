-- How bytes are written as a line over the front of memory.
use Rattle.std.specs.Prelude.{ℕ, ◌+◌, ◌*◌, Bool, cond, List, [], ◌∷◌, ◌++◌, length, drop, Some, None, Option, nat_lt}
use Rattle.frames.specs.Digits.{digits}

-- The digits of bytes, and the newline, byte 10.
abbrev pub encoded_line : List ℕ → List ℕ
encoded_line bytes = digits bytes ++ 10 ∷ []

-- How many bytes the line takes up.
abbrev pub line_size : List ℕ → ℕ
line_size bytes = 2 * length bytes + 1

abbrev pub has_room : List ℕ → List ℕ → Bool
has_room bytes out = nat_lt (2 * length bytes) (length out)

abbrev pub write_reply : List ℕ → List ℕ → Option ℕ
write_reply bytes out = cond (has_room bytes out) (Some (line_size bytes)) None

-- What memory holds once the line was written; without room for it, what it held before.
abbrev pub written_over : List ℕ → List ℕ → List ℕ
written_over bytes out = cond (has_room bytes out) (encoded_line bytes ++ drop (line_size bytes) out) out
