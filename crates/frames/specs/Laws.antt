-- What reading, writing and cutting promise, in words that do not say how they are done.
use Rattle.std.specs.Prelude.{◌≡◌, ℕ, ◌+◌, ◌≤◌, ◌⊎◌, List, [], ◌∷◌, length, take, drop, Some, None, Option, ◌≢◌, slice_index, All}
use Rattle.frames.specs.Digits.{digits}
use Rattle.frames.specs.Decoding.{decoded}
use Rattle.frames.specs.FrameSize.{FitsFrame}
use Rattle.frames.specs.Lines.{lines}
use Rattle.frames.specs.declared.first_line.Line.{Line}

-- What is read is written again as the same digits; and what is not read are the digits of no bytes that fit a frame.
abbrev pub Decodes : List ℕ → Option (List ℕ) → Type 0
Decodes text (Some bytes) = FitsFrame bytes × (digits bytes ≡ text)
Decodes text None = (bytes : List ℕ) → FitsFrame bytes → digits bytes ≢ text

-- What is written is one line; and where a frame can hold the bytes, its text stands for them.
pub record ReadsBack (bytes out : List ℕ) (size : ℕ) : Type 0 where
  pub one_line : lines out ≡ record { text = digits bytes; size = size } ∷ lines (drop size out)
  pub decodes : 1 ≤ length bytes → length bytes ≤ 10 → decoded (digits bytes) ≡ Some bytes

abbrev pub Writes : List ℕ → Option ℕ → List ℕ → Type 0
Writes bytes (Some size) out = ReadsBack bytes out size
Writes bytes None out = Unit {0}

abbrev pub NoNewline : List ℕ → Type 0
NoNewline text = All (λ b. b ≢ 10) text

-- A line has no newline in its text. It ends with a newline, or where the input ends.
pub record LineEnds (input : List ℕ) (l : Line) : Type 0 where
  pub text : NoNewline (take l.length input)
  pub end : ((slice_index input l.length ≡ 10) × (l.size ≡ l.length + 1)) ⊎ ((l.length ≡ length input) × (l.size ≡ l.length))

abbrev pub Ends : List ℕ → Option Line → Type 0
Ends input (Some l) = LineEnds input l
Ends input None = input ≡ []
