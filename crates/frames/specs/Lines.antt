-- How an input is cut into lines. A newline, byte 10, ends a line; the last line, unless it is empty, may lack it.
use Rattle.std.specs.Prelude.{◌≡◌, ℕ, suc, ◌<◌, ◌≤◌, cond, List, [], ◌∷◌, length, take, drop, Some, None, Option, ◌==◌}
use Rattle.frames.specs.declared.first_line.Line.{Line}

-- A line: its bytes without the newline, and how many bytes of input it takes up.
pub record TextLine : Type 0 where
  pub text : List ℕ
  pub size : ℕ

-- The lines of an input that has one byte more in front, which is no newline.
abbrev pub longer : ℕ → List TextLine → List TextLine
longer x [] = record { text = x ∷ []; size = 1 } ∷ []
longer x (l ∷ ls) = record { text = x ∷ l.text; size = suc l.size } ∷ ls

-- The lines of an input.
abbrev pub lines : List ℕ → List TextLine
lines [] = []
lines (x ∷ xs) = cond (x == 10) (record { text = []; size = 1 } ∷ lines xs) (longer x (lines xs))

-- The line at the front of an input, and the lines after it.
pub record Cuts (input : List ℕ) (l : Line) : Type 0 where
  pub cut : lines input ≡ record { text = take l.length input; size = l.size } ∷ lines (drop l.size input)
  pub text_within : l.length ≤ l.size
  pub not_empty : 0 < l.size
  pub size_within : l.size ≤ length input

-- Only an empty input has no first line.
abbrev pub FirstLine : List ℕ → Option Line → Type 0
FirstLine input None = input ≡ []
FirstLine input (Some l) = Cuts input l
