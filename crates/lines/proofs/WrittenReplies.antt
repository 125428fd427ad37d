-- A reply that was written over the front of the output.
use Rattle.std.proofs.Common.{◌≡◌, ℕ, Bool, true, false, cond, List, [], ◌∷◌, ◌++◌, length, drop, Some, None, sym, ap, ◌∙◌, arith}
use Rattle.std.proofs.lemmas.List.{length-append}
use Rattle.frames.specs.Digits.{digits}
use Rattle.frames.specs.Writing.{encoded_line, line_size, has_room, write_reply, written_over}
use Rattle.frames.proofs.DigitValues.{length_digits}

-- How many bytes a line takes up.
pub length_line : (bytes : List ℕ) → length (encoded_line bytes) ≡ line_size bytes
length_line bytes = omega (arith, length-append (digits bytes) (10 ∷ []), length_digits bytes)

-- Where the line fits, it is written.
pub record Written (bytes out : List ℕ) (n : ℕ) (out' : List ℕ) : Type 0 where
  pub count : n ≡ length (encoded_line bytes)
  pub memory : out' ≡ encoded_line bytes ++ drop n out

pub is_written : (bytes out : List ℕ) (n : ℕ) (out' : List ℕ) → Some n ≡ write_reply bytes out → out' ≡ written_over bytes out → Written bytes out n out'
is_written bytes out n out' e f = by_room (has_room bytes out) e f
  where
    by_room : (b : Bool) → Some n ≡ cond b (Some (line_size bytes)) None → out' ≡ cond b (encoded_line bytes ++ drop (line_size bytes) out) out → Written bytes out n out'
    by_room true e f =
        let z : n ≡ line_size bytes = cc in
        record { count = z ∙ sym (length_line bytes); memory = f ∙ ap (λ (k : ℕ). encoded_line bytes ++ drop k out) (sym z) }
    by_room false e f = let z : ◌≡◌ {A = ℕ} 0 1 = cc in elim (absurd z) [ ]
      where
        absurd : ◌≡◌ {A = ℕ} 0 1 → ⊥
        absurd z = omega arith
