-- What a loop has written of a line over the front of memory, and what the line that it ends with promises.
use Rattle.std.proofs.Common.{◌≡◌, ◌≢◌, ℕ, ◌+◌, ◌*◌, ◌/◌, ◌%◌, ◌<◌, ◌≤◌, List, [], ◌∷◌, ◌++◌, length, get_or, take, drop, set, sym, refl, ap, ◌∙◌, arith}
use Rattle.std.specs.List.{All}
use Rattle.std.proofs.lemmas.List.{append_assoc, drop_more, drop_at, take_more, take_all, set_at, length_push, length-take-le}
use Rattle.std.proofs.lemmas.List.Elements.{All-nil, All-cons}
use Rattle.frames.specs.Digits.{high_digit, low_digit, digits}
use Rattle.frames.specs.Writing.{encoded_line, line_size}
use Rattle.frames.specs.Lines.{lines}
use Rattle.frames.specs.Laws.{NoNewline, ReadsBack}
use Rattle.frames.proofs.Cutting.{lines_ended}
use Rattle.frames.proofs.DigitValues.{digit_no_newline, length_digits}
use Rattle.frames.proofs.OneForm.{decoded_of_digits}

digits_push : (bytes : List ℕ) (b : ℕ) → digits (bytes ++ b ∷ []) ≡ (digits bytes ++ high_digit b ∷ []) ++ low_digit b ∷ []
digits_push [] b = refl
digits_push (x ∷ bytes) b = ap (λ z. high_digit x ∷ low_digit x ∷ z) (digits_push bytes b)

-- One byte more over the front of memory.
put_one : (front memory : List ℕ) (n a : ℕ) → length front ≡ n → n < length memory →
    set (front ++ drop n memory) n a ≡ (front ++ a ∷ []) ++ drop (n + 1) memory
put_one front memory n a e h =
    ap (λ z. set (front ++ z) n a) (drop_more memory n 0 h)
    ∙ set_at front (get_or memory n 0) (drop (n + 1) memory) a n e
    ∙ sym (append_assoc front (a ∷ []) (drop (n + 1) memory))

-- The two digits of byte i.
pub put_pair : (out memory bytes : List ℕ) (i high low : ℕ) → i < length bytes → 2 * i + 1 < length memory →
    high ≡ high_digit (get_or bytes i 0) → low ≡ low_digit (get_or bytes i 0) →
    out ≡ digits (take i bytes) ++ drop (2 * i) memory →
    set (set out (2 * i) high) (2 * i + 1) low ≡ digits (take (i + 1) bytes) ++ drop (2 * (i + 1)) memory
put_pair out memory bytes i high low in_bytes room h l inv =
    let front = digits (take i bytes) in
    let n = length-take-le i bytes (omega arith) in
    let d = length_digits (take i bytes) in
    let p = length_push (digits (take i bytes)) high in
    let e : 2 * i + 1 + 1 ≡ 2 * (i + 1) = omega arith in
    ap (λ z. set (set z (2 * i) high) (2 * i + 1) low) inv
    ∙ ap (λ z. set z (2 * i + 1) low) (put_one front memory (2 * i) high (omega arith) (omega arith))
    ∙ put_one (front ++ high ∷ []) memory (2 * i + 1) low (omega arith) room
    ∙ rw (h, l, take_more bytes i 0 in_bytes, digits_push (take i bytes) (get_or bytes i 0), e)

-- The newline after all digits.
pub put_newline : (out memory bytes : List ℕ) (i : ℕ) → length bytes ≤ i → i ≤ length bytes → 2 * length bytes < length memory →
    out ≡ digits (take i bytes) ++ drop (2 * i) memory →
    set out (2 * length bytes) 10 ≡ encoded_line bytes ++ drop (line_size bytes) memory
put_newline out memory bytes i past within room inv =
    let same : i ≡ length bytes = omega arith in
    ap (λ z. set z (2 * length bytes) 10) inv
    ∙ ap (λ k. set (digits (take k bytes) ++ drop (2 * k) memory) (2 * length bytes) 10) same
    ∙ ap (λ z. set (digits z ++ drop (2 * length bytes) memory) (2 * length bytes) 10) (take_all (length bytes) bytes (omega arith))
    ∙ put_one (digits bytes) memory (2 * length bytes) 10 (length_digits bytes) room

digits_no_newline : (bytes : List ℕ) → NoNewline (digits bytes)
digits_no_newline [] = All-nil (λ x. x ≢ 10)
digits_no_newline (b ∷ bytes) =
    All-cons (λ x. x ≢ 10) (high_digit b) (low_digit b ∷ digits bytes) (digit_no_newline (b / 16))
    (All-cons (λ x. x ≢ 10) (low_digit b) (digits bytes) (digit_no_newline (b % 16)) (digits_no_newline bytes))

-- What was written keeps its law.
pub reads_back : (bytes memory : List ℕ) → All (λ b. b < 256) bytes → ReadsBack bytes (encoded_line bytes ++ memory) (line_size bytes)
reads_back bytes memory bounded =
    let n = length_digits bytes in
    let p = length_push (digits bytes) 10 in
    let size : length (digits bytes) + 1 ≡ line_size bytes = omega arith in
    record {
      one_line =
          ap lines (append_assoc (digits bytes) (10 ∷ []) memory)
          ∙ lines_ended (digits bytes) memory (digits_no_newline bytes)
          ∙ rw (size, drop_at (encoded_line bytes) memory (line_size bytes) (omega arith));
      decodes = λ some few. decoded_of_digits bytes (record { some = some; few = few; bounded = bounded });
    }
