-- Reading and writing have one form: what is written is read back as the same bytes, and what is read is written again as the same digits.
use Rattle.std.proofs.Common.{◌≡◌, ℕ, ◌*◌, ◌<◌, true, false, List, [], ◌∷◌, length, Some, None, Option, sym, refl, ◌∙◌, ⊎_elim, arith}
use Rattle.std.proofs.lemmas.Bool.{cases_Bool}
use Rattle.std.proofs.lemmas.List.Elements.{All-nil, All-cons, All-head, All-tail}
use Rattle.std.specs.List.{All}
use Rattle.frames.specs.Digits.{byte_of, digits}
use Rattle.frames.specs.Decoding.{with_byte, pairs, line_length, decoded}
use Rattle.frames.specs.FrameSize.{FitsFrame}
use Rattle.frames.specs.Laws.{Decodes}
use Rattle.frames.proofs.DigitValues.{byte_of_digits, digits_of_byte, length_digits}
use Rattle.frames.proofs.Reading.{decoded_pairs, decoded_malformed, line_length_true, line_length_from}

-- What is written is read back.
pairs_of_digits : (bytes : List ℕ) → All (λ b. b < 256) bytes → pairs (digits bytes) ≡ Some bytes
pairs_of_digits [] bounded = refl
pairs_of_digits (b ∷ bytes) bounded =
    rw (byte_of_digits b (All-head (λ x. x < 256) b bytes bounded), pairs_of_digits bytes (All-tail (λ x. x < 256) b bytes bounded))

pub decoded_of_digits : (bytes : List ℕ) → FitsFrame bytes → decoded (digits bytes) ≡ Some bytes
decoded_of_digits bytes fits =
    let n = length_digits bytes in
    let some = fits.some in
    let few = fits.few in
    decoded_pairs (digits bytes) (line_length_from (length (digits bytes)) (record { some = omega arith; few = omega arith; even = omega arith }))
    ∙ pairs_of_digits bytes fits.bounded

-- The bytes of a text of paired digits: its digits are theirs, and they are bytes, half as many.
record BytesOf (text bytes : List ℕ) : Type 0 where
  same_digits : digits bytes ≡ text
  bounded : All (λ b. b < 256) bytes
  half : 2 * length bytes ≡ length text

bytes_of_pairs : (text bytes : List ℕ) → pairs text ≡ Some bytes → BytesOf text bytes
bytes_of_pairs [] [] e = record { same_digits = refl; bounded = All-nil (λ x. x < 256); half = refl }
bytes_of_pairs [] (b ∷ bytes) e = absurd (grind arith)
bytes_of_pairs (first ∷ []) bytes e = absurd (grind arith)
bytes_of_pairs (first ∷ second ∷ text) bytes e = go (byte_of first second) (pairs text) refl refl (bytes_of_pairs text) e
  where
    go : (front : Option ℕ) (rest : Option (List ℕ)) → byte_of first second ≡ front → pairs text ≡ rest
        → ((tail : List ℕ) → pairs text ≡ Some tail → BytesOf text tail)
        → with_byte front rest ≡ Some bytes → BytesOf (first ∷ second ∷ text) bytes
    go None rest p q more e = absurd (grind arith)
    go (Some b) None p q more e = absurd (grind arith)
    go (Some b) (Some tail) p q more e =
        let front = digits_of_byte first second b p in
        let back = more tail q in
        let half = back.half in
        let is : bytes ≡ b ∷ tail = cc in
        rw is
        (record {
          same_digits = rw (front.high_is, front.low_is, back.same_digits);
          bounded = All-cons (λ x. x < 256) b tail front.bounded back.bounded;
          half = omega arith;
        })

-- What is read is written again, and what is not read was never written.
pub decodes : (text : List ℕ) (reply : Option (List ℕ)) → reply ≡ decoded text → Decodes text reply
decodes text (Some bytes) e =
    ⊎_elim
    (λ (right : line_length (length text) ≡ true).
    let r = bytes_of_pairs text bytes (sym (decoded_pairs text right) ∙ sym e) in
    let l = line_length_true (length text) right in
    let some = l.some in
    let few = l.few in
    let half = r.half in
    (record { some = omega arith; few = omega arith; bounded = r.bounded }, r.same_digits))
    (λ (wrong : line_length (length text) ≡ false).
    let never = decoded_malformed text wrong in
    let z : ◌≡◌ {A = ℕ} 0 1 = cc in
    absurd (omega arith))
    (cases_Bool (line_length (length text)))
decodes text None e =
    λ bytes fits same.
    let read = decoded_of_digits bytes fits in
    let z : ◌≡◌ {A = ℕ} 0 1 = cc in
    omega arith
