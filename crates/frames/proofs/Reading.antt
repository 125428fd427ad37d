-- What a loop has read of a line, and what the rest of the line adds to it.
use Rattle.std.proofs.Common.{◌≡◌, ℕ, ◌+◌, ◌-◌, ◌*◌, ◌/◌, ◌%◌, ◌<◌, ◌≤◌, true, false, List, [], ◌∷◌, ◌++◌, length, get_or, take, drop, set, replicate, Some, None, Option, sym, refl, ap, ◌∙◌, arith}
use Rattle.std.proofs.lemmas.List.{append_assoc, append-nil, nil_from_length, take_more_set, drop-drop, drop-set-lt, drop-replicate, length-append, length-set}
use Rattle.std.proofs.lemmas.Bool.{cond-true, cond-false}
use Rattle.std.proofs.lemmas.Bool.Decides.{nat_tests}
use Rattle.frames.specs.Digits.{byte_of}
use Rattle.frames.specs.Decoding.{with_byte, pairs, line_length, decoded}

-- Bytes before what the rest stands for.
abbrev pub before : List ℕ → Option (List ℕ) → Option (List ℕ)
before read None = None
before read (Some rest) = Some (read ++ rest)

-- Nothing read yet.
pub before_nothing : (o : Option (List ℕ)) → before [] o ≡ o
before_nothing None = refl
before_nothing (Some rest) = refl

before_more : (read : List ℕ) (b : ℕ) (o : Option (List ℕ)) → before read (with_byte (Some b) o) ≡ before (read ++ b ∷ []) o
before_more read b None = refl
before_more read b (Some rest) = ap Some (sym (append_assoc read (b ∷ []) rest))

-- What the number of digits in a line is.
pub record LineLength (count : ℕ) : Type 0 where
  pub some : 1 ≤ count
  pub few : count ≤ 20
  pub even : count % 2 ≡ 0

pub line_length_true : (count : ℕ) → line_length count ≡ true → LineLength count
line_length_true count e = record { some = grind (arith, nat_tests); few = grind (arith, nat_tests); even = grind (arith, nat_tests) }

pub line_length_from : (count : ℕ) → LineLength count → line_length count ≡ true
line_length_from count l = let some = l.some in let few = l.few in let even = l.even in grind (arith, nat_tests)

-- Of a text, `left` is left to read. The bytes read are the first `count`, and the others are 0.
pub record Read (text left bytes : List ℕ) (count : ℕ) : Type 0 where
  pub right : line_length (length text) ≡ true
  pub full : length bytes ≡ 10
  pub so_far : length text ≡ 2 * count + length left
  pub same : before (take count bytes) (pairs left) ≡ pairs text
  pub unused : drop count bytes ≡ replicate (10 - count) 0

-- The pair of digits at the front of what is left to read.
front_pair : (pair rest : List ℕ) → length pair ≡ 2 → pairs (pair ++ rest) ≡ with_byte (byte_of (get_or pair 0 0) (get_or pair 1 0)) (pairs rest)
front_pair [] rest two = absurd (omega arith)
front_pair (first ∷ []) rest two = absurd (omega arith)
front_pair (first ∷ second ∷ []) rest two = refl
front_pair (first ∷ second ∷ third ∷ more) rest two = absurd (omega arith)

still_unused : (bytes : List ℕ) (b i : ℕ) → drop i bytes ≡ replicate (10 - i) 0 → drop (i + 1) (set bytes i b) ≡ replicate (10 - (i + 1)) 0
still_unused bytes b i unused =
    let less : 10 - i - 1 ≡ 10 - (i + 1) = omega arith in
    rw (drop-set-lt (i + 1) bytes i b (omega arith), ← drop-drop 1 i bytes, unused, drop-replicate {X = ℕ} 1 (10 - i) 0, less)

module _ (text left pair rest bytes : List ℕ) (i : ℕ) (read : Read text left bytes i) (cut : left ≡ pair ++ rest) (two : length pair ≡ 2) where
  pub read_more : (b : ℕ) → Some b ≡ byte_of (get_or pair 0 0) (get_or pair 1 0) → Read text rest (set bytes i b) (i + 1)
  read_more b byte =
      let few = (line_length_true (length text) read.right).few in
      let full = read.full in
      let so_far = read.so_far in
      let n : length left ≡ 2 + length rest = rw (cut, length-append pair rest, two) in
      record {
        right = read.right;
        full = length-set bytes i b ∙ full;
        so_far = omega arith;
        same =
            sym (rw (cut, front_pair pair rest two, ← byte, take_more_set bytes i b (omega arith)) (before_more (take i bytes) b (pairs rest)))
            ∙ read.same;
        unused = still_unused bytes b i read.unused;
      }

  pub read_none : None ≡ byte_of (get_or pair 0 0) (get_or pair 1 0) → pairs text ≡ None
  read_none byte = sym read.same ∙ rw (cut, front_pair pair rest two, ← byte)

module _ (text : List ℕ) where
  pub decoded_malformed : line_length (length text) ≡ false → decoded text ≡ None
  unfolding decoded
  decoded_malformed wrong = cond-false (line_length (length text)) (pairs text) None wrong

  pub decoded_no_pairs : pairs text ≡ None → decoded text ≡ None
  unfolding decoded
  decoded_no_pairs e = rw e (grind (arith, nat_tests))

  pub decoded_pairs : line_length (length text) ≡ true → decoded text ≡ pairs text
  unfolding decoded
  decoded_pairs right = cond-true (line_length (length text)) (pairs text) None right

-- All pairs are read.
module _ (text left bytes : List ℕ) (i : ℕ) (read : Read text left bytes i) (past : length left < 2) where
  half : length text / 2 ≡ i
  half = let so_far = read.so_far in omega arith

  pub all_read : Some (take (length text / 2) bytes) ≡ decoded text
  all_read =
      let so_far = read.so_far in
      let even = (line_length_true (length text) read.right).even in
      let nothing : left ≡ [] = nil_from_length left (omega arith) in
      ap (λ k. Some (take k bytes)) half
      ∙ ap Some (sym (append-nil (take i bytes)))
      ∙ ap (λ z. before (take i bytes) (pairs z)) (sym nothing)
      ∙ read.same
      ∙ sym (decoded_pairs text read.right)

  pub unused_left : drop (length text / 2) bytes ≡ replicate (10 - length text / 2) 0
  unused_left = rw half read.unused
