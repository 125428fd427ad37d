-- How a newline, or the end of the input, ends the first line.
use Rattle.std.proofs.Common.{◌≡◌, ◌≢◌, ℕ, suc, ◌+◌, ◌<◌, ◌≤◌, ◌==◌, eqb, ltb, cond, position, Some, None, List, [], ◌∷◌, ◌++◌, length, get_or, take, drop, sym, refl, ap, ◌∙◌, inl, inr, arith}
use Rattle.std.proofs.lemmas.List.{take-append-drop, drop_more, drop_all, take_all, length-take-le, get_or-take}
use Rattle.std.proofs.lemmas.List.Elements.{All-head, All-tail, All-from_get_or}
use Rattle.std.proofs.lemmas.List.Quantifiers.{position-Some}
use Rattle.std.proofs.lemmas.List.Sums.{fails_before_first}
use Rattle.std.proofs.lemmas.Bool.{cond-false, ne_eqb, eqb-false, eqb-true}
use Rattle.std.proofs.lemmas.Bool.Decides.{nat_tests}
use Rattle.std.specs.List.{position_or_len}
use Rattle.frames.specs.Lines.{TextLine, longer, lines, Cuts}
use Rattle.frames.specs.Laws.{NoNewline, LineEnds}

same_line : (t u : List ℕ) (m n : ℕ) (ls : List TextLine) → t ≡ u → m ≡ n →
    ◌≡◌ {A = List TextLine} (record { text = t; size = m } ∷ ls) (record { text = u; size = n } ∷ ls)
same_line t u m n ls p q = rw (p, q)

lines_longer : (x : ℕ) (xs : List ℕ) → (x ≡ 10 → ⊥) → lines (x ∷ xs) ≡ longer x (lines xs)
lines_longer x xs other = cond-false (eqb x 10) (record { text = []; size = 1 } ∷ lines xs) (longer x (lines xs)) (ne_eqb x 10 other)

-- Text without a newline, and then a newline.
pub lines_ended : (text rest : List ℕ) → NoNewline text →
    lines (text ++ 10 ∷ rest) ≡ record { text = text; size = length text + 1 } ∷ lines rest
lines_ended [] rest none = refl
lines_ended (x ∷ text) rest none =
    lines_longer x (text ++ 10 ∷ rest) (All-head (λ b. b ≢ 10) x text none)
    ∙ ap (longer x) (lines_ended text rest (All-tail (λ b. b ≢ 10) x text none))
    ∙ same_line (x ∷ text) (x ∷ text) (suc (length text + 1)) (suc (length text) + 1) (lines rest) refl (omega arith)

-- Text without a newline, and then nothing.
lines_unended : (text : List ℕ) → 0 < length text → NoNewline text →
    lines text ≡ record { text = text; size = length text } ∷ []
lines_unended [] some none = absurd (omega arith)
lines_unended (x ∷ []) some none = lines_longer x [] (All-head (λ b. b ≢ 10) x [] none)
lines_unended (x ∷ y ∷ text) some none =
    lines_longer x (y ∷ text) (All-head (λ b. b ≢ 10) x (y ∷ text) none)
    ∙ ap (longer x) (lines_unended (y ∷ text) (omega arith) (All-tail (λ b. b ≢ 10) x (y ∷ text) none))

-- The search found a newline at i.
module _ (input : List ℕ) (i : ℕ) (found : Some i ≡ position (λ b. b == 10) input) where
  before_newline : NoNewline (take i input)
  before_newline =
      let first = position-Some (λ b. b == 10) input i 0 (sym found) in
      let n = length-take-le i input (omega (arith, first.0)) in
      All-from_get_or (λ b. b ≢ 10) (take i input) 0
      (λ k h. rw (get_or-take i input k 0 (omega arith)) (eqb-false (get_or input k 0) 10 (first.2 k (omega arith))))

  newline : get_or input i 0 ≡ 10
  newline = eqb-true (get_or input i 0) 10 (position-Some (λ b. b == 10) input i 0 (sym found)).1

  pub cut_at_newline : Cuts input (record { length = i; size = i + 1 })
  cut_at_newline =
      let inside = (position-Some (λ b. b == 10) input i 0 (sym found)).0 in
      let n = length-take-le i input (omega arith) in
      record {
        cut =
            ap lines (sym (take-append-drop i input) ∙ ap (λ z. take i input ++ z) (drop_more input i 0 inside ∙ ap (λ b. b ∷ drop (i + 1) input) newline))
            ∙ lines_ended (take i input) (drop (i + 1) input) before_newline
            ∙ same_line (take i input) (take i input) (length (take i input) + 1) (i + 1) (lines (drop (i + 1) input)) refl (omega arith);
        text_within = omega arith;
        not_empty = omega arith;
        size_within = omega arith;
      }

  pub ends_at_newline : LineEnds input (record { length = i; size = i + 1 })
  ends_at_newline = record { text = before_newline; end = inl (newline, refl) }

none_within : (n m : ℕ) → None ≡ cond (ltb n m) (Some n) None → m ≤ n
none_within n m e = grind (arith, nat_tests)

-- The search found none.
module _ (input : List ℕ) (found : None ≡ position (λ b. b == 10) input) where
  none : NoNewline input
  none =
      let past = none_within (position_or_len (λ b. b == 10) input) (length input) found in
      All-from_get_or (λ b. b ≢ 10) input 0
      (λ k h. eqb-false (get_or input k 0) 10 (fails_before_first (λ b. b == 10) input k 0 (omega arith)))

  whole : take (length input) input ≡ input
  whole = take_all (length input) input (omega arith)

  pub cut_at_end : 0 < length input → Cuts input (record { length = length input; size = length input })
  cut_at_end some =
      record {
        cut =
            lines_unended input some none
            ∙ same_line input (take (length input) input) (length input) (length input) [] (sym whole) refl
            ∙ ap (λ z. record { text = take (length input) input; size = length input } ∷ lines z) (sym (drop_all (length input) input (omega arith)));
        text_within = omega arith;
        not_empty = some;
        size_within = omega arith;
      }

  pub ends_at_end : LineEnds input (record { length = length input; size = length input })
  ends_at_end = record { text = rw whole none; end = inr (refl, refl) }
