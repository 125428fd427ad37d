-- The greatest value below n is reached and not exceeded.
use Rattle.std.proofs.Common.{◌≡◌, ℕ, zero, suc, ◌<◌, ◌≤◌, max, List, [], ◌∷◌, ◌++◌, map, unwrap_or, sym, refl, ap, ◌∙◌, ⊎_elim, add-one, arith}
use Rattle.std.specs.List.{reduce, range_with_len}
use Rattle.std.proofs.lemmas.List.FromFn.{map-range_with_len_more}
use Rattle.std.proofs.lemmas.List.Sums.{fold-append}
use Rattle.sets.specs.Below.{greatest_below}
use Rattle.sets.proofs.Below.{greatest_at, greatest_gives}
use Rattle.orders.specs.Grades.{Greatest}

pub is_greatest : (n : ℕ) (f : ℕ → ℕ) (v : ℕ) → 1 ≤ n → v ≡ greatest_below n f → Greatest n f v
is_greatest n f v h e = record {
  reached = ⊎_elim
      (λ (z : greatest_below n f ≡ 0). (0, h, omega (arith, greatest_at f n 0 h)))
      (λ (w : (k : ℕ) × (k < n) × (f k ≡ greatest_below n f)). (w.0, w.1, w.2 ∙ sym e))
      (greatest_gives f n);
  not_exceeded = λ k l. omega (arith, greatest_at f n k l);
}

-- The greatest of a list, 0 for none, and one more element at its end.
one_more : (w : List ℕ) (x : ℕ) → unwrap_or (reduce max (w ++ (x ∷ []))) 0 ≡ max x (unwrap_or (reduce max w) 0)
one_more [] x = omega arith
one_more (y ∷ w) x = fold-append max y w (x ∷ []) ∙ omega arith

pub greatest_from_range : (n : ℕ) (f : ℕ → ℕ) → unwrap_or (reduce max (map f (range_with_len 0 n))) 0 ≡ greatest_below n f
greatest_from_range zero f = refl
greatest_from_range (suc n) f =
    ap (λ k. unwrap_or (reduce max (map f (range_with_len 0 k))) 0) (sym (add-one n))
    ∙ ap (λ w. unwrap_or (reduce max w) 0) (map-range_with_len_more f 0 n n (omega arith))
    ∙ one_more (map f (range_with_len 0 n)) (f n)
    ∙ ap (max (f n)) (greatest_from_range n f)
