-- Sums of the item counts of the first classes.
use Rattle.std.proofs.Common.{◌≡◌, ℕ, zero, suc, ◌+◌, ◌<◌, ◌≤◌, Bool, true, false, ltb, List, [], ◌∷◌, get_or, length, sum, take, refl, ◌∙◌, arith}
use Rattle.std.proofs.lemmas.List.Sums.{sum_by-cons, sum_by_more}
use Rattle.std.proofs.lemmas.Bool.{ltb-true, ltb-false}
use Rattle.laws.specs.Setting.{sum_below}

sum_shift : (f : ℕ → ℕ) (n : ℕ) → sum_below (suc n) f ≡ f 0 + sum_below n (λ k. f (suc k))
sum_shift f zero = refl
sum_shift f (suc n) = rw (sum_shift f n) (omega arith)

sum_none : (n : ℕ) → sum_below n (λ k. get_or [] k 0) ≡ 0
sum_none zero = refl
sum_none (suc n) = omega (arith, sum_none n)

-- The first classes have at most the items of all.
pub sum_most : (items : List ℕ) (n : ℕ) → sum_below n (λ c. get_or items c 0) ≤ sum items
sum_most [] n = rw (sum_none n) (omega arith)
sum_most (i ∷ items) zero = omega arith
sum_most (i ∷ items) (suc n) =
    let first : sum_below (suc n) (λ c. get_or (i ∷ items) c 0) ≡ i + sum_below n (λ c. get_or items c 0) = sum_shift (λ c. get_or (i ∷ items) c 0) n in
    let rest : sum_below n (λ c. get_or items c 0) ≤ sum items = sum_most items n in
    let all : sum (i ∷ items) ≡ i + sum items = sum_by-cons (λ x. x) i items in
    rw (first, all) (omega arith)

-- What the first classes have together.
pub sum_first : (items : List ℕ) (n : ℕ) → n ≤ length items → sum (take n items) ≡ sum_below n (λ c. get_or items c 0)
sum_first items zero h = refl
sum_first items (suc n) h =
    let next : n + 1 ≡ suc n = omega arith in
    let more = sum_by_more (λ x. x) items n 0 (omega arith) in
    rw (← next) (more ∙ rw (sum_first items n (omega arith)) (omega arith))

-- The cells of a class end where those of the next begin, or before.
pub sum_in : (f : ℕ → ℕ) (c n : ℕ) → c < n → sum_below c f + f c ≤ sum_below n f
sum_in f c zero h = absurd (omega arith)
sum_in f c (suc n) h = go (ltb c n) refl (sum_in f c n)
  where
    go : (q : Bool) → ltb c n ≡ q → (c < n → sum_below c f + f c ≤ sum_below n f) → sum_below c f + f c ≤ f n + sum_below n f
    go true e ih = omega (arith, ih (ltb-true c n e))
    go false e ih =
        let same : c ≡ n = omega (arith, ltb-false c n e) in
        rw same (omega arith)
