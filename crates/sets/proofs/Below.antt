-- What it says that some number below n passes a test, and what the greatest value below n is.
use Rattle.std.proofs.Common.{◌≡◌, ℕ, zero, suc, ◌<◌, ◌≤◌, max, Bool, true, ◌||◌, ◌⊎◌, Decides, refl, ap₂, inl, inr, ⊎_elim, arith}
use Rattle.std.proofs.lemmas.Bool.Decides.{Decides-below_or}
use Rattle.std.proofs.lemmas.Bool.{cases_order, cases_lt}
use Rattle.sets.specs.Below.{some_below, greatest_below}

pub some_is : (p : ℕ → Bool) (n : ℕ) → Decides (some_below n p) ((k : ℕ) × (k < n) × (p k ≡ true))
some_is p n = Decides-below_or p (λ k. p k ≡ true) (λ n. some_below n p) (λ k. ((λ e. e), (λ e. e))) refl (λ _. refl) n

pub some_same : (p q : ℕ → Bool) (n : ℕ) → ((k : ℕ) → k < n → p k ≡ q k) → some_below n p ≡ some_below n q
some_same p q zero h = refl
some_same p q (suc n) h = ap₂ (λ x y. x || y) (h n (omega arith)) (some_same p q n (λ k l. h k (omega arith)))

pub greatest_same : (f g : ℕ → ℕ) (n : ℕ) → ((k : ℕ) → k < n → f k ≡ g k) → greatest_below n f ≡ greatest_below n g
greatest_same f g zero h = refl
greatest_same f g (suc n) h = ap₂ max (h n (omega arith)) (greatest_same f g n (λ k l. h k (omega arith)))

pub greatest_at : (f : ℕ → ℕ) (n k : ℕ) → k < n → f k ≤ greatest_below n f
greatest_at f zero k l = absurd (omega arith)
greatest_at f (suc n) k l =
    ⊎_elim (λ (e : k ≡ n). rw e (omega arith)) (⊎_elim (λ (h : k < n). let r = greatest_at f n k h in omega arith) (λ (h : n < k). absurd (omega arith))) (cases_order k n)

pub greatest_le : (f : ℕ → ℕ) (n m : ℕ) → ((k : ℕ) → k < n → f k ≤ m) → greatest_below n f ≤ m
greatest_le f zero m h = omega arith
greatest_le f (suc n) m h = let r = greatest_le f n m (λ k l. h k (omega arith)) in let t = h n (omega arith) in omega arith

pub greatest_gives : (f : ℕ → ℕ) (n : ℕ) → (greatest_below n f ≡ 0) ⊎ ((k : ℕ) × (k < n) × (f k ≡ greatest_below n f))
greatest_gives f zero = inl refl
greatest_gives f (suc n) = go (greatest_gives f n) (cases_lt (greatest_below n f) (f n))
  where
    go : (greatest_below n f ≡ 0) ⊎ ((k : ℕ) × (k < n) × (f k ≡ greatest_below n f)) → (greatest_below n f < f n) ⊎ (f n ≤ greatest_below n f)
        → (greatest_below (suc n) f ≡ 0) ⊎ ((k : ℕ) × (k < suc n) × (f k ≡ greatest_below (suc n) f))
    go r (inl h) = inr (n, omega arith, omega arith)
    go (inl e) (inr h) = inl (omega arith)
    go (inr w) (inr h) = inr (w.0, omega arith, omega arith)
