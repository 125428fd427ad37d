-- What a class reaches and its height, as classes are added.
use Rattle.std.specs.Prelude.{◌≡◌, ℕ, zero, suc, ◌<◌, ◌≤◌, Bool, true, false, cond, ◌&&◌, ◌||◌, ◌⊎◌, ◌==◌, ◌≢◌, nat_eq, refl}
use Rattle.std.proofs.Common.{sym, ap, ap₂, ◌∙◌, inl, inr, arith}
use Rattle.std.proofs.lemmas.Bool.{eq-eqb, ne_eqb, cases_eq}
use Rattle.sets.specs.Below.{some_below, greatest_below}
use Rattle.orders.specs.Links.{reaches, height, step_up}
use Rattle.sets.proofs.Below.{some_same, greatest_same}

pub older : (l : ℕ → ℕ → Bool) (n c d : ℕ) → (c ≢ n) → reaches l (suc n) c d ≡ reaches l n c d
older l n c d h = let t : nat_eq c n ≡ false = ne_eqb c n h in rw t

pub height_older : (l : ℕ → ℕ → Bool) (n c : ℕ) → (c ≢ n) → height l (suc n) c ≡ height l n c
height_older l n c h = let t : nat_eq c n ≡ false = ne_eqb c n h in rw t

-- Each class, and not the newest only, reaches itself and what the classes directly below it reach
pub unrolled : (l : ℕ → ℕ → Bool) (n c d : ℕ) → c < n → reaches l n c d ≡ (c == d || some_below c (λ e. l c e && reaches l n e d))
unrolled l zero c d h = absurd (omega arith)
unrolled l (suc n) c d h = go (cases_eq c n) (unrolled l n c d)
  where
    back : c ≤ n → some_below c (λ e. l c e && reaches l n e d) ≡ some_below c (λ e. l c e && reaches l (suc n) e d)
    back k = some_same _ _ c (λ e i. ap (λ x. l c e && x) (sym (older l n e d (omega arith))))

    go : (c ≡ n) ⊎ (c ≢ n) → (c < n → reaches l n c d ≡ (c == d || some_below c (λ e. l c e && reaches l n e d)))
        → reaches l (suc n) c d ≡ (c == d || some_below c (λ e. l c e && reaches l (suc n) e d))
    go (inl e) r =
        let t : nat_eq c n ≡ true = eq-eqb c n e in
        let s : reaches l (suc n) c d ≡ (c == d || some_below c (λ e. l c e && reaches l n e d)) = rw t (ap (λ (x : ℕ). (x == d) || some_below x (λ e. l x e && reaches l n e d)) (sym e)) in
        s ∙ ap (λ x. (c == d) || x) (back (omega arith))
    go (inr e) r = older l n c d e ∙ r (omega arith) ∙ ap (λ x. (c == d) || x) (back (omega arith))

pub height_unrolled : (l : ℕ → ℕ → Bool) (n c : ℕ) → c < n → height l n c ≡ greatest_below c (step_up (l c) (height l n))
height_unrolled l zero c h = absurd (omega arith)
height_unrolled l (suc n) c h = go (cases_eq c n) (height_unrolled l n c)
  where
    back : c ≤ n → greatest_below c (step_up (l c) (height l n)) ≡ greatest_below c (step_up (l c) (height l (suc n)))
    back k = greatest_same _ _ c (λ e i. ap (λ x. cond (l c e) (suc x) 0) (sym (height_older l n e (omega arith))))

    go : (c ≡ n) ⊎ (c ≢ n) → (c < n → height l n c ≡ greatest_below c (step_up (l c) (height l n))) → height l (suc n) c ≡ greatest_below c (step_up (l c) (height l (suc n)))
    go (inl e) r =
        let t : nat_eq c n ≡ true = eq-eqb c n e in
        let s : height l (suc n) c ≡ greatest_below c (step_up (l c) (height l n)) = rw t (ap (λ (x : ℕ). greatest_below x (step_up (l x) (height l n))) (sym e)) in
        s ∙ back (omega arith)
    go (inr e) r = height_older l n c e ∙ r (omega arith) ∙ back (omega arith)

-- Drawings that agree below n.
pub same_reaches : (l k : ℕ → ℕ → Bool) (n : ℕ) → ((c e : ℕ) → c < n → l c e ≡ k c e) → (c d : ℕ) → reaches l n c d ≡ reaches k n c d
same_reaches l k zero h c d = refl
same_reaches l k (suc n) h c d =
    let r : (c d : ℕ) → reaches l n c d ≡ reaches k n c d = same_reaches l k n (λ c e i. h c e (omega arith)) in
    ap₂ (λ x y. cond (c == n) (n == d || x) y) (some_same _ _ n (λ e i. ap₂ (λ x y. x && y) (h n e (omega arith)) (r e d))) (r c d)

pub same_height : (l k : ℕ → ℕ → Bool) (n : ℕ) → ((c e : ℕ) → c < n → l c e ≡ k c e) → (c : ℕ) → height l n c ≡ height k n c
same_height l k zero h c = refl
same_height l k (suc n) h c =
    let r : (c : ℕ) → height l n c ≡ height k n c = same_height l k n (λ c e i. h c e (omega arith)) in
    ap₂ (λ x y. cond (c == n) x y) (greatest_same _ _ n (λ e i. ap₂ (λ x y. cond x (suc y) 0) (h n e (omega arith)) (r e))) (r c)

-- There is no class from n on.
pub past : (l : ℕ → ℕ → Bool) (n c d : ℕ) → n ≤ c → reaches l n c d ≡ false
past l zero c d h = refl
past l (suc n) c d h = older l n c d (omega arith) ∙ past l n c d (omega arith)

pub height_past : (l : ℕ → ℕ → Bool) (n c : ℕ) → n ≤ c → height l n c ≡ 0
height_past l zero c h = refl
height_past l (suc n) c h = height_older l n c (omega arith) ∙ height_past l n c (omega arith)
