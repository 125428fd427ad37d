-- The laws of a drawn order and what its paths say, from two equations: a class reaches itself and what the classes
-- directly below it reach, and its grade is one more than their greatest.
use Rattle.std.specs.Prelude.{◌≡◌, ℕ, zero, suc, ◌<◌, ◌≤◌, Bool, true, false, ◌&&◌, ◌||◌, ◌⊎◌, List, [], ◌∷◌, length, ◌==◌, ◌≢◌, nat_eq, refl}
use Rattle.std.proofs.Common.{sym, ap, subst, ◌∙◌, inl, inr, ⊎_elim, arith}
use Rattle.std.proofs.lemmas.Bool.{eqb-true, eq-eqb, and_parts, and_from, or_cases, or_left, or_right, cases_eq}
use Rattle.sets.specs.Below.{some_below, greatest_below}
use Rattle.orders.specs.Links.{Links, step_up}
use Rattle.orders.specs.Paths.{path}
use Rattle.sets.proofs.Below.{some_is, greatest_at, greatest_le, greatest_gives}

-- What the first n classes reach along the links l, and their grades.
pub record Descends (n : ℕ) (l r : Links) (g : ℕ → ℕ) : Type 0 where
  pub reached : (c d : ℕ) → c < n → r c d ≡ (c == d || some_below c (λ e. l c e && r e d))
  pub graded : (c : ℕ) → c < n → g c ≡ greatest_below c (step_up (l c) g)

module _ {n : ℕ} {l r : Links} {g : ℕ → ℕ} (D : Descends n l r g) where
  one_step : (c d : ℕ) → c < n → r c d ≡ true → (c ≡ d) ⊎ ((e : ℕ) × (e < c) × (l c e ≡ true) × (r e d ≡ true))
  one_step c d h k =
      ⊎_elim (λ (e : nat_eq c d ≡ true). inl (eqb-true c d e))
      (λ (e : some_below c (λ e. l c e && r e d) ≡ true).
      let s = (some_is (λ e. l c e && r e d) c).0 e in
      let a = and_parts (l c s.0) (r s.0 d) s.2 in
      inr (s.0, s.1, a.0, a.1))
      (or_cases (c == d) (some_below c (λ e. l c e && r e d)) (sym (D.reached c d h) ∙ k))

  linked : (c e d : ℕ) → c < n → e < c → l c e ≡ true → r e d ≡ true → r c d ≡ true
  linked c e d h i k m = D.reached c d h ∙ or_right (c == d) _ ((some_is (λ e. l c e && r e d) c).1 (e, i, and_from (l c e) (r e d) k m))

  pub reflexive : (c : ℕ) → c < n → r c c ≡ true
  reflexive c h = D.reached c c h ∙ or_left (c == c) _ (eq-eqb c c refl)

  pub within : (k c d : ℕ) → c < k → c < n → r c d ≡ true → d ≤ c
  within zero c d i h p = absurd (omega arith)
  within (suc k) c d i h p =
      ⊎_elim (λ (z : c ≡ d). omega arith)
      (λ (y : (e : ℕ) × (e < c) × (l c e ≡ true) × (r e d ≡ true)). omega (arith, y.1, within k y.0 d (omega arith) (omega arith) y.3))
      (one_step c d h p)

  pub transitive : (k c d e : ℕ) → c < k → c < n → r c d ≡ true → r d e ≡ true → r c e ≡ true
  transitive zero c d e i h p q = absurd (omega arith)
  transitive (suc k) c d e i h p q =
      ⊎_elim (λ (z : c ≡ d). subst (λ (x : ℕ). r x e ≡ true) (sym z) q)
      (λ (y : (e : ℕ) × (e < c) × (l c e ≡ true) × (r e d ≡ true)).
      linked c y.0 e h y.1 y.2 (transitive k y.0 d e (omega arith) (omega arith) y.3 q))
      (one_step c d h p)

  one_higher : (c e : ℕ) → c < n → e < c → l c e ≡ true → g e < g c
  one_higher c e h i k = let b = greatest_at (step_up (l c) g) c e i in let b' : suc (g e) ≤ greatest_below c (step_up (l c) g) = rw k at b in omega (arith, D.graded c h)

  pub monotone : (k c d : ℕ) → c < k → c < n → r c d ≡ true → (c ≢ d) → g d < g c
  monotone zero c d i h p q = absurd (omega arith)
  monotone (suc k) c d i h p q =
      ⊎_elim (λ (z : c ≡ d). absurd (q z))
      (λ (y : (e : ℕ) × (e < c) × (l c e ≡ true) × (r e d ≡ true)).
      let a = one_higher c y.0 h y.1 y.2 in
      ⊎_elim (λ (z : y.0 ≡ d). let s : g y.0 ≡ g d = ap g z in omega arith)
      (λ (z : y.0 ≡ d → ⊥). omega (arith, monotone k y.0 d (omega arith) (omega arith) y.3 z))
      (cases_eq y.0 d))
      (one_step c d h p)

  pub grade_le : (k c : ℕ) → c < k → c < n → g c ≤ c
  grade_le zero c i h = absurd (omega arith)
  grade_le (suc k) c i h = rw (D.graded c h) (greatest_le (step_up (l c) g) c c (λ e j. each e j (l c e) refl (grade_le k e (omega arith) (omega arith))))
    where
      each : (e : ℕ) → e < c → (q : Bool) → l c e ≡ q → g e ≤ e → step_up (l c) g e ≤ c
      each e j true m x = rw m (omega arith)
      each e j false m x = rw m (omega arith)

  pub some_path : (k c d : ℕ) → c < k → c < n → r c d ≡ true → (es : List ℕ) × (path l c es d ≡ true)
  some_path zero c d i h p = absurd (omega arith)
  some_path (suc k) c d i h p =
      ⊎_elim (λ (z : c ≡ d). ([], eq-eqb c d z))
      (λ (y : (e : ℕ) × (e < c) × (l c e ≡ true) × (r e d ≡ true)).
      let w = some_path k y.0 d (omega arith) (omega arith) y.3 in
      (y.0 ∷ w.0, and_from (l c y.0) (path l y.0 w.0 d) y.2 w.1))
      (one_step c d h p)

  pub longest_path : (k c : ℕ) → c < k → c < n → (es : List ℕ) × (d : ℕ) × (path l c es d ≡ true) × (length es ≡ g c)
  longest_path zero c i h = absurd (omega arith)
  longest_path (suc k) c i h = pick (greatest_gives (step_up (l c) g) c) (λ e j. longest_path k e (omega arith) (omega arith))
    where
      stop : greatest_below c (step_up (l c) g) ≡ 0 → (es : List ℕ) × (d : ℕ) × (path l c es d ≡ true) × (length es ≡ g c)
      stop e = ([], c, eq-eqb c c refl, omega (arith, D.graded c h))

      pick : (greatest_below c (step_up (l c) g) ≡ 0) ⊎ ((e : ℕ) × (e < c) × (step_up (l c) g e ≡ greatest_below c (step_up (l c) g)))
          → ((e : ℕ) → e < c → (es : List ℕ) × (d : ℕ) × (path l e es d ≡ true) × (length es ≡ g e)) → (es : List ℕ) × (d : ℕ) × (path l c es d ≡ true) × (length es ≡ g c)
      pick (inl e) t = stop e
      pick (inr w) t = split (l c w.0) refl
        where
          split : (q : Bool) → l c w.0 ≡ q → (es : List ℕ) × (d : ℕ) × (path l c es d ≡ true) × (length es ≡ g c)
          split true m =
              let v = t w.0 w.1 in
              let s : step_up (l c) g w.0 ≡ suc (g w.0) = rw m in
              (w.0 ∷ v.0, v.1, and_from (l c w.0) (path l w.0 v.0 v.1) m v.2, omega (arith, D.graded c h, v.3, w.2))
          split false m = let s : step_up (l c) g w.0 ≡ 0 = rw m in stop (sym w.2 ∙ s)

  module _ (falls : (c e : ℕ) → l c e ≡ true → e < c) where
    pub path_reaches : (es : List ℕ) (c d : ℕ) → c < n → path l c es d ≡ true → r c d ≡ true
    path_reaches [] c d h k = subst (λ (x : ℕ). r c x ≡ true) (eqb-true c d k) (reflexive c h)
    path_reaches (e ∷ es) c d h k =
        let a = and_parts (l c e) (path l e es d) k in
        let i = falls c e a.0 in
        linked c e d h i a.0 (path_reaches es e d (omega arith) a.1)

    pub no_longer : (es : List ℕ) (c d : ℕ) → c < n → path l c es d ≡ true → length es ≤ g c
    no_longer [] c d h k = omega arith
    no_longer (e ∷ es) c d h k =
        let a = and_parts (l c e) (path l e es d) k in
        let i = falls c e a.0 in
        omega (arith, no_longer es e d (omega arith) a.1, one_higher c e h i a.0)
