-- The laws of a drawn order, and what its answers say of paths.
use Rattle.std.specs.Prelude.{◌≡◌, ℕ, ◌<◌, ◌≤◌, Bool, true, List, length, Decides, ◌≢◌}
use Rattle.std.proofs.Common.{sym, ◌∙◌, ⊎_elim, arith}
use Rattle.std.proofs.lemmas.Bool.{both_ways, cases_lt}
use Rattle.sets.specs.declared.small_set.SmallSet.{SmallSet}
use Rattle.orders.specs.Links.{link, dominates_as_drawn, grade_as_drawn, Drawn, Falling}
use Rattle.orders.specs.Paths.{Reachable, Longest}
use Rattle.orders.specs.Newest.{unrolled, height_unrolled, past}
use Rattle.orders.specs.Descent.{Descends}
use Rattle.orders.specs.Descent as descent

descends : (w : List SmallSet) → Descends (length w) (link w) (dominates_as_drawn w) (grade_as_drawn w)
descends w = record { reached = unrolled (link w) (length w); graded = height_unrolled (link w) (length w) }

module _ (n : ℕ) (w : List SmallSet) (D : Drawn n w) where
  class : (c : ℕ) → c < n → c < length w
  class c h = omega (arith, D.2)

  pub reflexive : (c : ℕ) → c < n → dominates_as_drawn w c c ≡ true
  reflexive c h = descent.reflexive (descends w) c (class c h)

  within : (c d : ℕ) → c < n → dominates_as_drawn w c d ≡ true → d ≤ c
  within c d h = descent.within (descends w) (length w) c d (class c h) (class c h)

  pub antisymmetric : (c d : ℕ) → c < n → d < n → dominates_as_drawn w c d ≡ true → dominates_as_drawn w d c ≡ true → c ≡ d
  antisymmetric c d h k p q = omega (arith, within c d h p, within d c k q)

  pub transitive : (c d e : ℕ) → c < n → d < n → e < n → dominates_as_drawn w c d ≡ true → dominates_as_drawn w d e ≡ true → dominates_as_drawn w c e ≡ true
  transitive c d e h i j = descent.transitive (descends w) (length w) c d e (class c h) (class c h)

  pub monotone : (c d : ℕ) → c < n → d < n → dominates_as_drawn w c d ≡ true → (c ≢ d) → grade_as_drawn w d < grade_as_drawn w c
  monotone c d h k = descent.monotone (descends w) (length w) c d (class c h) (class c h)

  -- Each step down leads to a smaller class.
  pub grade_le : (c : ℕ) → c < n → grade_as_drawn w c ≤ c
  grade_le c h = descent.grade_le (descends w) (length w) c (class c h) (class c h)

  pub bounded : (c : ℕ) → c < n → grade_as_drawn w c ≤ 23
  bounded c h = omega (arith, D.1, grade_le c h)

  is_class : (c d : ℕ) → dominates_as_drawn w c d ≡ true → c < length w
  is_class c d k =
      ⊎_elim (λ (h : c < length w). h) (λ (h : length w ≤ c). absurd (both_ways (dominates_as_drawn w c d) (past (link w) (length w) c d h) k)) (cases_lt c (length w))

  module _ (F : Falling w) where
    -- A class dominates just what the links reach from it.
    pub reachable : (c d : ℕ) (r : Bool) → r ≡ dominates_as_drawn w c d → Decides r ((c < n) × Reachable (link w) c d)
    reachable c d r e = (
      (λ k. let h = is_class c d (sym e ∙ k) in (omega (arith, D.2), descent.some_path (descends w) (length w) c d h h (sym e ∙ k))),
      (λ p. e ∙ descent.path_reaches (descends w) F p.1.0 c d (class c p.0) p.1.1),
    )

    -- Its grade is the length of the longest path down.
    pub longest : (c g : ℕ) → g ≡ grade_as_drawn w c → c < n → Longest (link w) c g
    longest c g e k =
        let h = class c k in
        let a = descent.longest_path (descends w) (length w) c h h in
        record {
          attained = (a.0, a.1, a.2, a.3 ∙ sym e);
          not_exceeded = λ es d p. omega (arith, descent.no_longer (descends w) F es c d h p);
        }
