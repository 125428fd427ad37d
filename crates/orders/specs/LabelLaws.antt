-- The laws of an order of labels.
use Rattle.std.specs.Prelude.{◌≡◌, ℕ, ◌^◌, ◌<◌, ◌≤◌, Bool, true, ◌&&◌, List, length, ◌≢◌, bit_and, count_ones, nat_le, nat_lt}
use Rattle.std.proofs.Common.{sym, ◌∙◌}
use Rattle.std.proofs.Math.Path.{ap₂}
use Rattle.std.proofs.Math.Logic.{⊎_elim}
use native.Mathlib.Omega.{arith}
use Rattle.std.specs.Int.Bits.{and_self}
use Rattle.std.proofs.lemmas.Nat.{ones-le}
use Rattle.std.proofs.lemmas.Bool.{and_parts, ltb-true, leb-true, eqb-true, lt-ltb, le-leb, eq-eqb, cases_eq, cases_lt}
use Rattle.orders.specs.Labels.{includes, label_dominates, LabelDominance, label_grade, label_at, dominates_by_label, grade_by_label, Labelled, Distinct}
use Rattle.orders.specs.declared.label.Label.{Label}
use Rattle.orders.specs.Subsets.{from_members, to_members, subset_transitive, subset_ones}

-- A rank no higher, and a set within the other.
Under : Label → Label → Type 0
Under b a = (b.rank ≤ a.rank) × (bit_and a.compartments b.compartments ≡ b.compartments)

under : (a b : Label) → label_dominates a b ≡ true → Under b a
unfolding Under
under a b h =
    let p = and_parts (nat_le b.rank a.rank) (includes a.compartments b.compartments) h in
    (leb-true b.rank a.rank p.0, eqb-true (bit_and a.compartments b.compartments) b.compartments p.1)

over : (a b : Label) → Under b a → label_dominates a b ≡ true
unfolding Under
over a b h = rw (le-leb b.rank a.rank h.0) (eq-eqb (bit_and a.compartments b.compartments) b.compartments h.1)

pub dominance : (a b : Label) (r : Bool) → a.compartments < 2 ^ 8 → b.compartments < 2 ^ 8 → r ≡ label_dominates a b → LabelDominance a b r
unfolding Under
dominance a b r h k e = record {
  meaning = (
    (λ t. let u = under a b (sym e ∙ t) in (u.0, to_members a.compartments b.compartments u.1)),
    (λ p. e ∙ over a b (p.0, from_members 8 a.compartments b.compartments k p.1)),
  );
  strict_superset = λ i ne.
      let s = subset_ones 8 a.compartments b.compartments h (from_members 8 a.compartments b.compartments k i) in
      ⊎_elim (λ (z : count_ones b.compartments < count_ones a.compartments). z) (λ (z : count_ones a.compartments ≤ count_ones b.compartments). absurd (ne (s.1 z))) (cases_lt (count_ones b.compartments) (count_ones a.compartments));
}

module _ (n : ℕ) (w : List Label) (L : Labelled n w) where
  parts : (c d : ℕ) → dominates_by_label w c d ≡ true → (c < length w) × (d < length w) × (label_dominates (label_at w c) (label_at w d) ≡ true)
  parts c d h =
      let a = and_parts (nat_lt c (length w)) (nat_lt d (length w) && label_dominates (label_at w c) (label_at w d)) h in
      let b = and_parts (nat_lt d (length w)) (label_dominates (label_at w c) (label_at w d)) a.1 in
      (ltb-true c (length w) a.0, ltb-true d (length w) b.0, b.1)

  whole : (c d : ℕ) → c < length w → d < length w → label_dominates (label_at w c) (label_at w d) ≡ true → dominates_by_label w c d ≡ true
  whole c d h k p = rw (lt-ltb c (length w) h, lt-ltb d (length w) k) p

  graded : (c : ℕ) → c < length w → grade_by_label w c ≡ label_grade (label_at w c)
  graded c h = rw (lt-ltb c (length w) h)

  pub reflexive : (c : ℕ) → c < n → dominates_by_label w c c ≡ true
  unfolding Under
  reflexive c h = let k : c < length w = omega (arith, L.2) in whole c c k k (over (label_at w c) (label_at w c) (omega arith, and_self (label_at w c).compartments))

  pub transitive : (c d e : ℕ) → c < n → d < n → e < n → dominates_by_label w c d ≡ true → dominates_by_label w d e ≡ true → dominates_by_label w c e ≡ true
  unfolding Under
  transitive c d e _ _ _ h k =
      let a = parts c d h in
      let b = parts d e k in
      let x = under (label_at w c) (label_at w d) a.2 in
      let y = under (label_at w d) (label_at w e) b.2 in
      let z = subset_transitive 8 (label_at w c).compartments (label_at w d).compartments (label_at w e).compartments (L.4 e) x.1 y.1 in
      whole c e a.0 b.1 (over (label_at w c) (label_at w e) (omega arith, z))

  pub bounded : (c : ℕ) → c < n → grade_by_label w c ≤ 23
  bounded c h = omega (arith, graded c (omega (arith, L.2)), L.3 c, ones-le 8 (label_at w c).compartments (L.4 c))

  module _ (D : Distinct w) where
    -- At equal grades both ranks and sets would be equal.
    pub monotone : (c d : ℕ) → c < n → d < n → dominates_by_label w c d ≡ true → (c ≢ d) → grade_by_label w d < grade_by_label w c
    unfolding Under
    monotone c d _ _ h k =
        let a = parts c d h in
        let u = under (label_at w c) (label_at w d) a.2 in
        let s = subset_ones 8 (label_at w c).compartments (label_at w d).compartments (L.4 c) u.1 in
        let x = graded c a.0 in
        let y = graded d a.1 in
        ⊎_elim
        (λ (z : grade_by_label w d < grade_by_label w c). z)
        (λ (z : grade_by_label w c ≤ grade_by_label w d).
        let p : (label_at w c).compartments ≡ (label_at w d).compartments = s.1 (omega arith) in
        let q : (label_at w c).rank ≡ (label_at w d).rank = omega arith in
        let e : label_at w c ≡ label_at w d = ap₂ (λ r s. record { rank = r; compartments = s }) q p in
        absurd (k (D c d (a.0, a.1, e))))
        (cases_lt (grade_by_label w d) (grade_by_label w c))

    -- Else each would have the smaller grade.
    pub antisymmetric : (c d : ℕ) → c < n → d < n → dominates_by_label w c d ≡ true → dominates_by_label w d c ≡ true → c ≡ d
    antisymmetric c d i j h k =
        ⊎_elim (λ (e : c ≡ d). e)
        (λ (e : c ≡ d → ⊥). absurd (omega (arith, monotone c d i j h e, monotone d c j i k (λ f. e (sym f)))))
        (cases_eq c d)
