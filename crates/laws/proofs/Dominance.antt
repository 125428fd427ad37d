-- Dominance among all numbers, as the laws of the class order among classes give it.
use Rattle.std.proofs.Common.{◌≡◌, ℕ, ◌<◌, true, ltb}
use Rattle.std.proofs.lemmas.Bool.{ltb-true, lt-ltb, and_parts, and_from}
use Rattle.laws.specs.Setting.{Setting, dominates, Lawful}

module _ {V : Type 0} (S : Setting V) (L : Lawful S) where
  record Both (c d : ℕ) : Type 0 where
    upper : c < S.classes
    lower : d < S.classes
    above : S.above c d ≡ true

  both : (c d : ℕ) → dominates S c d ≡ true → Both c d
  both c d e =
      let x = and_parts (ltb c S.classes) _ e in
      let y = and_parts (ltb d S.classes) _ x.1 in
      record { upper = ltb-true _ _ x.0; lower = ltb-true _ _ y.0; above = y.1 }

  dominates_by : (c d : ℕ) → c < S.classes → d < S.classes → S.above c d ≡ true → dominates S c d ≡ true
  dominates_by c d h k e = and_from _ _ (lt-ltb _ _ h) (and_from _ _ (lt-ltb _ _ k) e)

  -- What is dominated is a class.
  pub inside : (c d : ℕ) → dominates S c d ≡ true → d < S.classes
  inside c d e = (both c d e).lower

  pub reflexive : (c : ℕ) → c < S.classes → dominates S c c ≡ true
  reflexive c h = dominates_by c c h h (L.reflexive c h)

  pub transitive : (c d e : ℕ) → dominates S c d ≡ true → dominates S d e ≡ true → dominates S c e ≡ true
  transitive c d e x y =
      let p = both c d x in
      let q = both d e y in
      dominates_by c e p.upper q.lower (L.transitive c d e p.upper p.lower q.lower p.above q.above)

  pub lower : (c d : ℕ) → dominates S c d ≡ true → ¬ (c ≡ d) → S.grade d < S.grade c
  lower c d e n = let p = both c d e in L.lower_below c d p.upper p.lower p.above n
