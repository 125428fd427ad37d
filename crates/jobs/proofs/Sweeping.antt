-- Forgetting the late jobs of a class, bay by bay.
use Rattle.std.proofs.Common.{◌≡◌, ℕ, ◌+◌, ◌<◌, Bool, true, false, not, ◌&&◌, ◌||◌, eqb, ltb, sym, refl, ap, ◌∙◌, arith}
use mathlib.Core.Path.{fun_ext}
use Rattle.rules.specs.Claims.{Claims, without, forgotten}
use Rattle.rules.specs.Calls.{forgetting}
use Rattle.std.proofs.lemmas.Bool.{eqb-true, eqb-false, ltb-true, ltb-false, lt-ltb, le-ltb, and_left, and_right}

-- Another number than b is below b + 1 as it is below b.
pub same_below : (b d : ℕ) → (b ≡ d → ⊥) → ltb d b ≡ ltb d (b + 1)
same_below b d n = go (ltb d b) refl
  where
    go : (q : Bool) → ltb d b ≡ q → ltb d b ≡ ltb d (b + 1)
    go true e = let l = ltb-true d b e in e ∙ sym (lt-ltb d (b + 1) (omega arith))
    go false e = let l = ltb-false d b e in e ∙ sym (le-ltb d (b + 1) (omega (arith, n)))

-- The bays that p names are forgotten, after those that q names.
pub without_both : (p q : ℕ → Bool) (k : Claims) → without p (without q k) ≡ without (λ b. p b || q b) k
without_both p q k = simp neither
  where
    neither : (x y z : Bool) → (not x && (not y && z)) ≡ (not (x || y) && z)
    neither true y z = refl
    neither false y z = refl

-- Bay by bay, those that p names are forgotten.
abbrev pub first : (ℕ → Bool) → ℕ → ℕ → Bool
first p n d = ltb d n && p d

pub forget_none : (p : ℕ → Bool) (k : Claims) → k ≡ without (first p 0) k
forget_none p k = ap (λ (ends : ℕ → Bool). without ends k) (fun_ext (λ d. sym (and_left (ltb d 0) (p d) (le-ltb d 0 (omega arith)))))

module _ (p : ℕ → Bool) (k : Claims) (b : ℕ) where
  pub forget_next : p b ≡ true → forgotten b (without (first p b) k) ≡ without (first p (b + 1)) k
  forget_next e = without_both (eqb b) (first p b) k ∙ ap (λ (ends : ℕ → Bool). without ends k) (fun_ext (λ d. go d (eqb b d) refl))
    where
      go : (d : ℕ) (q : Bool) → eqb b d ≡ q → (eqb b d || first p b d) ≡ first p (b + 1) d
      go d true f = let g : b ≡ d = eqb-true b d f in rw (f, lt-ltb d (b + 1) (omega arith), ← g) (sym e)
      go d false f = rw f (ap (λ (q : Bool). q && p d) (same_below b d (eqb-false b d f)))

  pub keep_next : p b ≡ false → without (first p b) k ≡ without (first p (b + 1)) k
  keep_next e = ap (λ (ends : ℕ → Bool). without ends k) (fun_ext (λ d. go d (eqb b d) refl))
    where
      go : (d : ℕ) (q : Bool) → eqb b d ≡ q → first p b d ≡ first p (b + 1) d
      go d true f =
          let g : b ≡ d = eqb-true b d f in
          let z : p d ≡ false = rw g at e in
          and_right (ltb d b) (p d) z ∙ sym (and_right (ltb d (b + 1)) (p d) z)
      go d false f = ap (λ (q : Bool). q && p d) (same_below b d (eqb-false b d f))

-- No rule refuses to forget one of the eight bays.
pub forgets : (k : Claims) (b : ℕ) → b < 8 → (forgetting k b).claims ≡ forgotten b k
forgets k b h = let e = lt-ltb b 8 h in rw e
