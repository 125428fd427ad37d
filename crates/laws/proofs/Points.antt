-- Functions changed at one point.
use Rattle.std.proofs.Common.{◌≡◌, ℕ, ◌<◌, Bool, true, false, eqb, List, length, get_or, set, sym, refl, get_or-set_other, get_or-set_same}
use mathlib.Core.Path.{fun_ext}
use Rattle.std.proofs.lemmas.Bool.{eqb-true, eqb-false}
use Rattle.laws.specs.State.{put}
use Rattle.laws.proofs.Tests.{eqb_same}

pub put_here : {A : Type 0} (f : ℕ → A) (c : ℕ) (x : A) → put f c x c ≡ x
put_here f c x = rw (eqb_same c)

pub put_other : {A : Type 0} (f : ℕ → A) (c : ℕ) (x : A) (d : ℕ) → eqb c d ≡ false → put f c x d ≡ f d
put_other f c x d e = rw e

-- Where the change at c does not show in what F tells, it shows nowhere.
pub put_same : {A X : Type 0} (F : A → X) (f : ℕ → A) (c : ℕ) (x : A) → F x ≡ F (f c) → (d : ℕ) → F (put f c x d) ≡ F (f d)
put_same F f c x e d = go (eqb c d) refl
  where
    go : (q : Bool) → eqb c d ≡ q → F (put f c x d) ≡ F (f d)
    go true h = rw h (rw (eqb-true c d h) at e)
    go false h = rw h

-- A list as a function of the place: a write at a place is a point update.
pub put_set : {A : Type 0} (l : List A) (z : A) (i : ℕ) (x : A) → i < length l → (λ j. get_or (set l i x) j z) ≡ put (λ j. get_or l j z) i x
put_set l z i x h = fun_ext (λ j. go j (eqb i j) refl)
  where
    go : (j : ℕ) (q : Bool) → eqb i j ≡ q → get_or (set l i x) j z ≡ put (λ k. get_or l k z) i x j
    go j true e = rw (e, ← (eqb-true i j e)) (get_or-set_same l i x z h)
    go j false e = rw e (get_or-set_other l i j x z (λ f. eqb-false i j e (sym f)))
