-- What a store leaves of a cell to reads at numbers at most two below the one that is stored under.
use Rattle.std.proofs.Common.{◌≡◌, ℕ, ◌+◌, ◌<◌, ◌≤◌, Bool, true, false, eqb, ltb, [], ◌∷◌, take, Some, None, Option, refl, ◌∙◌, arith}
use Rattle.std.proofs.lemmas.Bool.{ltb-true, ltb-false, eqb-true, eqb-false, le-leb, lt-leb}
use Rattle.cells.specs.declared.version.Version.{Version}
use Rattle.cells.specs.Versions.{version, stored}
use Rattle.laws.specs.State.{or_else, Cell, newest_value, value_at}
use Rattle.laws.specs.Actions.{stored_pending}

module _ {V : Type 0} where
  -- The newest number.
  abbrev pub head : Cell V → ℕ
  head [] = 0
  head (x ∷ r) = x.number

  -- There is a version, and the second is older than the first.
  abbrev pub Falls : Cell V → Type 0
  Falls [] = ⊥
  Falls (x ∷ []) = Unit {0}
  Falls (x ∷ y ∷ r) = y.number < x.number

  falls_again : (w : ℕ) (v : V) (x : Version V) (r : Cell V) → w ≡ x.number → Falls (x ∷ r) → Falls (version w v ∷ r)
  falls_again w v x [] e f = tt
  falls_again w v x (y ∷ r) e f = omega arith

  pub store_falls : (w : ℕ) (v : V) (x : Cell V) → head x ≤ w → Falls x → Falls (stored w v x)
  store_falls w v [] h f = tt
  store_falls w v (x ∷ r) h f = go (eqb w x.number) (ltb x.number w) refl refl
    where
      go : (q q' : Bool) → eqb w x.number ≡ q → ltb x.number w ≡ q' → Falls (stored w v (x ∷ r))
      go true q e g = rw e (falls_again w v x r (eqb-true _ _ e) f)
      go false true e g = rw (e, g) (ltb-true _ _ g)
      go false false e g = rw (e, g) f

  -- After a store: the newest number, the newest value, and what older reads give.
  pub store_head : (w : ℕ) (v : V) (x : Cell V) → head x ≤ w → head (stored w v x) ≡ w
  store_head w v [] h = refl
  store_head w v (x ∷ r) h = go (eqb w x.number) (ltb x.number w) refl refl
    where
      go : (q q' : Bool) → eqb w x.number ≡ q → ltb x.number w ≡ q' → head (stored w v (x ∷ r)) ≡ w
      go true q e g = rw e
      go false true e g = rw (e, g)
      go false false e g = absurd (omega (arith, ltb-false x.number w g, eqb-false w x.number e))

  pub store_newest : (w : ℕ) (v : V) (x : Cell V) → head x ≤ w → newest_value (stored w v x) ≡ Some v
  store_newest w v [] h = refl
  store_newest w v (x ∷ r) h = go (eqb w x.number) (ltb x.number w) refl refl
    where
      go : (q q' : Bool) → eqb w x.number ≡ q → ltb x.number w ≡ q' → newest_value (stored w v (x ∷ r)) ≡ Some v
      go true q e g = rw e
      go false true e g = rw (e, g)
      go false false e g = absurd (omega (arith, ltb-false x.number w g, eqb-false w x.number e))

  -- A read at or past the newest number gives the newest value.
  pub value_newest : (n : ℕ) (x : Cell V) → head x ≤ n → value_at n x ≡ newest_value x
  value_newest n [] h = refl
  value_newest n (x ∷ r) h = rw (le-leb x.number n h)

  pub store_past : (w n : ℕ) (v : V) (x : Cell V) → head x ≤ w → w ≤ n → value_at n (stored w v x) ≡ Some v
  store_past w n v x h k = value_newest n (stored w v x) (omega (arith, store_head w v x h)) ∙ store_newest w v x h

  pub store_before : (w n : ℕ) (v : V) (x : Cell V) → Falls x → head x ≤ w → n < w → w ≤ n + 2 → value_at n (stored w v x) ≡ value_at n x
  store_before w n v [] f h k l = absurd f
  store_before w n v (x ∷ r) f h k l = go (eqb w x.number) (ltb x.number w) refl refl
    where
      two : (r : Cell V) → Falls (x ∷ r) → x.number < w → value_at n (take 2 (x ∷ r)) ≡ value_at n (x ∷ r)
      two [] f s = refl
      two (y ∷ r) f s = rw (le-leb y.number n (omega arith))

      go : (q q' : Bool) → eqb w x.number ≡ q → ltb x.number w ≡ q' → value_at n (stored w v (x ∷ r)) ≡ value_at n (x ∷ r)
      go true q e g = rw (e, ← (eqb-true _ _ e), lt-leb w n k)
      go false true e g = rw (e, g, lt-leb w n k) (two r f (ltb-true _ _ g))
      go false false e g = rw (e, g)

-- The same of a commit's store, where there may be no value to store.
module _ {V : Type 0} (w : ℕ) (c : Cell V) (f : Falls c) (h : head c ≤ w) where
  pub stored_falls : (x : Option V) → Falls (stored_pending x w c)
  stored_falls None = f
  stored_falls (Some v) = store_falls w v c h f

  pub stored_head : (x : Option V) → head (stored_pending x w c) ≤ w
  stored_head None = h
  stored_head (Some v) = omega (arith, store_head w v c h)

  pub stored_newest : (x : Option V) (v₀ : V) → newest_value c ≡ Some v₀ → newest_value (stored_pending x w c) ≡ Some (or_else x v₀)
  stored_newest None v₀ e = e
  stored_newest (Some v) v₀ e = store_newest w v c h

  pub stored_past : (x : Option V) (n : ℕ) (v₀ : V) → w ≤ n → value_at n c ≡ Some v₀ → value_at n (stored_pending x w c) ≡ Some (or_else x v₀)
  stored_past None n v₀ l e = e
  stored_past (Some v) n v₀ l e = store_past w n v c h l

  pub stored_before : (x : Option V) (n : ℕ) → n < w → head (stored_pending x w c) ≤ n + 2 → (head c ≤ n + 2) × (value_at n (stored_pending x w c) ≡ value_at n c)
  stored_before None n l k = (k, refl)
  stored_before (Some v) n l k = let e = store_head w v c h in (omega arith, store_before w n v c f h l (omega arith))
