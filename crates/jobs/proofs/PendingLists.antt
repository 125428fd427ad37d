-- Pending values by their places: what a search finds, and where one more value goes.
use Rattle.std.proofs.Common.{◌≡◌, ℕ, zero, suc, ◌-◌, ◌<◌, ◌≤◌, Bool, true, false, cond, eqb, ltb, List, [], ◌∷◌, length, get_or, take, drop, set, is_some, Some, sym, refl, ap, ◌∙◌, arith}
use Prim.Native.Nat.compare
use Rattle.std.proofs.lemmas.Bool.{lt-ltb}
use Rattle.std.proofs.lemmas.List.{get_or-take, length-take}
use Rattle.laws.specs.State.{find, pend}
use Rattle.jobs.specs.Represents.{beside}
use Rattle.register_parts.specs.PendingPlaces.{place, with_item}

-- Items beside values -------------------------------------------------------------------------------------------

module _ {V : Type 0} where
  pub length_beside : (items : List ℕ) (values : List V) → length items ≤ length values → length (beside items values) ≡ length items
  length_beside [] values h = refl
  length_beside (i ∷ items) [] h = absurd (omega arith)
  length_beside (i ∷ items) (v ∷ values) h = ap suc (length_beside items values (omega arith))

  -- An item has a pending value where it stands.
  pub is_found : (i : ℕ) (items : List ℕ) (values : List V) → length items ≤ length values
      → is_some (find i (beside items values)) ≡ ltb (place i items) (length items)
  is_found i [] values h = refl
  is_found i (j ∷ items) [] h = absurd (omega arith)
  is_found i (j ∷ items) (v ∷ values) h = go (eqb i j) (is_found i items values (omega arith))
    where
      go : (q : Bool) → is_some (find i (beside items values)) ≡ ltb (place i items) (length items)
          → is_some (cond q (Some v) (find i (beside items values))) ≡ ltb (cond q 0 (suc (place i items))) (suc (length items))
      go true ih = sym (lt-ltb 0 (suc (length items)) (omega arith))
      go false ih = rw (compare.suc-suc (suc (place i items)) (length items)) ih

  -- A value put at an item's place takes the place of an earlier one, or comes behind the others.
  pub put_pends : (i : ℕ) (v : V) (items : List ℕ) (values : List V) → length items ≤ length values → place i items < length values
      → beside (with_item (place i items) i items) (set values (place i items) v) ≡ pend i v (beside items values)
  put_pends i v [] [] h l = absurd (omega arith)
  put_pends i v [] (u ∷ values) h l = refl
  put_pends i v (j ∷ items) [] h l = absurd (omega arith)
  put_pends i v (j ∷ items) (u ∷ values) h l = go (eqb i j) refl (λ m. put_pends i v items values (omega arith) m)
    where
      go : (q : Bool) → eqb i j ≡ q
          → (place i items < length values → beside (with_item (place i items) i items) (set values (place i items) v) ≡ pend i v (beside items values))
          → beside (with_item (cond q 0 (suc (place i items))) i (j ∷ items)) (set (u ∷ values) (cond q 0 (suc (place i items))) v)
          ≡ cond q (record { item = i; value = v } ∷ beside items values) (record { item = j; value = u } ∷ pend i v (beside items values))
      go true e ih = refl
      go false e ih =
          let within : suc (place i items) < suc (length values) = rw e at l in
          ap (◌∷◌ (record { item = j; value = u })) (ih (omega arith))

  beside_at : (items : List ℕ) (values : List V) (k : ℕ) (v : V) → k < length items → k < length values
      → drop k (beside items values) ≡ record { item = get_or items k 0; value = get_or values k v } ∷ drop (suc k) (beside items values)
  beside_at [] values k v h l = absurd (omega arith)
  beside_at (i ∷ items) [] k v h l = absurd (omega arith)
  beside_at (i ∷ items) (u ∷ values) zero v h l = refl
  beside_at (i ∷ items) (u ∷ values) (suc k) v h l = beside_at items values k v (omega arith) (omega arith)

  -- The pending value before the last so many.
  pub beside_before : (n : ℕ) (items : List ℕ) (values : List V) (k : ℕ) (v : V) → 0 < k → k ≤ length (take n items) → length (take n items) ≤ length values
      → v ≡ get_or values (k - 1) v → drop (k - 1) (beside (take n items) values) ≡ record { item = get_or items (k - 1) 0; value = v } ∷ drop k (beside (take n items) values)
  beside_before n items values k v some within few e =
      let next : suc (k - 1) ≡ k = omega arith in
      let below : k - 1 < n = omega (arith, simp length-take at within) in
      beside_at (take n items) values (k - 1) v (omega arith) (omega arith) ∙ rw (← e, next, get_or-take n items (k - 1) 0 below)
