-- The places of pending values: those of one bay, and those of the others.
use Rattle.std.proofs.Common.{◌≡◌, ℕ, zero, suc, ◌+◌, ◌-◌, ◌<◌, ◌≤◌, Bool, true, false, cond, ltb, ◌⊎◌, List, [], ◌∷◌, length, get_or, take, drop, set, sym, refl, ap, ◌∙◌, inl, inr, arith}
use Rattle.std.proofs.lemmas.List.{length-take, length-drop, get_or-take, get_or-drop, drop-set-lt, drop-set-add, take-set-le}
use Rattle.std.proofs.lemmas.Bool.{lt-ltb, ltb-true, cases_order}
use Rattle.laws.specs.Setting.{bay_count}
use Rattle.laws.specs.Actions.{pending_places}
use Rattle.jobs.specs.Represents.{pending_place, bay_values}

module _ {V : Type 0} where
  take_set_within : (n : ℕ) (l : List V) (k : ℕ) (v : V) → k < n → take n (set l k v) ≡ set (take n l) k v
  take_set_within zero l k v h = absurd (omega arith)
  take_set_within (suc n) [] k v h = refl
  take_set_within (suc n) (a ∷ l) zero v h = refl
  take_set_within (suc n) (a ∷ l) (suc k) v h = ap (◌∷◌ a) (take_set_within n l k v (omega arith))

  module _ (pending : List V) (c b : ℕ) (in_bays : b < bay_count) where
    pub eight_values : pending_place c b + 8 ≤ length pending → length (bay_values pending c b) ≡ 8
    eight_values room = rw (lt-ltb b bay_count in_bays) (simp (length-take, length-drop) (omega arith))

    pub value_in : (k : ℕ) (v : V) → k < pending_places → get_or (bay_values pending c b) k v ≡ get_or pending (pending_place c b + k) v
    value_in k v h =
        rw (lt-ltb b bay_count in_bays) (get_or-take pending_places (drop (pending_place c b) pending) k v h ∙ get_or-drop (pending_place c b) pending k v)

    pub values_set : (k : ℕ) (v : V) → k < pending_places → bay_values (set pending (pending_place c b + k) v) c b ≡ set (bay_values pending c b) k v
    values_set k v h =
        rw (lt-ltb b bay_count in_bays) (ap (take pending_places) (drop-set-add (pending_place c b) pending k v) ∙ take_set_within pending_places (drop (pending_place c b) pending) k v h)

    -- A value in a place of bay b of class c is in no place of another bay.
    pub values_kept : (k : ℕ) (v : V) → k < pending_places → (d e : ℕ) → (¬ (d ≡ c)) ⊎ (¬ (e ≡ b)) → bay_values (set pending (pending_place c b + k) v) d e ≡ bay_values pending d e
    values_kept k v h d e apart = go (ltb e bay_count) refl
      where
        before : (l : List V) (a i : ℕ) → i < a → take pending_places (drop a (set l i v)) ≡ take pending_places (drop a l)
        before l a i m = ap (take pending_places) (drop-set-lt a l i v m)

        behind : (l : List V) (a i : ℕ) → a + pending_places ≤ i → take pending_places (drop a (set l i v)) ≡ take pending_places (drop a l)
        behind l a i m =
            let is : a + (i - a) ≡ i = omega arith in
            ap (λ (z : ℕ). take pending_places (drop a (set l z v))) (sym is) ∙ ap (take pending_places) (drop-set-add a l (i - a) v) ∙ take-set-le pending_places (drop a l) (i - a) v (omega arith)

        place_apart : e < bay_count → (pending_place c b + k < pending_place d e) ⊎ (pending_place d e + pending_places ≤ pending_place c b + k)
        place_apart l =
            elim (cases_order d c) [
              | inl same ↦ elim (cases_order e b) [
                | inl same' ↦ absurd (elim apart [ inl n ↦ n same | inr n ↦ n same' ])
                | inr (inl m) ↦ inr (omega arith)
                | inr (inr m) ↦ inl (omega arith)
              ]
              | inr (inl m) ↦ inr (omega arith)
              | inr (inr m) ↦ inl (omega arith)
            ]

        go : (q : Bool) → ltb e bay_count ≡ q
            → cond q (take pending_places (drop (pending_place d e) (set pending (pending_place c b + k) v))) []
            ≡ cond q (take pending_places (drop (pending_place d e) pending)) []
        go false f = refl
        go true f =
            elim (place_apart (ltb-true e bay_count f)) [
              | inl m ↦ before pending (pending_place d e) (pending_place c b + k) m
              | inr m ↦ behind pending (pending_place d e) (pending_place c b + k) m
            ]
