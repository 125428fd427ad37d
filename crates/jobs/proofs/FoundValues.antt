-- What a search among pending values finds, and what a cell gives where there is nothing.
use Rattle.std.proofs.Common.{◌≡◌, ℕ, suc, ◌<◌, ◌≤◌, Bool, true, false, eqb, ltb, List, [], ◌∷◌, length, get_or, Some, None, Err, sym, refl, arith}
use Rattle.std.proofs.lemmas.List.{get_or_past}
use Rattle.std.proofs.lemmas.Bool.{ltb-false}
use Rattle.cells.specs.Cells.{item, read_reply}
use Rattle.cells.specs.declared.version.Version.{Version}
use Rattle.cells.specs.declared.faults.ReadFault.{ReadFault}
use Rattle.laws.specs.State.{find, value_at}
use Rattle.jobs.specs.Represents.{beside}
use Rattle.register_parts.specs.PendingPlaces.{place}
use Rattle.jobs.proofs.Entrance.{ok_not_err}

module _ {V : Type 0} where
  pub found_at : (i : ℕ) (items : List ℕ) (values : List V) (d : V) → place i items < length items → length items ≤ length values
      → find i (beside items values) ≡ Some (get_or values (place i items) d)
  found_at i [] values d h l = absurd (omega arith)
  found_at i (j ∷ items) [] d h l = absurd (omega arith)
  found_at i (j ∷ items) (v ∷ values) d h l = go (eqb i j) refl (λ m. found_at i items values d m (omega arith))
    where
      go : (q : Bool) → eqb i j ≡ q → (place i items < length items → find i (beside items values) ≡ Some (get_or values (place i items) d))
          → find i (beside (j ∷ items) (v ∷ values)) ≡ Some (get_or (v ∷ values) (place i (j ∷ items)) d)
      go true e ih = rw e
      go false e ih = let m : suc (place i items) < suc (length items) = rw e at h in rw e (ih (omega arith))

  pub not_found : (i : ℕ) (items : List ℕ) (values : List V) → length items ≤ place i items → find i (beside items values) ≡ None
  not_found i [] values h = refl
  not_found i (j ∷ items) [] h = refl
  not_found i (j ∷ items) (v ∷ values) h = go (eqb i j) refl (not_found i items values)
    where
      go : (q : Bool) → eqb i j ≡ q → (length items ≤ place i items → find i (beside items values) ≡ None) → find i (beside (j ∷ items) (v ∷ values)) ≡ None
      go true e ih = let m : suc (length items) ≤ 0 = rw e at h in absurd (omega arith)
      go false e ih = let m : suc (length items) ≤ suc (place i items) = rw e at h in rw e (ih (omega arith))

  -- Where there is no cell there is no value.
  pub no_cell : (index n : ℕ) (items : List (List (Version V))) (e : ReadFault) → Err e ≡ read_reply index n items → value_at n (item index items) ≡ None
  no_cell index n items e p = go (ltb index (length items)) refl
    where
      go : (q : Bool) → ltb index (length items) ≡ q → value_at n (item index items) ≡ None
      go true f = ok_not_err (sym (rw f at p))
      go false f = rw (get_or_past items index [] (ltb-false index (length items) f))
