-- The stores of a commit, cell by cell.
use Rattle.std.proofs.Common.{◌≡◌, ℕ, ◌+◌, ◌-◌, ◌<◌, ◌≤◌, Bool, true, false, cond, eqb, ltb, List, [], ◌∷◌, length, get_or, take, drop, Some, None, Option, sym, refl, ap, ◌∙◌, arith, eq-eqb}
use Rattle.std.proofs.lemmas.List.{length-set, get_or-set_same, get_or-set_other, get_or_default, drop_all}
use Rattle.std.proofs.lemmas.Bool.{eqb-true, eqb-false, ltb-true, ltb-false, lt-ltb, le-ltb}
use Rattle.cells.specs.Versions.{stored}
use Rattle.cells.specs.Cells.{item}
use Rattle.laws.specs.State.{Cell, Pending, find}
use Rattle.laws.specs.Actions.{stored_pending}
use Rattle.jobs.specs.Represents.{beside}
use Rattle.jobs.specs.Storing.{stored_at, all_stored}
use Rattle.jobs.proofs.PendingLists.{beside_before}

module _ {V : Type 0} where
  -- Of two stores under one number the later counts.
  stored_twice : (w : ℕ) (v u : V) (x : Cell V) → stored w v (stored w u x) ≡ stored w v x
  stored_twice w v u [] = rw (eq-eqb w w refl)
  stored_twice w v u (y ∷ older) = go (eqb w y.number) (ltb y.number w) refl refl
    where
      go : (p q : Bool) → eqb w y.number ≡ p → ltb y.number w ≡ q → stored w v (stored w u (y ∷ older)) ≡ stored w v (y ∷ older)
      go true q e f = rw (e, eq-eqb w w refl)
      go false true e f = rw (e, f, eq-eqb w w refl)
      go false false e f = rw (e, f, e, f)

  stored_over : (w : ℕ) (v : V) (earlier : Option V) (x : Cell V) → stored w v (stored_pending earlier w x) ≡ stored w v x
  stored_over w v None x = refl
  stored_over w v (Some u) x = stored_twice w v u x

  module _ (n first w : ℕ) where
    pub length_stored : (ps : List (Pending V)) (cells : List (Cell V)) → length (all_stored n first w ps cells) ≡ length cells
    length_stored [] cells = refl
    length_stored (p ∷ ps) cells = go (ltb p.item n) (length_stored ps cells)
      where
        go : (q : Bool) → length (all_stored n first w ps cells) ≡ length cells
            → length (cond q (stored_at (first + p.item) w p.value (all_stored n first w ps cells)) (all_stored n first w ps cells)) ≡ length cells
        go true ih = simp length-set ih
        go false ih = ih

    pub none_stored : (ps : List (Pending V)) (cells : List (Cell V)) (k : ℕ) → length ps ≤ k → all_stored n first w (drop k ps) cells ≡ cells
    none_stored ps cells k h = rw (drop_all k ps h)

    -- A cell that is not one of the class's.
    pub stored_elsewhere : (ps : List (Pending V)) (cells : List (Cell V)) (k : ℕ) → ((i : ℕ) → i < n → ¬ (k ≡ first + i))
        → item k (all_stored n first w ps cells) ≡ item k cells
    stored_elsewhere [] cells k apart = refl
    stored_elsewhere (p ∷ ps) cells k apart = go (ltb p.item n) refl (stored_elsewhere ps cells k apart)
      where
        go : (q : Bool) → ltb p.item n ≡ q → item k (all_stored n first w ps cells) ≡ item k cells
            → item k (cond q (stored_at (first + p.item) w p.value (all_stored n first w ps cells)) (all_stored n first w ps cells)) ≡ item k cells
        go true e ih = get_or-set_other (all_stored n first w ps cells) (first + p.item) k _ [] (apart p.item (ltb-true p.item n e)) ∙ ih
        go false e ih = ih

    -- The cell of item i of the class has what is pending for i.
    pub stored_own : (ps : List (Pending V)) (cells : List (Cell V)) (i : ℕ) → i < n → first + n ≤ length cells
        → item (first + i) (all_stored n first w ps cells) ≡ stored_pending (find i ps) w (item (first + i) cells)
    stored_own [] cells i l room = refl
    stored_own (p ∷ ps) cells i l room = go (ltb p.item n) (eqb i p.item) refl refl (stored_own ps cells i l room)
      where
        before : List (Cell V)
        before = all_stored n first w ps cells

        go : (q q' : Bool) → ltb p.item n ≡ q → eqb i p.item ≡ q'
            → item (first + i) before ≡ stored_pending (find i ps) w (item (first + i) cells)
            → item (first + i) (cond q (stored_at (first + p.item) w p.value before) before) ≡ stored_pending (cond q' (Some p.value) (find i ps)) w (item (first + i) cells)
        go false true e f ih = absurd (omega (arith, ltb-false p.item n e, eqb-true i p.item f))
        go false false e f ih = ih
        go true false e f ih =
            let apart : ¬ (first + i ≡ first + p.item) = λ g. eqb-false i p.item f (omega arith) in
            get_or-set_other before (first + p.item) (first + i) _ [] apart ∙ ih
        go true true e f ih =
            let within : first + i < length before = omega (arith, length_stored ps cells) in
            rw (← (eqb-true i p.item f)) (get_or-set_same before (first + i) _ [] within ∙ ap (stored w p.value) ih ∙ stored_over w p.value (find i ps) (item (first + i) cells))

  some_of : (values : List V) → 0 < length values → V
  some_of [] h = absurd (omega arith)
  some_of (v ∷ values) h = v

  -- The pending values are stored from the last on: those from place k on are, and now comes the one before.
  module _ (n first w count : ℕ) (items : List ℕ) (values : List V) (cells now : List (Cell V)) (k : ℕ)
      (some : 0 < k) (within : k ≤ length (take count items)) (few : length (take count items) ≤ length values)
      (so_far : now ≡ all_stored n first w (drop k (beside (take count items) values)) cells) where
    abbrev this : ℕ
    this = get_or items (k - 1) 0

    one_more : (v : V) → v ≡ get_or values (k - 1) v → all_stored n first w (drop (k - 1) (beside (take count items) values)) cells
        ≡ cond (ltb this n) (stored_at (first + this) w v now) now
    one_more v e = rw (beside_before count items values k v some within few e, so_far)

    pub stores_one : (v : V) → v ≡ get_or values (k - 1) v → this < n → stored_at (first + this) w v now ≡ all_stored n first w (drop (k - 1) (beside (take count items) values)) cells
    stores_one v e l = sym (one_more v e ∙ rw (lt-ltb this n l))

    pub leaves_out : n ≤ this → now ≡ all_stored n first w (drop (k - 1) (beside (take count items) values)) cells
    leaves_out l =
        let v : V = some_of values (omega arith) in
        sym (one_more (get_or values (k - 1) v) (get_or_default values (k - 1) v (get_or values (k - 1) v) (omega arith)) ∙ rw (le-ltb this n l))
