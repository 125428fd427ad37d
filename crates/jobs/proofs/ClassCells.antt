-- The cells of the classes: each class has its own places, and a commit stores into those of its class alone.
use Rattle.std.proofs.Common.{◌≡◌, ℕ, ◌+◌, ◌<◌, ◌≤◌, Bool, true, false, ltb, leb, List, [], ◌∷◌, map, length, get_or, sym, refl, ap, ◌∙◌, subst, inl, inr, arith}
use mathlib.Core.Path.{fun_ext}
use mathlib.Core.Bool.{Bool-set}
use lib.ListN.{length-map}
use Rattle.std.proofs.lemmas.List.{get_or-map, get_or_past}
use Rattle.std.proofs.lemmas.Bool.{ltb-true, lt-ltb, le-leb, cases_lt, cases_order, and_from, both_ways}
use Rattle.cells.specs.Versions.{falling}
use Rattle.cells.specs.Listed.{listed}
use Rattle.cells.specs.Cells.{versions, item}
use Rattle.cells.specs.declared.version.Version.{Version}
use Rattle.cells.specs.declared.older.Older.{Older}
use Rattle.cells.specs.declared.older.Older.TheVariants.{Nothing, One, Two}
use Rattle.cells.specs.declared.cell.Cell.{Cell}
use Rattle.laws.specs.Setting.{Setting, sum_below}
use Rattle.laws.specs.State.{Pending, find}
use Rattle.laws.specs.Actions.{stored_item}
use Rattle.jobs.specs.Represents.{cell_of}
use Rattle.jobs.specs.Lent.{from_on}
use Rattle.jobs.specs.Storing.{all_stored}
use Rattle.jobs.proofs.ItemSums.{sum_in}
use Rattle.jobs.proofs.PendingStores.{length_stored, stored_elsewhere, stored_own}

-- Places --------------------------------------------------------------------------------------------------------

-- Cells of two classes never share a place.
cells_apart : (f : ℕ → ℕ) (c d i j : ℕ) → ¬ (d ≡ c) → i < f d → j < f c → ¬ (sum_below d f + i ≡ sum_below c f + j)
cells_apart f c d i j n l l' e =
    elim (cases_order d c) [
      | inl same ↦ n same
      | inr (inl below) ↦ omega (arith, sum_in f d c below)
      | inr (inr above) ↦ omega (arith, sum_in f c d above)
    ]

-- A cell is told by its versions --------------------------------------------------------------------------------

module _ {V : Type 0} where
  listed_tells : (x y : Older V) → listed x ≡ listed y → x ≡ y
  listed_tells Nothing Nothing e = refl
  listed_tells Nothing (One a) e = let z : ◌≡◌ {A = ℕ} 0 1 = cc in absurd (omega arith)
  listed_tells Nothing (Two a b) e = let z : ◌≡◌ {A = ℕ} 0 1 = cc in absurd (omega arith)
  listed_tells (One a) Nothing e = let z : ◌≡◌ {A = ℕ} 0 1 = cc in absurd (omega arith)
  listed_tells (One a) (One b) e = cc
  listed_tells (One a) (Two b d) e = let z : ◌≡◌ {A = ℕ} 0 1 = cc in absurd (omega arith)
  listed_tells (Two a b) Nothing e = let z : ◌≡◌ {A = ℕ} 0 1 = cc in absurd (omega arith)
  listed_tells (Two a b) (One d) e = let z : ◌≡◌ {A = ℕ} 0 1 = cc in absurd (omega arith)
  listed_tells (Two a b) (Two d e) q = cc

  abbrev cell_with : (newest : Version V) (older : Older V) → falling (newest ∷ listed older) ≡ true → Cell V
  cell_with newest older ordered = record { newest = newest; older = older; ordered = ordered }

  cell_told : (x y : Cell V) → x.newest ≡ y.newest → x.older ≡ y.older → x ≡ y
  cell_told x y e f =
      subst (λ (n : Version V). (q : falling (n ∷ listed y.older) ≡ true) → x ≡ cell_with n y.older q) e
      (subst (λ (l : Older V). (q : falling (x.newest ∷ listed l) ≡ true) → x ≡ cell_with x.newest l q) f
      (λ q. ap (cell_with x.newest x.older) (Bool-set (falling (versions x)) true x.ordered q)))
      y.ordered

  versions_tell : (x y : Cell V) → versions x ≡ versions y → x ≡ y
  versions_tell x y e =
      let first : x.newest ≡ y.newest = cc in
      let rest : listed x.older ≡ listed y.older = cc in
      cell_told x y first (listed_tells x.older y.older rest)

  -- A cell whose versions are as before is as before.
  pub same_cell : (cells cells' : List (Cell V)) (k : ℕ) → length cells' ≡ length cells → item k (map versions cells') ≡ item k (map versions cells)
      → (d : Cell V) → get_or cells' k d ≡ get_or cells k d
  same_cell cells cells' k same e d =
      elim (cases_lt k (length cells)) [
        | inl l ↦ versions_tell (get_or cells' k d) (get_or cells k d) (sym (get_or-map versions cells' k d [] (omega arith)) ∙ e ∙ get_or-map versions cells k d [] l)
        | inr l ↦ get_or_past cells' k d (omega arith) ∙ sym (get_or_past cells k d l)
      ]

-- A commit of class c -------------------------------------------------------------------------------------------

module _ {V : Type 0} (S : Setting V) (cells cells' : List (Cell V)) (c w : ℕ) (p : List (Pending V))
    (is_class : c < S.classes) (room : sum_below S.classes S.items ≤ length cells)
    (stores : map versions cells' ≡ all_stored (S.items c) (sum_below c S.items) w p (map versions cells)) where
  -- The cells of another class are as before.
  pub others_stay : (d : ℕ) → ¬ (d ≡ c) → cell_of S cells' d ≡ cell_of S cells d
  others_stay d n = fun_ext (λ i. go i (ltb i (S.items d)) refl)
    where
      go : (i : ℕ) (q : Bool) → ltb i (S.items d) ≡ q → cell_of S cells' d i ≡ cell_of S cells d i
      go i false e = rw e
      go i true e =
          rw e (ap (item (sum_below d S.items + i)) stores
          ∙ stored_elsewhere (S.items c) (sum_below c S.items) w p (map versions cells) (sum_below d S.items + i)
          (λ j l. cells_apart S.items c d i j n (ltb-true i (S.items d) e) l))

  -- Those of class c have what was pending.
  pub own_stored : cell_of S cells' c ≡ (λ i. stored_item (ltb i (S.items c)) (find i p) w (cell_of S cells c i))
  own_stored = fun_ext (λ i. go i (ltb i (S.items c)) refl)
    where
      go : (i : ℕ) (q : Bool) → ltb i (S.items c) ≡ q → cell_of S cells' c i ≡ stored_item (ltb i (S.items c)) (find i p) w (cell_of S cells c i)
      go i false e = rw e
      go i true e =
          let inside = sum_in S.items c S.classes is_class in
          rw e (ap (item (sum_below c S.items + i)) stores
          ∙ stored_own (S.items c) (sum_below c S.items) w p (map versions cells) i (ltb-true i (S.items c) e) (simp length-map (omega arith)))

  pub same_length : length cells' ≡ length cells
  same_length = sym (length-map cells' versions) ∙ ap length stores ∙ length_stored (S.items c) (sum_below c S.items) w p (map versions cells) ∙ length-map cells versions

  -- Outside the class's places every cell is as before.
  pub cells_stay : (k : ℕ) → from_on (sum_below c S.items) (S.items c) k ≡ false → (d : Cell V) → get_or cells' k d ≡ get_or cells k d
  cells_stay k n d =
      same_cell cells cells' k same_length
      (ap (item k) stores ∙ stored_elsewhere (S.items c) (sum_below c S.items) w p (map versions cells) k elsewhere) d
    where
      elsewhere : (i : ℕ) → i < S.items c → ¬ (k ≡ sum_below c S.items + i)
      elsewhere i l e =
          both_ways (from_on (sum_below c S.items) (S.items c) k) n
          (and_from (leb (sum_below c S.items) k) (ltb k (sum_below c S.items + S.items c))
          (le-leb (sum_below c S.items) k (omega arith)) (lt-ltb k (sum_below c S.items + S.items c) (omega arith)))
