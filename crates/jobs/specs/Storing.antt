-- What the stores of a commit leave in the cells.
use Rattle.std.specs.Prelude.{◌≡◌, ℕ, ◌+◌, cond, List, [], ◌∷◌, map, nat_lt, slice_set}
use Rattle.cells.specs.Versions.{stored}
use Rattle.cells.specs.Cells.{versions, item}
use Rattle.laws.specs.State.{Cell, Pending}
use Rattle.jobs.specs.Lent.{with_cells}
use Rattle.jobs.specs.declared.memory.Memory.{Memory}

module _ {V : Type 0} where
  -- One store: the other cells stay.
  abbrev pub stored_at : ℕ → ℕ → V → List (Cell V) → List (Cell V)
  stored_at k w v cells = slice_set cells k (stored w v (item k cells))

  -- The cells once pending values are stored under number w, where those of the class's n items begin at place first.
  -- Of several values of one item the first is stored last; that of no item of the class is left out.
  abbrev pub all_stored : ℕ → ℕ → ℕ → List (Pending V) → List (Cell V) → List (Cell V)
  all_stored n first w [] cells = cells
  all_stored n first w (p ∷ ps) cells =
      cond (nat_lt p.item n) (stored_at (first + p.item) w p.value (all_stored n first w ps cells)) (all_stored n first w ps cells)

  -- Only the cells are others: these are their versions.
  abbrev pub CellsBecome : {R : Type 0} → List (Cell V) → Memory V R → Memory V R → Type 0
  CellsBecome cells m m' = (m' ≡ with_cells m m'.cells.now) × (map versions m'.cells.now ≡ cells)
