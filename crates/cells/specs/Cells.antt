-- What cells in memory mean: the versions of each; and what the calls of the version store answer.
use Rattle.std.specs.Prelude.{ℕ, cond, List, [], ◌∷◌, length, Some, None, Ok, Err, Option, Result, nat_lt, slice_index_or}
use Rattle.cells.specs.Listed.{listed}
use Rattle.cells.specs.Versions.{accepts, read_at, newest}
use Rattle.cells.specs.declared.version.Version.{Version}
use Rattle.cells.specs.declared.cell.Cell.{Cell}
use Rattle.cells.specs.declared.faults.ReadFault.{ReadFault}
use Rattle.cells.specs.declared.faults.StoreFault.{StoreFault}
use Rattle.cells.specs.declared.faults.ReadFault.TheVariants.{NoCell as no_cell_to_read}
use Rattle.cells.specs.declared.faults.StoreFault.TheVariants.{NoCell, OldNumber}

module _ {V : Type 0} where
  -- The versions in a cell, newest first.
  abbrev pub versions : Cell V → List (Version V)
  versions c = c.newest ∷ listed c.older

  -- The versions of an item; none where there is no cell.
  abbrev pub item : ℕ → List (List (Version V)) → List (Version V)
  item index items = slice_index_or items index []

  abbrev pub store_reply : ℕ → ℕ → List (List (Version V)) → Result (Unit {0}) StoreFault
  store_reply index n items =
      cond (nat_lt index (length items)) (cond (accepts n (item index items)) (Ok tt) (Err OldNumber)) (Err NoCell)

  abbrev pub read_reply : ℕ → ℕ → List (List (Version V)) → Result (Option (Version V)) ReadFault
  read_reply index n items = cond (nat_lt index (length items)) (Ok (read_at n (item index items))) (Err no_cell_to_read)

  abbrev pub or_no_cell : Option (Version V) → Result (Version V) ReadFault
  or_no_cell None = Err no_cell_to_read
  or_no_cell (Some x) = Ok x

  abbrev pub newest_reply : ℕ → List (List (Version V)) → Result (Version V) ReadFault
  newest_reply index items = or_no_cell (newest (item index items))
