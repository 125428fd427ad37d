-- The item at an index of memory is what its cell lists, so the laws hold of it.
use Rattle.std.proofs.Common.{◌≡◌, ℕ, ◌<◌, ◌≤◌, true, List, [], map, length, get_or, set, Ok, sym, ap, ◌∙◌, subst, arith}
use lib.ListN.{length-map}
use Rattle.std.proofs.lemmas.List.{get_or-map, get_or-set_same, map-set}
use Rattle.cells.specs.Versions.{kept, accepts, stored, read_at}
use Rattle.cells.specs.Listed.{listed}
use Rattle.cells.specs.Cells.{versions, item}
use Rattle.cells.specs.Laws.{Latest, Serves, Stores}
use Rattle.cells.proofs.Reading.{newest_greatest, serves}
use Rattle.cells.proofs.Storing.{stores}
use Rattle.cells.specs.declared.older.Older.{Older}
use Rattle.cells.specs.declared.older.Older.TheVariants.{Nothing, One, Two}
use Rattle.cells.specs.declared.cell.Cell.{Cell}

module _ {V : Type 0} where
  listed_few : (o : Older V) → length (listed o) ≤ 2
  listed_few Nothing = omega arith
  listed_few (One x) = omega arith
  listed_few (Two x y) = omega arith

  cell_few : (c : Cell V) → length (versions c) ≤ kept
  cell_few c = omega (arith, listed_few c.older)

  module _ (cells : List (Cell V)) (i : ℕ) (cell : Cell V) (within : i < length cells) (is : cell ≡ get_or cells i cell) where
    pub item_here : item i (map versions cells) ≡ versions cell
    item_here = get_or-map versions cells i cell [] within ∙ ap versions (sym is)

    pub item_latest : Latest (item i (map versions cells)) (Ok cell.newest)
    item_latest = subst (λ vs. Latest vs (Ok cell.newest)) (sym item_here) (newest_greatest cell.newest (listed cell.older) cell.ordered)

    pub item_serves : (n : ℕ) → Serves n (item i (map versions cells)) (read_at n (versions cell))
    item_serves n = subst (λ vs. Serves n vs (read_at n (versions cell))) (sym item_here) (serves n (versions cell) cell.ordered)

    module _ (n : ℕ) (v : V) (new : Cell V) (is_new : versions new ≡ stored n v (versions cell)) where
      pub memory_after : map versions (set cells i new) ≡ set (map versions cells) i (stored n v (item i (map versions cells)))
      memory_after = map-set versions cells i new ∙ ap (set (map versions cells) i) (is_new ∙ ap (stored n v) (sym item_here))

      item_after : item i (map versions (set cells i new)) ≡ stored n v (versions cell)
      item_after = ap (item i) (map-set versions cells i new) ∙ get_or-set_same (map versions cells) i (versions new) [] (simp length-map within) ∙ is_new

      pub stores_after : accepts n (versions cell) ≡ true → Stores n v (item i (map versions cells)) (item i (map versions (set cells i new)))
      stores_after accepted =
          let law : Stores n v (versions cell) (stored n v (versions cell)) = stores n v (versions cell) cell.ordered (cell_few cell) accepted in
          rw (item_here, item_after) law
