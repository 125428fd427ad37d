-- The versions that a cell keeps beside its newest, as a list.
use Rattle.std.specs.Prelude.{List, [], ◌∷◌}
use Rattle.cells.specs.declared.version.Version.{Version}
use Rattle.cells.specs.declared.older.Older.{Older}
use Rattle.cells.specs.declared.older.Older.TheVariants.{Nothing, One, Two}

abbrev pub listed : {V : Type 0} → Older V → List (Version V)
listed Nothing = []
listed (One x) = x ∷ []
listed (Two x y) = x ∷ y ∷ []
