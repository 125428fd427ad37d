-- The refusals of the version store in words, byte by byte.
use Rattle.std.specs.Prelude.{ℕ, List, codes}
use Rattle.cells.specs.declared.faults.ReadFault.{ReadFault}
use Rattle.cells.specs.declared.faults.StoreFault.{StoreFault}
use Rattle.cells.specs.declared.faults.ReadFault.TheVariants.{NoCell as no_cell_to_read}
use Rattle.cells.specs.declared.faults.StoreFault.TheVariants.{NoCell, OldNumber}

abbrev pub store_fault_words : StoreFault → List ℕ
store_fault_words NoCell = codes "there is no such item"
store_fault_words OldNumber = codes "the newest number is greater"

abbrev pub read_fault_words : ReadFault → List ℕ
read_fault_words no_cell_to_read = codes "there is no such item"
