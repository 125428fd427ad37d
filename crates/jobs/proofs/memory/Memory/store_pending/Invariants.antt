use Rattle.std.proofs.Common.{map, drop}
use Rattle.cells.specs.Cells.{versions}
use Rattle.jobs.specs.Represents.{pending_of, bay_values}
use Rattle.jobs.specs.Storing.{all_stored, CellsBecome}
use Rattle.jobs.proofs.memory.Memory.store_pending.Given as goal

abbrev pub invariant-loop-k : goal.invariant-loop-k
invariant-loop-k g l =
    CellsBecome (all_stored l.items l.first l.number (drop l.k (pending_of l.pending (bay_values l.initial.self.pending.now l.id.class l.id.bay))) (map versions l.initial.self.cells.now)) l.initial.self l.self
