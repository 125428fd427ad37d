use Rattle.std.proofs.Common.{◌≡◌, ◌++◌, map, take, drop}
use Rattle.register_parts.specs.LateJobs.{closed_if_late}
use Rattle.register_parts.proofs.late.close_late.Given as goal

abbrev pub invariant-loop-bay : goal.invariant-loop-bay
invariant-loop-bay l = l.bays ≡ map (closed_if_late l.grade l.tick) (take l.bay-index l.initial.bays) ++ drop l.bay-index l.initial.bays
