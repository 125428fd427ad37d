use Rattle.std.proofs.Common.{◌≡◌, ◌++◌, map, take, drop}
use Rattle.exclusive_rule.specs.Holds.{released_by}
use Rattle.exclusive_rule.proofs.exclusive.release_all.Given as goal

abbrev pub invariant-loop-held : goal.invariant-loop-held
invariant-loop-held l = l.holds ≡ map (released_by l.bay) (take l.held-index l.initial.holds) ++ drop l.held-index l.initial.holds
