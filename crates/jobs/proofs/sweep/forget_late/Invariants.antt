use Rattle.std.proofs.Common.{◌≡◌}
use Rattle.jobs.specs.Sweeps.{claims_left}
use Rattle.jobs.proofs.sweep.forget_late.Given as goal

abbrev pub invariant-loop-bay : goal.invariant-loop-bay
invariant-loop-bay g l = g.R.LocalRule.meaning l.rule ≡ claims_left l.grade l.tick l.bays l.bay (g.R.LocalRule.meaning l.initial.rule)
