use Rattle.jobs.specs.Sweeps.{SweptBelow}
use Rattle.jobs.proofs.register.Register.sweep.Given as goal

abbrev pub invariant-loop-class : goal.invariant-loop-class
invariant-loop-class g l = SweptBelow g.O.ClassOrder g.V.Value g.R.LocalRule l.class l.tick l.initial.self l.initial.memory l.self l.memory
