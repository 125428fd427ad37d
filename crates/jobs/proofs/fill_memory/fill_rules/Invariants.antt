use Rattle.jobs.specs.SetUp.{Overwritten, FreshRule}
use Rattle.jobs.proofs.fill_memory.fill_rules.Given as goal

abbrev pub invariant-loop-k : goal.invariant-loop-k
invariant-loop-k g l = Overwritten (FreshRule g.R.LocalRule l.variant) l.k l.initial.rules l.rules
