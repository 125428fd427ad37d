use Rattle.std.proofs.Common.{arith}
use Rattle.jobs.specs.SetUp.{FreshRule}
use Rattle.jobs.proofs.Overwriting.{overwritten_next, made_fresh}
use Rattle.jobs.proofs.fill_memory.fill_rules.Goals as goal

pub loop-k-preserved : goal.loop-k-preserved
loop-k-preserved g c =
    overwritten_next (FreshRule g.R.LocalRule c.args.variant) c.args.rules.now c.loop-k.rules c.loop-k.k c.unwrap.result (omega arith) c.loop-k.invariant
    (made_fresh g.R.LocalRule c.args.variant c.fresh.result c.unwrap.result c.requires.1 c.fresh.ensures c.unwrap.ensures)
