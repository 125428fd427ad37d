use Rattle.exclusive_rule.proofs.Outcomes.{fresh_holds}
use Rattle.exclusive_rule.proofs.exclusive.ExclusiveLocalRule.fresh.Goals as goal

pub returns : goal.returns
returns c = rw c.then_some.ensures (fresh_holds c.args.variant)
