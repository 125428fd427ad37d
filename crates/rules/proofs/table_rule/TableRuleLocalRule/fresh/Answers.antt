use Rattle.rules.proofs.Accepted.{fresh_accepted}
use Rattle.rules.proofs.table_rule.TableRuleLocalRule.fresh.Goals as goal

pub returns : goal.returns
returns g c =
    fresh_accepted g.P.ClaimPolicy.variants c.args.variant (g.P.ClaimPolicy.number c.in_ok-policy.policy) c.empty.result.bays c.in_ok-policy.ensures c.empty.ensures
