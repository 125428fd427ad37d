use Rattle.std.proofs.Common.{ap, ◌∙◌}
use Rattle.exclusive_rule.proofs.Outcomes.{settles}
use Rattle.exclusive_rule.proofs.exclusive.ExclusiveLocalRule.settle.Goals as goal

pub returns : goal.returns
returns c =
    let e = settles c.args.self.now.holds c.args.bay in
    record { reply = c.release.ensures.reply ∙ ap (λ o. o.reply) e; state = c.release.ensures.state ∙ ap (λ o. o.claims) e }
