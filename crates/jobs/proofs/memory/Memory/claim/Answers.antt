use Rattle.std.proofs.Common.{refl}
use Rattle.rules.specs.Claims.{Claims}
use Rattle.rules.specs.Calls.{claiming}
use Rattle.jobs.proofs.RuleCalls.{rule_called}
use Rattle.jobs.proofs.memory.Memory.claim.Goals as goal

pub returns : goal.returns
returns g c =
    let id = c.args.id in
    let access = c.args.access in
    let z = rule_called g.R.LocalRule c.args.self.now id.class c.index-self-id.result c.claim.new.self (λ (k : Claims). claiming access (g.R.LocalRule.policy access) k id.bay c.args.item) c.claim.result
    c.requires c.claim.ensures.reply c.claim.ensures.state in
    record { reply = z.0; memory = (c.claim.new.self, refl, z.1) }
