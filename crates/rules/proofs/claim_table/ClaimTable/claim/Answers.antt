use Rattle.std.proofs.Common.{arith}
use Rattle.rules.proofs.Accepted.{claim_accepted}
use Rattle.rules.proofs.claim_table.ClaimTable.claim.Goals as goal

pub returns-in-None : goal.returns-in-None
returns-in-None c =
    let done = claim_accepted c.args.self.now.bays c.args.bay c.with.result (omega arith) (omega arith) c.args.rival c.args.access c.args.item c.in-None.is (omega arith) c.with.ensures in
    record { reply = done.0; state = done.1 }
