use Rattle.std.proofs.Common.{arith}
use Rattle.rules.proofs.Accepted.{forget_accepted}
use Rattle.rules.proofs.claim_table.ClaimTable.forget.Goals as goal

pub returns : goal.returns
returns c =
    let done = forget_accepted c.args.self.now.bays c.args.bay c.none.result (omega arith) (omega arith) c.none.ensures in
    record { reply = done.0; state = done.1 }
