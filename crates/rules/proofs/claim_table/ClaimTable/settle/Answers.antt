use Rattle.std.proofs.Common.{arith}
use Rattle.rules.proofs.Accepted.{settle_accepted}
use Rattle.rules.proofs.claim_table.ClaimTable.settle.Goals as goal

pub returns : goal.returns
returns c =
    let done = settle_accepted c.args.self.now.bays c.args.bay c.none.result (omega arith) (omega arith) c.mark_readers.new.bays c.if-own.false c.mark_readers.ensures c.none.ensures in
    record { reply = done.0; state = done.1 }
