use Rattle.std.proofs.Common.{rules, of_calls, arith}
use Rattle.rules.specs.Tables.{overwritten, no_bay}
use Rattle.rules.proofs.Mapped.{mapped}
use Rattle.rules.proofs.claim_table.mark_readers.Goals as goal

pub returns : goal.returns
returns c =
    mapped _ _ (overwritten c.args.written) (λ x y q called. search (rules, of_calls)) c.args.bays.now c.map.result 8 c.map.ensures.items (omega arith) no_bay no_bay
