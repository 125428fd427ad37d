use Rattle.rules.proofs.Tables.{empty_table}
use Rattle.rules.proofs.claim_table.ClaimTable.empty.Goals as goal

pub returns : goal.returns
returns c = λ v. empty_table v 8 c.none.result c.none.ensures
