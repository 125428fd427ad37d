use Rattle.laws.proofs.Worked.{worked}
use Rattle.laws.proofs.theorems.cases_worked.Goals as goal

pub returns : goal.returns
returns c = worked
