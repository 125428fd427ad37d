use Rattle.laws.proofs.theorems.laws_hold.Goals as goal
use Rattle.laws.proofs.Laws.{fresh_stands, steps_keep_laws, laws_hold, runs_keep_laws}

pub returns : goal.returns
returns g c = record { fresh = fresh_stands _; steps = steps_keep_laws _; laws = laws_hold _; runs = runs_keep_laws _ }
