use Rattle.std.proofs.lemmas.Result.{err_from_is_err_and}
use Rattle.lines.proofs.StageOrder.{no_class}
use Rattle.lines.proofs.stage.Stage.add_class.Goals as goal

pub returns-in_default : goal.returns-in_default
returns-in_default c = record { answer = λ m. no_class m c.args.frame.now c.args.self.now c.in_default.not-Planning }

pub returns-in_err-plan : goal.returns-in_err-plan
returns-in_err-plan c =
    let e = err_from_is_err_and c.from_residual.result c.from_residual.ensures.1 in
    rw (e.1, e.2, c.in-Planning.is) (record { answer = c.in_err-plan.ensures.answer })

pub returns : goal.returns
returns c = rw c.in-Planning.is (record { answer = c.in_ok-plan.ensures.answer })
