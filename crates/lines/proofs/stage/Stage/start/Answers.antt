use Rattle.lines.proofs.StageOrder.{no_start}
use Rattle.lines.proofs.stage.Stage.start.Goals as goal

pub returns-in_default : goal.returns-in_default
returns-in_default c = record { answer = no_start c.args.supplied.now c.args.frame.now c.args.self.now c.in_default.not-Planning }
