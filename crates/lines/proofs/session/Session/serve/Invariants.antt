use Rattle.std.proofs.Common.{◌-◌, length}
use Rattle.lines.proofs.Running.{SoFar}
use Rattle.lines.proofs.session.Session.serve.Given as goal

abbrev pub invariant-loop-line : goal.invariant-loop-line
invariant-loop-line l = SoFar l.initial.self l.initial.supplied l.input l.initial.output l.self l.supplied l.output l.taken l.written

abbrev pub decreases-loop-line : goal.decreases-loop-line
decreases-loop-line l = length l.input - l.taken
