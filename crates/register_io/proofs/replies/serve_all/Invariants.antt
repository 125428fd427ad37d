use Rattle.std.proofs.Common.{length}
use Rattle.register_io.proofs.replies.serve_all.Given as goal

abbrev pub decreases-loop-left : goal.decreases-loop-left
decreases-loop-left l = length l.left
