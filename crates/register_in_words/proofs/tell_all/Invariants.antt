use Rattle.std.proofs.Common.{length}
use Rattle.register_in_words.proofs.tell_all.Given as goal

abbrev pub decreases-loop-length : goal.decreases-loop-length
decreases-loop-length l = length l.left
