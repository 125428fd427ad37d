use Rattle.std.proofs.Common.{arith}
use Rattle.sets.proofs.Overlap.{overlap_bits}
use Rattle.sets.proofs.small_set.SmallSet.overlaps.Goals as goal

pub returns : goal.returns
returns c = overlap_bits c.args.self.bits c.args.other.bits (omega arith)
