use mathlib.Core.Path.{fun_ext}
use Rattle.sets.proofs.Bits.{has_or}
use Rattle.sets.proofs.small_set.SmallSet.union.Goals as goal

pub returns : goal.returns
returns c = fun_ext (λ m. has_or c.args.self.bits c.args.other.bits m)
