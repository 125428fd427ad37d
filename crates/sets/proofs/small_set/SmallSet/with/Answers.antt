use mathlib.Core.Path.{fun_ext}
use Rattle.sets.proofs.Bits.{has_with}
use Rattle.sets.proofs.small_set.SmallSet.with.Goals as goal

pub returns : goal.returns
returns c = fun_ext (λ m. has_with c.args.self.bits c.args.n m c.if-n-ge-LIMIT.false)
