use Rattle.std.proofs.Common.{sym, ◌∙◌, arith}
use Rattle.std.proofs.lemmas.Bool.{le-ltb}
use Rattle.sets.proofs.Bits.{has_past}
use Rattle.sets.proofs.small_set.SmallSet.contains.Goals as goal

pub returns-else-n-lt-LIMIT : goal.returns-else-n-lt-LIMIT
returns-else-n-lt-LIMIT c =
    le-ltb c.args.n 64 c.if-n-lt-LIMIT.false
    ∙ sym (has_past c.args.self.bits 64 c.args.n (omega arith) c.if-n-lt-LIMIT.false)
