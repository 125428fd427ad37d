use Rattle.std.proofs.Common.{sym, ◌∙◌, arith}
use Rattle.std.proofs.lemmas.Bool.{le-leb}
use Rattle.sets.specs.Members.{members}
use Rattle.sets.proofs.Overlap.{all_under_bits, all_under_from}
use Rattle.sets.proofs.small_set.SmallSet.all_under.Goals as goal

pub returns-then-n-ge-LIMIT : goal.returns-then-n-ge-LIMIT
returns-then-n-ge-LIMIT c =
    le-leb 64 c.args.n c.if-n-ge-LIMIT.true
    ∙ sym (all_under_from c.args.n (members c.args.self) (λ m h x. let l = c.if-n-ge-LIMIT.true in omega arith))

pub returns-else-n-ge-LIMIT : goal.returns-else-n-ge-LIMIT
returns-else-n-ge-LIMIT c = all_under_bits c.args.self.bits c.args.n (omega arith)
