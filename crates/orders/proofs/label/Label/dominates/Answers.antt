use Rattle.std.proofs.Common.{◌≡◌, eqb, leb, arith, rules}
use lib.Bits.{bit_and}
use Rattle.orders.specs.Labels.{label_dominates}
use Rattle.orders.specs.LabelLaws.{dominance}
use Rattle.orders.proofs.label.Label.dominates.Goals as goal

pub returns-then-other-self : goal.returns-then-other-self
returns-then-other-self c =
    let e : eqb (bit_and c.args.self.compartments c.args.other.compartments) c.args.other.compartments ≡ label_dominates c.args.self c.args.other = search rules in
    record { reply = e; laws = dominance c.args.self c.args.other _ (omega arith) (omega arith) e }

pub returns-else-other-self : goal.returns-else-other-self
returns-else-other-self c =
    let e : leb c.args.other.rank c.args.self.rank ≡ label_dominates c.args.self c.args.other = search rules in
    record { reply = e; laws = dominance c.args.self c.args.other _ (omega arith) (omega arith) e }
