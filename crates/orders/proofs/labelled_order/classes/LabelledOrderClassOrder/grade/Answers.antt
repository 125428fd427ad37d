use Rattle.std.proofs.Common.{◌<◌, length, sym, ap, ◌∙◌, arith, get_or-take}
use Rattle.std.proofs.lemmas.Bool.{lt-ltb}
use Rattle.orders.specs.Labels.{lowest, label_grade}
use Rattle.orders.specs.LabelledOrders.{labels_of}
use Rattle.orders.proofs.labelled_order.classes.LabelledOrderClassOrder.grade.Goals as goal

pub returns-then-c-self : goal.returns-then-c-self
returns-then-c-self c =
    let s = c.args.self.now in
    let i : c.args.c < length (labels_of s) = omega (arith, s.labelled.2) in
    let e = get_or-take s.count s.labels c.args.c lowest c.if-c-self.true in
    record { reply = c.grade.ensures ∙ rw (lt-ltb c.args.c (length (labels_of s)) i) (ap label_grade (sym e)) }
