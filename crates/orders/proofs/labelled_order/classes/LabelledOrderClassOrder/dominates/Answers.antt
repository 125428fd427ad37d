use Rattle.std.proofs.Common.{◌<◌, length, sym, ◌∙◌, ap₂, arith, get_or-take}
use Rattle.std.proofs.lemmas.Bool.{lt-ltb}
use Rattle.orders.specs.Labels.{lowest, label_dominates}
use Rattle.orders.specs.LabelledOrders.{labels_of}
use Rattle.orders.proofs.labelled_order.classes.LabelledOrderClassOrder.dominates.Goals as goal

pub returns : goal.returns
returns c =
    let s = c.args.self.now in
    let i : c.args.c < s.count = omega arith in
    let j : c.args.d < s.count = omega arith in
    let x : c.args.c < length (labels_of s) = omega (arith, s.labelled.2) in
    let y : c.args.d < length (labels_of s) = omega (arith, s.labelled.2) in
    let e = get_or-take s.count s.labels c.args.c lowest i in
    let f = get_or-take s.count s.labels c.args.d lowest j in
    record { reply = c.dominates.ensures.reply ∙ rw (lt-ltb c.args.c (length (labels_of s)) x, lt-ltb c.args.d (length (labels_of s)) y) (ap₂ label_dominates (sym e) (sym f)) }
