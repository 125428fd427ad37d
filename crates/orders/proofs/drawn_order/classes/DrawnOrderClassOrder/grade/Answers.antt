use Rattle.std.proofs.Common.{◌∙◌, sym, arith, rules}
use lib.ListN.{get_or-map}
use Rattle.orders.specs.DrawnOrders.{drawing_of}
use Rattle.orders.specs.DrawnLaws.{longest}
use Rattle.orders.specs.declared.drawn_order.DrawnClass.{DrawnClass}
use Rattle.orders.proofs.Tables.{no_class, looked_up}
use Rattle.orders.proofs.drawn_order.classes.DrawnOrderClassOrder.grade.Goals as goal

pub returns : goal.returns
returns c =
    let s = c.args.self.now in
    let e = looked_up (λ x. x.grade) s.classes c.args.c c.get.result c.map_or.result (c.get.ensures.lookup.4 (omega arith) no_class) c.map_or.ensures (λ k. k) (λ x k. search rules)
    ∙ sym (get_or-map (λ (x : DrawnClass). x.grade) s.classes c.args.c no_class) ∙ s.tables.1 c.args.c in
    record { reply = e; laws = longest s.count (drawing_of s) s.drawn s.falling c.args.c _ e }
