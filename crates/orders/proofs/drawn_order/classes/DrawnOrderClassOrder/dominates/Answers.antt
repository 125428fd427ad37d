use Rattle.std.proofs.Common.{◌∙◌, sym, ap, arith, rules}
use lib.ListN.{get_or-map}
use Rattle.sets.specs.Members.{members}
use Rattle.sets.specs.declared.small_set.SmallSet.{SmallSet}
use Rattle.orders.specs.DrawnOrders.{drawing_of}
use Rattle.orders.specs.DrawnLaws.{reachable}
use Rattle.orders.specs.declared.drawn_order.DrawnClass.{DrawnClass}
use Rattle.sets.proofs.Bits.{has_none}
use Rattle.orders.proofs.Tables.{no_class, looked_up}
use Rattle.orders.proofs.drawn_order.classes.DrawnOrderClassOrder.dominates.Goals as goal

pub returns : goal.returns
returns c =
    let s = c.args.self.now in
    let e = looked_up (λ x. members x.reached c.args.d) s.classes c.args.c c.get.result c.is_some_and.result (c.get.ensures.lookup.4 (omega arith) no_class) c.is_some_and.ensures (λ k. k ∙ sym (has_none c.args.d)) (λ x k. search rules)
    ∙ ap (λ (x : SmallSet). members x c.args.d) (sym (get_or-map (λ (x : DrawnClass). x.reached) s.classes c.args.c no_class)) ∙ s.tables.0 c.args.c c.args.d in
    record { reply = e; laws = reachable s.count (drawing_of s) s.drawn s.falling c.args.c c.args.d _ e }
