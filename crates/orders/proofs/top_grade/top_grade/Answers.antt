use Rattle.std.proofs.Common.{◌≡◌, max, map, unwrap_or, sym, ap, ◌∙◌, arith, rules, tests}
use Rattle.std.specs.List.{reduce, range_with_len}
use Rattle.std.proofs.lemmas.Iterator.{YieldsList-from_range, YieldsList-from_map}
use Rattle.std.proofs.lemmas.Iterator.Adapters.{option_map_id}
use Rattle.std.proofs.lemmas.Iterator.Consumers.{max_from_yields_List}
use Rattle.sets.specs.Below.{greatest_below}
use Rattle.sets.proofs.Below.{greatest_le}
use Rattle.orders.proofs.Grades.{is_greatest, greatest_from_range}
use Rattle.orders.proofs.top_grade.top_grade.Goals as goal

pub returns : goal.returns
returns g c =
    let o = c.args.order.now in
    let f = g.O.ClassOrder.grade o in
    let n = g.O.ClassOrder.classes o in
    let chain : c.max.result ≡ reduce max (map f (range_with_len 0 n)) =
    sym (option_map_id c.max.result) ∙ max_from_yields_List c.map.result c.max.result c.max.ensures.ran (YieldsList-from_map _ f (YieldsList-from_range 0 _ n c.map.ensures.source (omega (arith, c.classes.ensures.reply))) c.map.ensures.closure (λ x r q k. search (rules, tests)))
    in
    let e : c.unwrap_or.result ≡ greatest_below n f = c.unwrap_or.ensures ∙ ap (λ r. unwrap_or r 0) chain ∙ greatest_from_range n f in
    record {
      reply = e;
      laws = (is_greatest n f c.unwrap_or.result (g.met.O.ClassOrder.few o).0 e, omega (arith, greatest_le f n 23 (g.met.O.ClassOrder.bounded o)));
    }
