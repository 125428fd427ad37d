use Rattle.std.proofs.Common.{refl, arith}
use Rattle.orders.proofs.DrawnGrowth.{first_falling, first_tables}
use Rattle.orders.proofs.drawn_order.DrawnOrder.new.Goals as goal

pub invariant_of-result : goal.invariant_of-result
invariant_of-result c =
    let none = c.from-none.result in record {
      drawn = (omega arith, omega arith, refl);
      falling = first_falling none c.from-none.ensures c.with.result c.with.ensures;
      tables = first_tables none c.from-none.ensures c.with.result c.with.ensures;
    }
