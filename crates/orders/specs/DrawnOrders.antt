-- How a drawn order is built up.
use Rattle.std.specs.Prelude.{ℕ, cond, List, [], ◌∷◌, ◌++◌, length, Ok, Err, Result, ◌==◌, nat_lt}
use Rattle.sets.specs.Members.{has_bit, all_under}
use Rattle.sets.specs.declared.small_set.SmallSet.{SmallSet}
use Rattle.orders.specs.Links.{bit_set}
use Rattle.orders.specs.DrawnClasses.{sets_below}
use Rattle.orders.specs.declared.drawn_order.DrawnOrder.{DrawnOrder}
use Rattle.orders.specs.declared.order_fault.OrderFault.{OrderFault}
use Rattle.orders.specs.declared.order_fault.OrderFault.TheVariants.{TooManyClasses, NotSmaller}

-- For each class, from class 0 up, the set of those directly below it.
abbrev pub drawing_of : DrawnOrder → List SmallSet
drawing_of s = sets_below s.count s.classes

-- Nothing is smaller than class 0.
abbrev pub first_set : ℕ → Result (List SmallSet) OrderFault
first_set m = cond (m == 0) (Ok (bit_set 0 ∷ [])) (Err NotSmaller)

-- The reply to one more class with this set directly below it, and the sets afterwards.
abbrev pub next_set : List SmallSet → ℕ → Result (Unit {0}) OrderFault × List SmallSet
next_set w m =
    cond (nat_lt (length w) 16)
    (cond (all_under (length w) (has_bit m)) (Ok tt, w ++ (bit_set m ∷ [])) (Err NotSmaller, w))
    (Err TooManyClasses, w)
