-- What a drawn order keeps of its classes, one list for each part.
use Rattle.std.specs.Prelude.{ℕ, List, map, take}
use Rattle.sets.specs.declared.small_set.SmallSet.{SmallSet}
use Rattle.orders.specs.declared.drawn_order.DrawnClass.{DrawnClass}

-- The sets directly below the first n classes.
abbrev pub sets_below : ℕ → List DrawnClass → List SmallSet
sets_below n classes = take n (map (λ c. c.below) classes)

abbrev pub sets_reached : List DrawnClass → List SmallSet
sets_reached classes = map (λ c. c.reached) classes

abbrev pub grades : List DrawnClass → List ℕ
grades classes = map (λ c. c.grade) classes
