-- What holds of every plan of a register.
use Rattle.lines.specs.Drafts.{Classes, no_classes, classes_in}
use Rattle.lines.specs.declared.planned_order.PlannedOrder.{PlannedOrder}
use Rattle.lines.specs.declared.planned_order.PlannedOrder.TheVariants.{Empty, Classes as ClassesSoFar}

-- The classes so far: none of the kind before there is an order.
abbrev pub classes_so_far : PlannedOrder → Classes
classes_so_far (Empty kind) = no_classes kind
classes_so_far (ClassesSoFar order) = classes_in order
