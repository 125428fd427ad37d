-- What an order answers that is drawn or labelled.
use Rattle.std.specs.Prelude.{ℕ, Bool}
use Rattle.orders.specs.Links.{dominates_as_drawn, grade_as_drawn}
use Rattle.orders.specs.DrawnOrders.{drawing_of}
use Rattle.orders.specs.Labels.{dominates_by_label, grade_by_label}
use Rattle.orders.specs.LabelledOrders.{labels_of}
use Rattle.orders.specs.declared.chosen_order.ChosenOrder.{ChosenOrder}
use Rattle.orders.specs.declared.chosen_order.ChosenOrder.TheVariants.{Drawn, Labelled}

abbrev pub chosen_classes : ChosenOrder → ℕ
chosen_classes (Drawn order) = order.count
chosen_classes (Labelled order) = order.count

abbrev pub chosen_dominates : ChosenOrder → ℕ → ℕ → Bool
chosen_dominates (Drawn order) = dominates_as_drawn (drawing_of order)
chosen_dominates (Labelled order) = dominates_by_label (labels_of order)

abbrev pub chosen_grade : ChosenOrder → ℕ → ℕ
chosen_grade (Drawn order) = grade_as_drawn (drawing_of order)
chosen_grade (Labelled order) = grade_by_label (labels_of order)
