-- How an order of labels is built up.
use Rattle.std.specs.Prelude.{ℕ, Bool, cond, List, [], ◌∷◌, ◌++◌, length, take, Ok, Err, Result, nat_le, nat_lt}
use Rattle.std.specs.List.{list_any}
use Rattle.orders.specs.Labels.{same_label}
use Rattle.orders.specs.declared.label.Label.{Label}
use Rattle.orders.specs.declared.labelled_order.LabelledOrder.{LabelledOrder}
use Rattle.orders.specs.declared.order_fault.OrderFault.{OrderFault}
use Rattle.orders.specs.declared.order_fault.OrderFault.TheVariants.{TooManyClasses, RankTooHigh, LabelUsed}

-- The labels of the classes, from class 0 up.
abbrev pub labels_of : LabelledOrder → List Label
labels_of s = take s.count s.labels

abbrev pub make_label : ℕ → ℕ → Label
make_label rank compartments = record { rank = rank; compartments = compartments }

-- Whether some class has this label.
abbrev pub used : List Label → Label → Bool
used w l = list_any (λ c. same_label c l) w

abbrev pub first_label : ℕ → ℕ → Result (List Label) OrderFault
first_label rank compartments = cond (nat_le rank 15) (Ok (make_label rank compartments ∷ [])) (Err RankTooHigh)

-- The reply to one more class with this label, and the labels afterwards.
abbrev pub next_label : List Label → ℕ → ℕ → Result (Unit {0}) OrderFault × List Label
next_label w rank compartments =
    cond (nat_lt (length w) 16)
    (cond (nat_le rank 15)
    (cond (used w (make_label rank compartments)) (Err LabelUsed, w) (Ok tt, w ++ (make_label rank compartments ∷ [])))
    (Err RankTooHigh, w))
    (Err TooManyClasses, w)
