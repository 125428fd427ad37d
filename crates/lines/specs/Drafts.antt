-- Set-up, frame by frame: what was said so far of the register that is to be.
use Rattle.std.specs.Prelude.{ℕ, ◌+◌, ◌*◌, Bool, cond, ◌&&◌, List, [], ◌∷◌, ◌++◌, length, Ok, Err, sum, Result, ◌==◌, nat_le, slice_index}
use Rattle.sets.specs.Below.{greatest_below}
use Rattle.sets.specs.Members.{has_bit, all_under}
use Rattle.sets.specs.declared.small_set.SmallSet.{SmallSet}
use Rattle.cells.specs.declared.value.Value.{Ghosts as ValueGhosts}
use Rattle.orders.specs.Links.{bit_set, dominates_as_drawn, grade_as_drawn}
use Rattle.orders.specs.Labels.{dominates_by_label, grade_by_label}
use Rattle.orders.specs.LabelledOrders.{labels_of, make_label, used}
use Rattle.orders.specs.DrawnOrders.{drawing_of}
use Rattle.orders.specs.declared.label.Label.{Label}
use Rattle.orders.specs.declared.chosen_order.ChosenOrder.{ChosenOrder}
use Rattle.orders.specs.declared.chosen_order.ChosenOrder.TheVariants.{Drawn, Labelled}
use Rattle.rules.specs.Policies.{chosen}
use Rattle.rules.specs.declared.access.Access.TheVariants.{Read, Write}
use Rattle.laws.specs.Setting.{Setting}
use Rattle.lines.specs.Kinds.{order_kind, value_kind}
use Rattle.lines.specs.declared.kinds.OrderKind.{OrderKind}
use Rattle.lines.specs.declared.kinds.OrderKind.TheVariants.{Drawn as DrawnKind, Labelled as LabelledKind}
use Rattle.lines.specs.declared.kinds.ValueKind.{ValueKind}
use Rattle.lines.specs.declared.line_fault.LineFault.{LineFault}
use Rattle.lines.specs.declared.line_fault.LineFault.TheVariants.{OutOfRange, Unfit}

-- Classes in order of their numbers: each by the set of those directly below it, or each by its label.
pub data Classes : Type 0 where
  drawn : List SmallSet → Classes
  labelled : List Label → Classes

abbrev pub no_classes : OrderKind → Classes
no_classes DrawnKind = drawn []
no_classes LabelledKind = labelled []

abbrev pub class_count : Classes → ℕ
class_count (drawn sets) = length sets
class_count (labelled labels) = length labels

abbrev pub class_dominates : Classes → ℕ → ℕ → Bool
class_dominates (drawn sets) = dominates_as_drawn sets
class_dominates (labelled labels) = dominates_by_label labels

abbrev pub class_grade : Classes → ℕ → ℕ
class_grade (drawn sets) = grade_as_drawn sets
class_grade (labelled labels) = grade_by_label labels

-- The classes of an order.
abbrev pub classes_in : ChosenOrder → Classes
classes_in (Drawn order) = drawn (drawing_of order)
classes_in (Labelled order) = labelled (labels_of order)

-- One more class: the two bytes are the set of the classes directly below it, all of them smaller, bit d for class d;
-- or its rank and its compartments, which no class has yet.
abbrev pub one_more : Classes → ℕ → ℕ → Result Classes LineFault
one_more (drawn sets) high low =
    cond (all_under (length sets) (has_bit (high * 256 + low))) (Ok (drawn (sets ++ (bit_set (high * 256 + low) ∷ [])))) (Err Unfit)
one_more (labelled labels) rank compartments =
    cond (nat_le rank 15)
    (cond (used labels (make_label rank compartments)) (Err Unfit) (Ok (labelled (labels ++ (make_label rank compartments ∷ [])))))
    (Err OutOfRange)

-- The kind of value, how many classes there will be, the classes so far, and how many items each has.
pub record Draft : Type 0 where
  pub values : ValueKind
  pub wanted : ℕ
  pub classes : Classes
  pub items : List ℕ

-- The first frame: the kind of order, the kind of value, the number of classes.
abbrev pub chosen_draft : ℕ → ℕ → ℕ → Result Draft LineFault
chosen_draft order value n =
    cond (nat_le order 1 && (nat_le value 1 && (nat_le 1 n && nat_le n 16)))
    (Ok (record { values = value_kind value; wanted = n; classes = no_classes (order_kind order); items = [] }))
    (Err OutOfRange)

abbrev pub with_classes : Draft → ℕ → Result Classes LineFault → Result Draft LineFault
with_classes d n (Ok classes) = Ok (record { values = d.values; wanted = d.wanted; classes = classes; items = d.items ++ (n ∷ []) })
with_classes d n (Err e) = Err e

-- A class frame: the number of the next class, its place in the order in two bytes, and its item count, at most 64, and 256 in all.
abbrev pub with_class : Draft → ℕ → ℕ → ℕ → ℕ → Result Draft LineFault
with_class d class high low n =
    cond (class == length d.items && (nat_le n 64 && nat_le (sum d.items + n) 256))
    (with_classes d n (one_more d.classes high low)) (Err OutOfRange)

-- What a register over the draft is set up with, under a variant of the local rules.
abbrev pub drafted : {V : Type 0} → ValueGhosts V → Draft → ℕ → Setting V
drafted v d variant = record {
  classes = length d.items;
  above = class_dominates d.classes;
  grade = class_grade d.classes;
  top = greatest_below (length d.items) (class_grade d.classes);
  items = λ c. slice_index d.items c;
  start = v.starting;
  reading = chosen Read;
  writing = chosen Write;
  variant = variant;
}
