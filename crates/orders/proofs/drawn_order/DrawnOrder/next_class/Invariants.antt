use Rattle.std.proofs.Common.{◌≡◌, ℕ, ◌&&◌, slice_index}
use Rattle.sets.specs.Below.{some_below, greatest_below}
use Rattle.sets.specs.Members.{members}
use Rattle.orders.specs.Links.{set_at, step_up}
use Rattle.orders.specs.DrawnClasses.{sets_reached, grades}
use Rattle.orders.proofs.drawn_order.DrawnOrder.next_class.Given as goal

abbrev pub invariant-loop-e : goal.invariant-loop-e
invariant-loop-e l = record {
  reached : (d : ℕ) → members l.reached d ≡ some_below l.e (λ e. members l.below e && members (set_at (sets_reached l.self.classes) e) d);
  grade : l.grade ≡ greatest_below l.e (step_up (members l.below) (λ e. slice_index (grades l.self.classes) e));
}
