-- A register over a plan: its item counts are in range, and it is set up as the draft says.
use Rattle.std.proofs.Common.{◌≡◌, ℕ, Bool, true, false, cond, leb, List, length, get_or, Some, None, Ok, Err, Option, Result, sym, refl, ap, ◌∙◌, ap₂, arith}
use lib.Dec.{leb-suc-suc}
use Rattle.std.specs.Result.{result_map_both}
use Rattle.std.proofs.lemmas.Bool.{eq-eqb}
use Rattle.sets.specs.Below.{greatest_below}
use Rattle.cells.specs.declared.value.Value.{Ghosts as ValueGhosts}
use Rattle.orders.specs.ChosenOrders.{chosen_classes}
use Rattle.orders.specs.contracts.chosen_order.ChosenOrderClassOrder.TheImpl.{ghosts as orders}
use Rattle.orders.specs.declared.chosen_order.ChosenOrder.{ChosenOrder}
use Rattle.orders.specs.declared.chosen_order.ChosenOrder.TheVariants.{Drawn, Labelled}
use Rattle.rules.specs.Policies.{chosen}
use Rattle.rules.specs.ChosenRules.{chosen_rule as rules}
use Rattle.rules.specs.declared.access.Access.TheVariants.{Read, Write}
use Rattle.laws.specs.Setting.{Setting}
use Rattle.jobs.specs.Fill.{fill_reply}
use Rattle.register_parts.specs.declared.job_fault.JobFault.TheVariants.{TooLittleMemory as TooLittleForJobs}
use Rattle.register_parts.specs.declared.setup_fault.SetUpFault.{SetUpFault}
use Rattle.register_parts.specs.declared.setup_fault.SetUpFault.TheVariants.{NoSuchVariant, TooLittleMemory}
use Rattle.lines.specs.Drafts.{Classes, class_count, class_dominates, class_grade, classes_in, drafted}
use Rattle.lines.specs.FreshRegisters.{InRange, set_up_with}
use Rattle.lines.specs.JobLines.{Room, suffices}
use Rattle.lines.specs.LineFaults.{fault_of_setup}
use Rattle.lines.specs.Openings.{opening_fault, fault_in}
use Rattle.lines.specs.PlanParts.{classes_so_far}
use Rattle.lines.specs.Plans.{draft_of}
use Rattle.lines.specs.declared.line_fault.LineFault.{LineFault}
use Rattle.lines.specs.declared.line_fault.LineFault.TheVariants.{OutOfRange, Refused}
use Rattle.lines.specs.declared.plan.Plan.{Plan}
use Rattle.lines.specs.declared.planned_order.PlannedOrder.TheVariants.{Classes as ClassesSoFar}
use Rattle.lines.proofs.PlannedItems.{checked}
use Rattle.lines.proofs.PlannedClasses.{as_many_items}

-- An order has as many classes as it says.
count_is : (order : ChosenOrder) → class_count (classes_in order) ≡ chosen_classes order
count_is (Drawn s) = s.drawn.2
count_is (Labelled s) = s.labelled.2

module _ {V : Type 0} (v : ValueGhosts V) where
  -- A setting by its classes.
  with_these : List ℕ → ℕ → ℕ → Classes → Setting V
  with_these items variant n k = record {
    classes = n;
    above = class_dominates k;
    grade = class_grade k;
    top = greatest_below n (class_grade k);
    items = λ c. get_or items c 0;
    start = v.starting;
    reading = chosen Read;
    writing = chosen Write;
    variant = variant;
  }

  by_classes : (items : List ℕ) (variant : ℕ) (order : ChosenOrder) → set_up_with orders v rules order items variant ≡ with_these items variant (chosen_classes order) (classes_in order)
  unfolding with_these
  by_classes items variant (Drawn s) = refl
  by_classes items variant (Labelled s) = refl

module _ (p : Plan) (order : ChosenOrder) (is : p.order ≡ ClassesSoFar order) where
  classes_are : classes_in order ≡ (draft_of p).classes
  classes_are = sym (ap classes_so_far is)

  many : chosen_classes order ≡ length (draft_of p).items
  many = sym (count_is order) ∙ ap class_count classes_are ∙ p.ordered ∙ sym (as_many_items p)

  pub plan_in_range : InRange (chosen_classes order) (draft_of p).items
  plan_in_range =
      rw (eq-eqb (length (draft_of p).items) (chosen_classes order) (sym many))
      (checked (draft_of p).items (omega (arith, as_many_items p, p.so_far, p.few)) p.few_items p.few_in_all)

  pub plan_setting : {V : Type 0} (v : ValueGhosts V) (variant : ℕ) → set_up_with orders v rules order (draft_of p).items variant ≡ drafted v (draft_of p) variant
  unfolding with_these
  plan_setting v variant =
      by_classes v (draft_of p).items variant order
      ∙ ap₂ (with_these v (draft_of p).items variant) many classes_are

-- What filling replies, as it is passed on: nothing, or the fault of a line.
abbrev pub line_fault : Result (Unit {0}) SetUpFault → Option LineFault
line_fault z = fault_in (result_map_both (λ u. u) fault_of_setup z)

passed_on : (variant : ℕ) (enough : Bool) → line_fault (fill_reply 2 variant enough) ≡ cond (leb variant 1) (cond enough None (Some (Refused TooLittleForJobs))) (Some OutOfRange)
passed_on variant enough = rw (leb-suc-suc variant 1) (go (leb variant 1) enough)
  where
    go : (q e : Bool) → line_fault (cond q (cond e (Ok (tt {0})) (Err TooLittleMemory)) (Err NoSuchVariant)) ≡ cond q (cond e None (Some (Refused TooLittleForJobs))) (Some OutOfRange)
    go true true = refl
    go true false = refl
    go false e = refl

pub opening_fault_is : {V : Type 0} (room : Room) (S S' : Setting V) (variant : ℕ) (z : Result (Unit {0}) SetUpFault)
    → z ≡ fill_reply 2 variant (suffices room S) → S ≡ S' → line_fault z ≡ opening_fault room S' variant
opening_fault_is {V} room S S' variant z e so = ap line_fault e ∙ passed_on variant (suffices room S) ∙ ap (λ (S : Setting V). opening_fault room S variant) so
