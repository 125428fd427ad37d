-- Set-up: what a register is made of, and the memory that a fresh register needs.
use Rattle.std.specs.Prelude.{◌≡◌, ℕ, ◌<◌, ◌≤◌, cond, List, length, replicate, Ok, Err, Result, ◌==◌, slice_index_or}
use Rattle.sets.specs.Below.{greatest_below}
use Rattle.cells.specs.Versions.{fresh}
use Rattle.cells.specs.Cells.{versions}
use Rattle.cells.specs.declared.cell.Cell.{Cell}
use Rattle.cells.specs.declared.value.Value.{Ghosts as ValueGhosts}
use Rattle.orders.specs.Grades.{Greatest}
use Rattle.orders.specs.declared.class_order.ClassOrder.{Ghosts as OrderGhosts}
use Rattle.rules.specs.Claims.{no_claims}
use Rattle.rules.specs.declared.local_rule.LocalRule.{Ghosts as RuleGhosts}
use Rattle.register_parts.specs.ClockCalls.{Shows}
use Rattle.register_parts.specs.CheckedCounts.{checked_counts}
use Rattle.register_parts.specs.declared.bay.Bay.TheVariants.{Free}
use Rattle.register_parts.specs.declared.class_state.ClassState.{ClassState}
use Rattle.jobs.specs.declared.register.Register.{Register}
use Rattle.register_parts.specs.declared.setup_fault.SetUpFault.{SetUpFault}
use Rattle.register_parts.specs.declared.setup_fault.SetUpFault.TheVariants.{OtherClassCount}

-- A fresh register ----------------------------------------------------------------------------------------------

-- There has to be a record for each class of the order.
abbrev pub counts_for : ℕ → List ℕ → Result (List ℕ) SetUpFault
counts_for classes counts = cond (length counts == classes) (checked_counts counts) (Err OtherClassCount)

abbrev pub fresh_class_state : ClassState
fresh_class_state = record { floor = 0; bays = replicate 8 Free }

-- A register over this order with these counts and this variant of the local rules: no tick was accepted yet, and every bay is free.
pub record FreshRegister {O : Type 0} (o : OrderGhosts O) (order : O) (counts : List ℕ) (variant : ℕ) (x : Register O) : Type 0 where
  pub order_is : x.order ≡ order
  pub counts_are : x.counts.items ≡ counts
  pub variant_is : x.variant ≡ variant
  pub clock_shows : Shows x.clock (greatest_below (o.classes order) (o.grade order)) 0
  pub states_are : x.classes ≡ replicate 16 fresh_class_state

-- What set-up returns where the counts are checked so.
abbrev pub SetUp : {O : Type 0} → OrderGhosts O → O → Result (List ℕ) SetUpFault → ℕ → Result (Register O) SetUpFault → Type 0
SetUp o order (Ok counts) variant (Ok x) = FreshRegister o order counts variant x
SetUp o order (Ok counts) variant (Err e) = ⊥
SetUp o order (Err fault) variant (Ok x) = ⊥
SetUp o order (Err fault) variant (Err e) = e ≡ fault

-- The clock of a register that set-up returns has the greatest grade of the order for its top.
abbrev pub TopReached : {O : Type 0} → OrderGhosts O → Result (Register O) SetUpFault → Type 0
TopReached o (Ok x) = Greatest (o.classes x.order) (o.grade x.order) x.clock.top
TopReached o (Err e) = Unit {0}

-- Lent memory ---------------------------------------------------------------------------------------------------

-- The first n elements of a list are made to hold P; the others stay.
pub record Overwritten {X : Type 0} (P : X → Type 0) (n : ℕ) (old new : List X) : Type 0 where
  pub length_is : length new ≡ length old
  pub first : (k : ℕ) → k < n → (d : X) → P (slice_index_or new k d)
  pub others : (k : ℕ) → n ≤ k → (d : X) → slice_index_or new k d ≡ slice_index_or old k d

abbrev pub FreshCell : {V : Type 0} → ValueGhosts V → Cell V → Type 0
FreshCell v cell = versions cell ≡ fresh v.starting

abbrev pub FreshRule : {R : Type 0} → RuleGhosts R → ℕ → R → Type 0
FreshRule r variant rule = r.meaning rule ≡ no_claims variant
