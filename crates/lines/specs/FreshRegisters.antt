-- A fresh register on lent memory, over any order, kind of value and local rule.
use Rattle.std.specs.Prelude.{◌≡◌, ℕ, List, Ok, Err, Result, slice_index}
use Rattle.sets.specs.Below.{greatest_below}
use Rattle.cells.specs.declared.value.Value.{Ghosts as ValueGhosts}
use Rattle.orders.specs.declared.class_order.ClassOrder.{Ghosts as OrderGhosts}
use Rattle.rules.specs.declared.access.Access.TheVariants.{Read, Write}
use Rattle.rules.specs.declared.local_rule.LocalRule.{Ghosts as RuleGhosts}
use Rattle.laws.specs.Setting.{Setting, Lawful}
use Rattle.laws.specs.State.{fresh_state}
use Rattle.jobs.specs.Represents.{setting, state}
use Rattle.register_parts.specs.CheckedCounts.{for_16}
use Rattle.jobs.specs.SetUp.{counts_for}
use Rattle.jobs.specs.declared.memory.Memory.{Memory}
use Rattle.jobs.specs.declared.register.Register.{Register}
use Rattle.lines.specs.Needs.{needed, ChangedWithin}

-- There is an item count for each of so many classes, and all are in range.
abbrev pub InRange : ℕ → List ℕ → Type 0
InRange classes items = counts_for classes items ≡ Ok (for_16 items)

module _ {O V R : Type 0} (o : OrderGhosts O) (v : ValueGhosts V) (r : RuleGhosts R) where
  -- What a register over this order is set up with, with these item counts and this variant of the local rules.
  abbrev pub set_up_with : O → List ℕ → ℕ → Setting V
  set_up_with order items variant = record {
    classes = o.classes order;
    above = o.dominates order;
    grade = o.grade order;
    top = greatest_below (o.classes order) (o.grade order);
    items = λ c. slice_index items c;
    start = v.starting;
    reading = r.policy Read;
    writing = r.policy Write;
    variant = variant;
  }

  -- The register is set up so, lawfully; the part of the memory that it needs is fresh, and the rest is as before.
  pub record Opened (S : Setting V) (m : Memory V R) (x : Register O) (m' : Memory V R) : Type 0 where
    pub setting_is : setting o v r x ≡ S
    pub state_is : state o v r x m' ≡ fresh_state S
    pub lawful : Lawful S
    pub memory : ChangedWithin (needed S) m m'

  -- A refusal changes nothing.
  abbrev pub OpenedUnlessRefused : {E : Type 0} → Setting V → Memory V R → Result (Register O) E → Memory V R → Type 0
  OpenedUnlessRefused S m (Ok x) m' = Opened S m x m'
  OpenedUnlessRefused S m (Err e) m' = m' ≡ m
