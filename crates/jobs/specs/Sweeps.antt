-- What a tick does to the register and to the memory lent to it: late jobs are closed, class by class.
use Rattle.std.specs.Prelude.{◌≡◌, ℕ, false, cond, ◌&&◌, List, map, length, nat_lt, slice_index_or}
use Rattle.cells.specs.declared.value.Value.{Ghosts as ValueGhosts}
use Rattle.orders.specs.declared.class_order.ClassOrder.{Ghosts as OrderGhosts}
use Rattle.rules.specs.declared.local_rule.LocalRule.{Ghosts as RuleGhosts}
use Rattle.rules.specs.Claims.{Claims, without}
use Rattle.laws.specs.Clock.{swept}
use Rattle.register_parts.specs.LateJobs.{late_bay, closed_if_late}
use Rattle.jobs.specs.Represents.{setting, state}
use Rattle.jobs.specs.Lent.{with_rules}
use Rattle.register_parts.specs.declared.bay.Bay.{Bay}
use Rattle.register_parts.specs.declared.bay.Bay.TheVariants.{Free}
use Rattle.register_parts.specs.declared.class_state.ClassState.{ClassState}
use Rattle.register_parts.specs.declared.declaration.Declaration.{Declaration}
use Rattle.jobs.specs.declared.memory.Memory.{Memory}
use Rattle.jobs.specs.declared.register.Register.{Register}

-- One class -----------------------------------------------------------------------------------------------------

-- The late jobs of a class are closed.
abbrev pub with_late_closed : ℕ → Declaration → ClassState → ClassState
with_late_closed grade tick k = record { floor = k.floor; bays = map (closed_if_late grade tick) k.bays }

-- The claims of a class once its rule has forgotten the late jobs in the first n of these bays.
abbrev pub claims_left : ℕ → Declaration → List Bay → ℕ → Claims → Claims
claims_left grade tick bays n claims = without (λ b. nat_lt b n && late_bay grade tick (slice_index_or bays b Free)) claims

-- All classes ---------------------------------------------------------------------------------------------------

-- The register with other states of its classes.
abbrev pub with_classes : {O : Type 0} → Register O → List ClassState → Register O
with_classes x states = record { order = x.order; counts = x.counts; variant = x.variant; clock = x.clock; classes = states }

module _ {O V R : Type 0} (o : OrderGhosts O) (v : ValueGhosts V) (r : RuleGhosts R) where
  -- From register x and memory m to x' and m' the late jobs of the classes below n are closed: their bays, and what their rules mean. Nothing else changes.
  pub record SweptBelow (n : ℕ) (tick : Declaration) (x : Register O) (m : Memory V R) (x' : Register O) (m' : Memory V R) : Type 0 where
    pub register : x' ≡ with_classes x x'.classes
    pub memory : m' ≡ with_rules m m'.rules.now
    pub rules : length m'.rules.now ≡ length m.rules.now
    pub other_rules : (c : ℕ) → nat_lt c n ≡ false → (d : R) → slice_index_or m'.rules.now c d ≡ slice_index_or m.rules.now c d
    pub classes : (c : ℕ) → (state o v r x' m').class c
        ≡ cond (nat_lt c n) (swept (setting o v r x) tick.grade tick.number c ((state o v r x m).class c)) ((state o v r x m).class c)
