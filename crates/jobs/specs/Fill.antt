-- Filling: the memory that a fresh register needs.
use Rattle.std.specs.Prelude.{◌≡◌, ℕ, ◌*◌, Bool, cond, [], replicate, Ok, Err, Result, nat_lt}
use Rattle.cells.specs.declared.value.Value.{Ghosts as ValueGhosts}
use Rattle.orders.specs.declared.class_order.ClassOrder.{Ghosts as OrderGhosts}
use Rattle.rules.specs.declared.local_rule.LocalRule.{Ghosts as RuleGhosts}
use Rattle.laws.specs.Setting.{sum_below}
use Rattle.laws.specs.History.{Stands}
use Rattle.jobs.specs.Represents.{setting, state}
use Rattle.jobs.specs.SetUp.{Overwritten, FreshCell, FreshRule, fresh_class_state}
use Rattle.jobs.specs.declared.memory.Memory.{Memory}
use Rattle.jobs.specs.declared.register.Register.{Register}
use Rattle.register_parts.specs.declared.setup_fault.SetUpFault.{SetUpFault}
use Rattle.register_parts.specs.declared.setup_fault.SetUpFault.TheVariants.{NoSuchVariant, TooLittleMemory}

-- First the variant is judged, out of n, then the memory.
abbrev pub fill_reply : ℕ → ℕ → Bool → Result (Unit {0}) SetUpFault
fill_reply n variant enough = cond (nat_lt variant n) (cond enough (Ok tt) (Err TooLittleMemory)) (Err NoSuchVariant)

module _ {O V R : Type 0} (o : OrderGhosts O) (v : ValueGhosts V) (r : RuleGhosts R) (x : Register O) where
  -- What the register needs is fresh: one cell an item, and for each class 64 places for pending values and a rule. The rest, and who lent it, is as before.
  pub record FreshMemory (m m' : Memory V R) : Type 0 where
    pub lenders : (m'.cells.ghost_name ≡ m.cells.ghost_name) × (m'.pending.ghost_name ≡ m.pending.ghost_name) × (m'.rules.ghost_name ≡ m.rules.ghost_name)
    pub cells : Overwritten (FreshCell v) (sum_below (setting o v r x).classes (setting o v r x).items) m.cells.now m'.cells.now
    pub pending : Overwritten (λ value. value ≡ v.starting) ((setting o v r x).classes * 64) m.pending.now m'.pending.now
    pub rules : Overwritten (FreshRule r x.variant) (setting o v r x).classes m.rules.now m'.rules.now

  -- A refusal changes nothing.
  abbrev pub FilledWhen : Memory V R → Memory V R → Result (Unit {0}) SetUpFault → Type 0
  FilledWhen m m' (Ok u) = FreshMemory m m'
  FilledWhen m m' (Err e) = m' ≡ m

  -- No tick was accepted yet, and every bay is free.
  pub record Unused : Type 0 where
    pub ticks : x.clock.ticks ≡ 0
    pub states : x.classes ≡ replicate 16 fresh_class_state

  -- An unused register then stands after the empty history.
  abbrev pub StandsFilled : Memory V R → Result (Unit {0}) SetUpFault → Type 0
  StandsFilled m' (Ok u) = Unused → Stands (setting o v r x) [] (state o v r x m')
  StandsFilled m' (Err e) = Unit {0}
