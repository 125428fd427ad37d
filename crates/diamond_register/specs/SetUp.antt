-- A register set up together with the memory that it needs.
use Rattle.std.specs.Prelude.{◌≡◌, ℕ, List, Ok, Err, Result}
use Rattle.cells.specs.declared.value.Value.{Ghosts as ValueGhosts}
use Rattle.orders.specs.declared.class_order.ClassOrder.{Ghosts as OrderGhosts}
use Rattle.rules.specs.declared.local_rule.LocalRule.{Ghosts as RuleGhosts}
use Rattle.jobs.specs.Fill.{fill_reply, FreshMemory}
use Rattle.jobs.specs.Represents.{enough}
use Rattle.jobs.specs.SetUp.{FreshRegister}
use Rattle.jobs.specs.declared.memory.Memory.{Memory}
use Rattle.jobs.specs.declared.register.Register.{Register}
use Rattle.register_parts.specs.declared.setup_fault.SetUpFault.{SetUpFault}

module _ {O V R : Type 0} (o : OrderGhosts O) (v : ValueGhosts V) (r : RuleGhosts R) (order : O) (variant : ℕ) where
  -- A fresh register over the order, and memory that was enough for it and is filled.
  pub record Ready (counts : List ℕ) (m : Memory V R) (x : Register O) (m' : Memory V R) : Type 0 where
    pub register : FreshRegister o order counts variant x
    pub accepted : fill_reply r.variants variant (enough o v r x m) ≡ Ok tt
    pub memory : FreshMemory o v r x m m'

  -- Some fresh register over the order cannot be filled, and the fault says why.
  pub record NotFilled (counts : List ℕ) (m : Memory V R) (fault : SetUpFault) : Type 0 where
    pub unfilled : Register O
    pub register : FreshRegister o order counts variant unfilled
    pub refused : fill_reply r.variants variant (enough o v r unfilled m) ≡ Err fault

  -- What comes of set-up where the counts are checked so. A refusal changes nothing.
  abbrev pub SetUpFilled : Result (List ℕ) SetUpFault → Memory V R → Result (Register O) SetUpFault → Memory V R → Type 0
  SetUpFilled (Ok counts) m (Ok x) m' = Ready counts m x m'
  SetUpFilled (Ok counts) m (Err e) m' = NotFilled counts m e × (m' ≡ m)
  SetUpFilled (Err fault) m (Ok x) m' = ⊥
  SetUpFilled (Err fault) m (Err e) m' = (e ≡ fault) × (m' ≡ m)
