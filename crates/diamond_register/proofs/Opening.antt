-- Set-up and filling, one after the other.
use Rattle.std.proofs.Common.{◌≡◌, ℕ, List, Ok, Err, Result, sym, refl, subst}
use Rattle.cells.specs.declared.value.Value.{Ghosts as ValueGhosts}
use Rattle.orders.specs.declared.class_order.ClassOrder.{Ghosts as OrderGhosts}
use Rattle.rules.specs.declared.local_rule.LocalRule.{Ghosts as RuleGhosts}
use Rattle.jobs.specs.Fill.{fill_reply, FreshMemory, Unused}
use Rattle.jobs.specs.Represents.{enough}
use Rattle.jobs.specs.SetUp.{SetUp}
use Rattle.jobs.specs.declared.memory.Memory.{Memory}
use Rattle.jobs.specs.declared.register.Register.{Register}
use Rattle.register_parts.specs.declared.setup_fault.SetUpFault.{SetUpFault}
use Rattle.diamond_register.specs.SetUp.{SetUpFilled}

module _ {O V R : Type 0} (o : OrderGhosts O) (v : ValueGhosts V) (r : RuleGhosts R) (order : O) (variant : ℕ) where
  pub not_made : (z : Result (List ℕ) SetUpFault) (m : Memory V R) (e : SetUpFault)
      → SetUp o order z variant (Err e) → SetUpFilled o v r order variant z m (Err e) m
  not_made (Ok counts) m e made = absurd made
  not_made (Err fault) m e made = (made, refl)

  module _ (m m' : Memory V R) (x : Register O) where
    pub not_filled : (z : Result (List ℕ) SetUpFault) (e : SetUpFault) → SetUp o order z variant (Ok x)
        → Err e ≡ fill_reply r.variants x.variant (enough o v r x m) → m' ≡ m → SetUpFilled o v r order variant z m (Err e) m'
    not_filled (Ok counts) e made refused kept = (
      record {
        unfilled = x;
        register = made;
        refused = subst (λ (n : ℕ). fill_reply r.variants n (enough o v r x m) ≡ Err e) made.variant_is (sym refused);
      },
      kept,
    )
    not_filled (Err fault) e made refused kept = absurd made

    pub filled : (z : Result (List ℕ) SetUpFault) → SetUp o order z variant (Ok x)
        → Ok tt ≡ fill_reply r.variants x.variant (enough o v r x m) → FreshMemory o v r x m m' → SetUpFilled o v r order variant z m (Ok x) m'
    filled (Ok counts) made accepted fresh = record {
      register = made;
      accepted = subst (λ (n : ℕ). fill_reply r.variants n (enough o v r x m) ≡ Ok tt) made.variant_is (sym accepted);
      memory = fresh;
    }
    filled (Err fault) made accepted fresh = absurd made

  pub unused : (z : Result (List ℕ) SetUpFault) (x : Register O) → SetUp o order z variant (Ok x) → Unused o v r x
  unused (Ok counts) x made = record { ticks = made.clock_shows.1; states = made.states_are }
  unused (Err fault) x made = absurd made
