-- What a table of holds means, one hold an item, or none.
use Rattle.std.specs.Prelude.{ℕ, Bool, true, false, cond, not, ◌&&◌, ◌||◌, Some, None, Option, List, ◌==◌, nat_lt, slice_index_or}
use Rattle.rules.specs.declared.access.Access.{Access}
use Rattle.rules.specs.declared.access.Access.TheVariants.{Read, Write}
use Rattle.rules.specs.Claims.{Claims}
use Rattle.exclusive_rule.specs.declared.hold.Hold.{Hold}

-- Whether one of the eight bays, other than b, holds the item.
abbrev pub held_by_another : Option Hold → ℕ → Bool
held_by_another None b = false
held_by_another (Some h) b = nat_lt h.bay 8 && (not (h.bay == b) && (h.reads || h.writes))

-- The bay that holds the item, where it is another than b.
abbrev pub other_holder : Option Hold → ℕ → Option ℕ
other_holder None b = None
other_holder (Some h) b = cond (held_by_another (Some h) b) (Some h.bay) None

-- Bay b's hold after one more claim; what another held falls away.
abbrev pub held_also : Access → ℕ → Option Hold → Hold
held_also Read b None = record { bay = b; reads = true; writes = false }
held_also Read b (Some h) = record { bay = b; reads = true; writes = h.bay == b && h.writes }
held_also Write b None = record { bay = b; reads = false; writes = true }
held_also Write b (Some h) = record { bay = b; reads = h.bay == b && h.reads; writes = true }

abbrev pub released_by : ℕ → Option Hold → Option Hold
released_by b None = None
released_by b (Some h) = cond (h.bay == b) None (Some h)

abbrev pub hold_at : List (Option Hold) → ℕ → Option Hold
hold_at holds i = slice_index_or holds i None

-- Whether bay b, one of the eight, holds an item for what a flag of its hold says.
abbrev pub holds_for : (Hold → Bool) → ℕ → Option Hold → Bool
holds_for flag b None = false
holds_for flag b (Some h) = (nat_lt b 8 && h.bay == b) && flag h

abbrev pub claims_of : List (Option Hold) → Claims
claims_of holds = record {
  variant = 0;
  reads = λ b i. holds_for (λ h. h.reads) b (hold_at holds i);
  writes = λ b i. holds_for (λ h. h.writes) b (hold_at holds i);
  stale = λ b. false;
}
