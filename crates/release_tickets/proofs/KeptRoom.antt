-- Enough memory stays enough: a call leaves the set-up of the register, and how much memory is lent.
use Rattle.std.proofs.Common.{◌≡◌, ℕ, ◌*◌, Bool, true, ◌&&◌, nat_le, length, ap, ◌∙◌}
use Rattle.cells.specs.declared.value.Value.{Ghosts as ValueGhosts}
use Rattle.orders.specs.declared.class_order.ClassOrder.{Ghosts as OrderGhosts}
use Rattle.rules.specs.declared.local_rule.LocalRule.{Ghosts as RuleGhosts}
use Rattle.laws.specs.Setting.{Setting, sum_below, bay_count}
use Rattle.laws.specs.Actions.{pending_places}
use Rattle.jobs.specs.Represents.{setting, enough}
use Rattle.jobs.specs.declared.memory.Memory.{Memory}
use Rattle.jobs.specs.declared.register.Register.{Register}

-- Whether so many cells, places for pending values and rules are enough.
abbrev suffices : {V : Type 0} → Setting V → ℕ → ℕ → ℕ → Bool
suffices S cells pending rules = nat_le (sum_below S.classes S.items) cells && (nat_le (S.classes * (bay_count * pending_places)) pending && nat_le S.classes rules)

module _ {O V R : Type 0} (o : OrderGhosts O) (v : ValueGhosts V) (r : RuleGhosts R) (x x' : Register O) (m m' : Memory V R) where
  pub still_enough : setting o v r x' ≡ setting o v r x
      → (length m'.cells.now ≡ length m.cells.now) × (length m'.pending.now ≡ length m.pending.now) × (length m'.rules.now ≡ length m.rules.now)
      → enough o v r x m ≡ true → enough o v r x' m' ≡ true
  still_enough same l h =
      ap (λ (S : Setting V). suffices S (length m'.cells.now) (length m'.pending.now) (length m'.rules.now)) same
      ∙ ap (λ (k : ℕ). suffices (setting o v r x) k (length m'.pending.now) (length m'.rules.now)) l.0
      ∙ ap (λ (k : ℕ). suffices (setting o v r x) (length m.cells.now) k (length m'.rules.now)) l.1
      ∙ ap (λ (k : ℕ). suffices (setting o v r x) (length m.cells.now) (length m.pending.now) k) l.2
      ∙ h
