-- The session at the diamond, with its replies written out.
use Rattle.std.specs.Prelude.{◌≡◌, ℕ, Bool, true, false, ◌&&◌, [], ◌∷◌, length, IfOk, Some, Ok, Err, Result, nat_le}
use Rattle.cells.specs.contracts.word.U32Value.TheImpl.{ghosts as word}
use Rattle.exclusive_rule.specs.contracts.exclusive.ExclusiveLocalRule.TheImpl.{ghosts as exclusive}
use Rattle.exclusive_rule.specs.declared.exclusive.Exclusive.{Exclusive}
use Rattle.laws.specs.Calls.{done, got, ticked, refused, not_dominated}
use Rattle.laws.specs.History.{entry, History}
use Rattle.jobs.specs.Requests.{to_begin, to_read, to_write, to_commit, to_tick}
use Rattle.jobs.specs.declared.memory.Memory.{Memory}
use Rattle.jobs.specs.declared.register.Register.{Register}
use Rattle.register_parts.specs.declared.setup_fault.SetUpFault.{SetUpFault}
use Rattle.register_parts.specs.declared.setup_fault.SetUpFault.TheVariants.{TooLittleMemory}
use Rattle.diamond_register.specs.contracts.diamond_order.DiamondOrderClassOrder.TheImpl.{ghosts as diamond}
use Rattle.diamond_register.specs.declared.diamond_order.DiamondOrder.{DiamondOrder}
use Rattle.diamond_register.specs.declared.session.Replies.{Replies}
use Rattle.diamond_register.specs.Session.{lent, told, LawfulAfter}

-- The maker publishes the firmware number, and the clock declares it; the distributor reads that number, and is not told what its rival has.
abbrev pub history : ℕ → History ℕ
history firmware =
    entry (lent true (to_read 1 0 2 0)) (refused not_dominated)
    ∷ entry (lent true (to_read 1 0 0 0)) (got firmware)
    ∷ entry (lent true (to_begin 1 0 0)) done
    ∷ entry (lent true to_tick) (ticked 0 1)
    ∷ entry (lent true (to_commit 0 0)) done
    ∷ entry (lent true (to_write 0 0 0 (Some firmware))) done
    ∷ entry (lent true (to_begin 0 0 0)) done
    ∷ []

-- Five items and four classes need so much memory.
abbrev pub room_for_diamond : Memory ℕ Exclusive → Bool
room_for_diamond m = nat_le 5 (length m.cells.now) && (nat_le 256 (length m.pending.now) && nat_le 4 (length m.rules.now))

-- Where there is room the replies are those of the history; otherwise nothing changes.
abbrev pub Plays : Bool → ℕ → Memory ℕ Exclusive → Result (Register DiamondOrder × Replies ℕ) SetUpFault → Memory ℕ Exclusive → Type 0
Plays true firmware m (Ok p) m' = told true firmware p.1 [] ≡ history firmware
Plays true firmware m (Err e) m' = ⊥
Plays false firmware m (Ok p) m' = ⊥
Plays false firmware m (Err e) m' = (e ≡ TooLittleMemory) × (m' ≡ m)

-- Then register and memory stand after that history, and the laws hold of it, whole.
abbrev pub LawfullyPlayed : ℕ → Result (Register DiamondOrder × Replies ℕ) SetUpFault → Memory ℕ Exclusive → Type 0
LawfullyPlayed firmware r m' = IfOk r (λ p. LawfulAfter diamond word exclusive (history firmware) p.0 m')
