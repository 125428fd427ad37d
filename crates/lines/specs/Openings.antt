-- The end of set-up: a register over a draft is opened on lent memory.
use Rattle.std.specs.Prelude.{ℕ, cond, Some, None, Ok, Err, Option, Result, nat_le}
use Rattle.cells.specs.declared.value.Value.{Ghosts as ValueGhosts}
use Rattle.orders.specs.contracts.chosen_order.ChosenOrderClassOrder.TheImpl.{ghosts as orders}
use Rattle.orders.specs.declared.chosen_order.ChosenOrder.{ChosenOrder}
use Rattle.rules.specs.ChosenRules.{ChosenRule, chosen_rule as rules}
use Rattle.laws.specs.Setting.{Setting}
use Rattle.register_parts.specs.declared.job_fault.JobFault.TheVariants.{TooLittleMemory}
use Rattle.jobs.specs.declared.memory.Memory.{Memory}
use Rattle.jobs.specs.declared.register.Register.{Register}
use Rattle.lines.specs.JobLines.{Room, suffices}
use Rattle.lines.specs.FreshRegisters.{OpenedUnlessRefused}
use Rattle.lines.specs.declared.line_fault.LineFault.{LineFault}
use Rattle.lines.specs.declared.line_fault.LineFault.TheVariants.{OutOfRange, Refused}

-- The rule is judged first, then the memory.
abbrev pub opening_fault : {V : Type 0} → Room → Setting V → ℕ → Option LineFault
opening_fault room S variant = cond (nat_le variant 1) (cond (suffices room S) None (Some (Refused TooLittleMemory))) (Some OutOfRange)

abbrev pub fault_in : {X : Type 0} → Result X LineFault → Option LineFault
fault_in (Ok x) = None
fault_in (Err e) = Some e

-- The register is fresh, over the order and the rule that set-up chose.
abbrev pub OpenedIf : {V : Type 0} → ValueGhosts V → Setting V → Memory V ChosenRule → Result (Register ChosenOrder) LineFault → Memory V ChosenRule → Type 0
OpenedIf v S m r m' = OpenedUnlessRefused orders v rules S m r m'
