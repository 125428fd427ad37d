-- The promise of the laws that every call of a register makes.
use Rattle.std.specs.Prelude.{◌∷◌}
use Rattle.cells.specs.declared.value.Value.{Ghosts as ValueGhosts}
use Rattle.orders.specs.Grades.{Greatest}
use Rattle.orders.specs.declared.class_order.ClassOrder.{Ghosts as OrderGhosts}
use Rattle.rules.specs.declared.local_rule.LocalRule.{Ghosts as RuleGhosts}
use Rattle.laws.specs.Setting.{Setting}
use Rattle.laws.specs.Calls.{Request, Call, Reply}
use Rattle.laws.specs.History.{entry, History, Stands}
use Rattle.laws.specs.Laws.{Laws}
use Rattle.jobs.specs.Represents.{setting, state, enough}
use Rattle.jobs.specs.declared.register.Register.{Register}
use Rattle.jobs.specs.declared.memory.Memory.{Memory}

-- The top grade is the greatest grade of a class.
abbrev pub Topped : {V : Type 0} → Setting V → Type 0
Topped S = Greatest S.classes S.grade S.top

module _ {O V R : Type 0} (o : OrderGhosts O) (v : ValueGhosts V) (r : RuleGhosts R) where
  -- Register and memory stand after a history: the clock goes round the grades of the order, as set-up has it,
  -- and the calls of the history, from a fresh register and memory that set-up filled, got its replies and led here.
  pub record StandsAfter (h : History V) (x : Register O) (m : Memory V R) : Type 0 where
    pub topped : Topped (setting o v r x)
    pub stands : Stands (setting o v r x) h (state o v r x m)

  -- A request with the memory that comes with it, as a call of the history.
  abbrev pub called : Register O → Memory V R → Request V → Call V
  called x m q = record { enough = enough o v r x m; request = q }

  -- A call that takes register x and memory m to x' and m', with reply y: whatever history they stood after,
  -- they now stand after that history with this call and its reply, and the laws hold of it, whole.
  abbrev pub Lawfully : Register O → Memory V R → Request V → Reply V → Register O → Memory V R → Type 0
  Lawfully x m q y x' m' =
      (h : History V) → StandsAfter h x m
      → StandsAfter (entry (called x m q) y ∷ h) x' m' × Laws (setting o v r x') (entry (called x m q) y ∷ h) (state o v r x' m')
