-- Parts of a register: the state of one class, and one bay.
use Rattle.std.specs.Prelude.{◌≡◌, ℕ, Bool, true, false, ◌&&◌, Ok, Err, Result, nat_lt, slice_index_or, slice_set}
use Rattle.cells.specs.declared.value.Value.{Ghosts as ValueGhosts}
use Rattle.orders.specs.declared.class_order.ClassOrder.{Ghosts as OrderGhosts}
use Rattle.rules.specs.declared.local_rule.LocalRule.{Ghosts as RuleGhosts}
use Rattle.laws.specs.Setting.{bay_count}
use Rattle.jobs.specs.Represents.{no_state, enough}
use Rattle.register_parts.specs.declared.bay.Job.{Job}
use Rattle.register_parts.specs.declared.bay.Bay.{Bay}
use Rattle.register_parts.specs.declared.bay.Bay.TheVariants.{Free, Closed, Open}
use Rattle.register_parts.specs.declared.class_state.ClassState.{ClassState}
use Rattle.jobs.specs.declared.bay_id.BayId.{BayId}
use Rattle.jobs.specs.declared.register.Register.{Register}
use Rattle.jobs.specs.declared.memory.Memory.{Memory}
use Rattle.register_parts.specs.declared.job_fault.JobFault.{JobFault}
use Rattle.register_parts.specs.declared.job_fault.JobFault.TheVariants.{TooLittleMemory, Unknown, BayFree, BayClosed}

-- The state of a class with y in bay b.
abbrev pub with_bay_in : ClassState → ℕ → Bay → ClassState
with_bay_in k b y = record { floor = k.floor; bays = slice_set k.bays b y }

module _ {O : Type 0} where
  abbrev pub class_in : Register O → ℕ → ClassState
  class_in x c = slice_index_or x.classes c no_state

  abbrev pub bay_in : Register O → ℕ → ℕ → Bay
  bay_in x c b = slice_index_or (class_in x c).bays b Free

  abbrev pub with_class_in : Register O → ℕ → ClassState → Register O
  with_class_in x c k = record { order = x.order; counts = x.counts; variant = x.variant; clock = x.clock; classes = slice_set x.classes c k }

-- The first refusals of a call for a bay: too little memory, or an unknown number. Else the bay.
abbrev pub at_door : Bool → Bool → Bay → Result Bay JobFault
at_door false known y = Err TooLittleMemory
at_door true false y = Err Unknown
at_door true true y = Ok y

module _ {O V R : Type 0} (o : OrderGhosts O) (v : ValueGhosts V) (r : RuleGhosts R) where
  -- What the door says to a call for bay b of class c.
  abbrev pub admitted : Register O → Memory V R → ℕ → ℕ → Result Bay JobFault
  admitted x m c b = at_door (enough o v r x m) (nat_lt c (o.classes x.order) && nat_lt b bay_count) (bay_in x c b)

-- What is in the bay that the door returns,
abbrev pub found : {O : Type 0} → Register O → Result BayId JobFault → Result Bay JobFault
found x (Ok id) = Ok (bay_in x id.class id.bay)
found x (Err e) = Err e

-- which is the one of these numbers.
abbrev pub Names : ℕ → ℕ → Result BayId JobFault → Type 0
Names c b (Ok id) = (id.class ≡ c) × (id.bay ≡ b)
Names c b (Err e) = Unit {0}

-- A free bay has no job any more, or not yet; a closed one has lost it.
abbrev pub job_in : Bay → Result Job JobFault
job_in Free = Err BayFree
job_in Closed = Err BayClosed
job_in (Open j) = Ok j
