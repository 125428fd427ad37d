-- Which state of the definition a register and the memory lent to it stand for.
use Rattle.std.specs.Prelude.{◌≡◌, ℕ, ◌+◌, ◌*◌, Bool, cond, ◌&&◌, List, [], ◌∷◌, map, length, take, drop, nat_le, nat_lt, slice_index, slice_index_or}
use Rattle.cells.specs.Versions.{fresh}
use Rattle.cells.specs.Cells.{versions, item}
use Rattle.cells.specs.declared.cell.Cell.{Cell}
use Rattle.cells.specs.declared.value.Value.{Ghosts as ValueGhosts}
use Rattle.orders.specs.declared.class_order.ClassOrder.{Ghosts as OrderGhosts}
use Rattle.rules.specs.declared.access.Access.TheVariants.{Read, Write}
use Rattle.rules.specs.Claims.{Claims, no_claims}
use Rattle.rules.specs.declared.local_rule.LocalRule.{Ghosts as RuleGhosts}
use Rattle.laws.specs.Setting.{Setting, sum_below, bay_count}
use Rattle.laws.specs.State as definition
use Rattle.laws.specs.State.{Pending, updating, reading, free, closed, running, Class, State, fresh_class}
use Rattle.laws.specs.Calls.{Request, Call}
use Rattle.laws.specs.Actions.{pending_places}
use Rattle.laws.specs.Step.{Stepped, step}
use Rattle.register_parts.specs.declared.bay.PendingItems.{PendingItems}
use Rattle.register_parts.specs.declared.bay.Job.{Job}
use Rattle.register_parts.specs.declared.bay.Job.TheVariants.{Update, Long}
use Rattle.register_parts.specs.declared.bay.Bay.{Bay}
use Rattle.register_parts.specs.declared.bay.Bay.TheVariants.{Free, Closed, Open}
use Rattle.register_parts.specs.declared.class_state.ClassState.{ClassState}
use Rattle.jobs.specs.declared.register.Register.{Register}
use Rattle.jobs.specs.declared.memory.Memory.{Memory}

-- Bays ----------------------------------------------------------------------------------------------------------

-- Where the pending values of bay b of class c begin.
abbrev pub pending_place : ℕ → ℕ → ℕ
pending_place c b = (c * bay_count + b) * pending_places

module _ {V : Type 0} where
  -- The places for the pending values of bay b of class c; what is no bay has none.
  abbrev pub bay_values : List V → ℕ → ℕ → List V
  bay_values pending c b = cond (nat_lt b bay_count) (take pending_places (drop (pending_place c b) pending)) []

  -- Items beside their values.
  abbrev pub beside : List ℕ → List V → List (Pending V)
  beside [] values = []
  beside (i ∷ items) [] = []
  beside (i ∷ items) (v ∷ values) = record { item = i; value = v } ∷ beside items values

  -- The pending values of a job, where values are those in its bay's places.
  abbrev pub pending_of : PendingItems → List V → List (Pending V)
  pending_of p values = beside (take p.count p.items) values

  abbrev pub job_of : List V → Job → definition.Job V
  job_of values (Update j) = updating j.down (pending_of j.pending values)
  job_of values (Long n) = reading n

  abbrev pub bay_of : List V → Bay → definition.Bay V
  bay_of values Free = free
  bay_of values Closed = closed
  bay_of values (Open j) = running (job_of values j)

-- Classes -------------------------------------------------------------------------------------------------------

abbrev pub no_state : ClassState
no_state = record { floor = 0; bays = [] }

module _ {V : Type 0} (S : Setting V) where
  -- Where the cell of item i of class c is: behind those of the classes with smaller numbers.
  abbrev pub cell_place : ℕ → ℕ → ℕ
  cell_place c i = sum_below c S.items + i

  -- What is no item of a class has a fresh cell, whatever lies in memory.
  abbrev pub cell_of : List (Cell V) → ℕ → ℕ → definition.Cell V
  cell_of cells c i = cond (nat_lt i (S.items c)) (item (cell_place c i) (map versions cells)) (fresh S.start)

module _ {V : Type 0} (S : Setting V) (cells : List (Cell V)) (pending : List V) where
  abbrev pub class_of : ℕ → ClassState → Claims → Class V
  class_of c k claims = record {
    floor = k.floor;
    claims = claims;
    bays = λ b. bay_of (bay_values pending c b) (slice_index_or k.bays b Free);
    cells = cell_of S cells c;
  }

  -- What is no class is as in a fresh register, whatever lies in memory.
  abbrev pub classes_of : List ClassState → List Claims → ℕ → Class V
  classes_of states claims c =
      cond (nat_lt c S.classes) (class_of c (slice_index_or states c no_state) (slice_index_or claims c (no_claims 0))) (fresh_class S)

-- What the rule of class c means.
abbrev pub claims_in : {R : Type 0} → RuleGhosts R → List R → ℕ → Claims
claims_in r rules c = slice_index_or (map r.meaning rules) c (no_claims 0)

-- The register --------------------------------------------------------------------------------------------------

module _ {O V R : Type 0} (o : OrderGhosts O) (v : ValueGhosts V) (r : RuleGhosts R) (x : Register O) where
  -- What the register is set up with.
  abbrev pub setting : Setting V
  setting = record {
    classes = o.classes x.order;
    above = o.dominates x.order;
    grade = o.grade x.order;
    top = x.clock.top;
    items = λ c. slice_index x.counts.items c;
    start = v.starting;
    reading = r.policy Read;
    writing = r.policy Write;
    variant = x.variant;
  }

  module _ (m : Memory V R) where
    abbrev pub state : State V
    state = record {
      ticks = x.clock.ticks;
      class = classes_of setting m.cells.now m.pending.now x.classes (map r.meaning m.rules.now);
    }

    -- Whether enough memory is lent: one cell an item and, for each class, 64 places for pending values and one rule.
    abbrev pub enough : Bool
    enough =
        nat_le (sum_below setting.classes setting.items) (length m.cells.now)
        && (nat_le (setting.classes * (bay_count * pending_places)) (length m.pending.now) && nat_le setting.classes (length m.rules.now))

    -- A request with this memory, as a call of the definition.
    abbrev pub as_call : Request V → Call V
    as_call q = record { enough = enough; request = q }

    -- What the definition says of it: the reply, and the state afterwards.
    abbrev pub defined : Request V → Stepped V
    defined q = step setting state (as_call q)

module _ {O V R : Type 0} (o : OrderGhosts O) (v : ValueGhosts V) (r : RuleGhosts R) (x : Register O) (m : Memory V R) where
  -- The request leads to register x', set up as before, and memory m': they stand for the state that the definition says.
  abbrev pub LeadsTo : Request V → Register O → Memory V R → Type 0
  LeadsTo q x' m' = (setting o v r x' ≡ setting o v r x) × (state o v r x' m' ≡ (defined o v r x m q).next)
