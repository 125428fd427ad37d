-- What a call of a register comes to: its reply, what register and memory stand for afterwards, and which places of the memory it may have changed.
use Rattle.std.specs.Prelude.{◌≡◌, ℕ, Bool, nat_eq}
use Rattle.cells.specs.declared.value.Value.{Ghosts as ValueGhosts}
use Rattle.orders.specs.declared.class_order.ClassOrder.{Ghosts as OrderGhosts}
use Rattle.rules.specs.declared.local_rule.LocalRule.{Ghosts as RuleGhosts}
use Rattle.laws.specs.Calls.{begin, read, write, commit, give_up, Action, Request, by, tick, Reply}
use Rattle.jobs.specs.Represents.{defined, LeadsTo}
use Rattle.jobs.specs.Lent.{none, below, ChangedOnly}
use Rattle.jobs.specs.OwnPlaces.{cells_of, places_of, if_bay}
use Rattle.jobs.specs.declared.register.Register.{Register}
use Rattle.jobs.specs.declared.memory.Memory.{Memory}

module _ {O V : Type 0} (o : OrderGhosts O) (x : Register O) where
  -- For bay b of class c a commit may change the class's cells,
  abbrev pub cells_by : ℕ → ℕ → Action V → ℕ → Bool
  cells_by c b (begin kind) = none
  cells_by c b (read d i) = none
  cells_by c b (write i value) = none
  cells_by c b commit = if_bay (o.classes x.order) c b (cells_of x.counts.items c)
  cells_by c b give_up = none

  -- a write the bay's places for pending values,
  abbrev pub places_by : ℕ → ℕ → Action V → ℕ → Bool
  places_by c b (begin kind) = none
  places_by c b (read d i) = none
  places_by c b (write i value) = if_bay (o.classes x.order) c b (places_of c b)
  places_by c b commit = none
  places_by c b give_up = none

  abbrev pub changed_cells : Request V → ℕ → Bool
  changed_cells (by c b a) = cells_by c b a
  changed_cells tick = none

  abbrev pub changed_places : Request V → ℕ → Bool
  changed_places (by c b a) = places_by c b a
  changed_places tick = none

  -- and any of them the class's rule; a tick may change those of all classes.
  abbrev pub changed_rules : Request V → ℕ → Bool
  changed_rules (by c b a) = if_bay (o.classes x.order) c b (nat_eq c)
  changed_rules tick = below (o.classes x.order)

-- Register x and memory m answer a request with y, and become x' and m'.
pub record Answered {O V R : Type 0} (o : OrderGhosts O) (v : ValueGhosts V) (r : RuleGhosts R)
    (x : Register O) (m : Memory V R) (q : Request V) (y : Reply V) (x' : Register O) (m' : Memory V R) : Type 0 where
  pub reply : y ≡ (defined o v r x m q).reply
  pub state : LeadsTo o v r x m q x' m'
  pub memory : ChangedOnly (changed_cells o x q) (changed_places o x q) (changed_rules o x q) m m'
