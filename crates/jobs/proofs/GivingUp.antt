-- The ways through a call that gives a job up.
use Rattle.std.proofs.Common.{ℕ, ap}
use Rattle.cells.specs.declared.value.Value.{Ghosts as ValueGhosts}
use Rattle.orders.specs.declared.class_order.ClassOrder.{Ghosts as OrderGhosts}
use Rattle.rules.specs.Claims.{forgotten}
use Rattle.rules.specs.declared.local_rule.LocalRule.{Ghosts as RuleGhosts}
use Rattle.laws.specs.Calls.{by, give_up, done, refused, bay_free}
use Rattle.laws.specs.Actions.{Outcome, gives_up_in}
use Rattle.jobs.specs.Represents.{setting, bay_of, bay_values}
use Rattle.jobs.specs.Lent.{RuleBecomes}
use Rattle.jobs.specs.Parts.{with_bay_in, class_in, with_class_in}
use Rattle.register_parts.specs.declared.bay.Bay.{Bay}
use Rattle.register_parts.specs.declared.bay.Bay.TheVariants.{Free, Closed, Open}
use Rattle.register_parts.specs.declared.bay.Job.{Job}
use Rattle.jobs.specs.declared.memory.Memory.{Memory}
use Rattle.jobs.specs.declared.register.Register.{Register}
use Rattle.jobs.proofs.Exits.{Exit}
use Rattle.jobs.proofs.Entrance.{claims_here, class_here, cells_of, Inside, refuses, bay_becomes, job_ends}

module _ {O V R : Type 0} (o : OrderGhosts O) (v : ValueGhosts V) (r : RuleGhosts R) (x : Register O) (m : Memory V R) (c b : ℕ) where
  abbrev gives_up : Bay → Outcome V
  gives_up y = gives_up_in (setting o v r x) x.clock.ticks (cells_of o v r x m c b) c (class_here o v r x m c b) b (bay_of (bay_values m.pending.now c b) y)

  pub was_free : Inside o v r x m c b give_up Free → Exit o v r x m (by c b give_up) (refused bay_free) x m
  was_free h = refuses o v r x m c b give_up Free h bay_free (ap gives_up h.bay)

  pub was_closed : Inside o v r x m c b give_up Closed → Exit o v r x m (by c b give_up) done (with_class_in x c (with_bay_in (class_in x c) b Free)) m
  was_closed h = bay_becomes o v r x m c b give_up Closed h done Free (ap gives_up h.bay)

  pub was_open : (j : Job) → Inside o v r x m c b give_up (Open j) → (m' : Memory V R) → RuleBecomes r c (forgotten b (claims_here o v r x m c b)) m m'
      → Exit o v r x m (by c b give_up) done (with_class_in x c (with_bay_in (class_in x c) b Free)) m'
  was_open j h m' w = job_ends o v r x m c b give_up (Open j) h done m' w (ap gives_up h.bay)
