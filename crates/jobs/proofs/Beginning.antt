-- The ways through a call that begins a job.
use Rattle.std.proofs.Common.{◌≡◌, ℕ, Bool, true, false, eqb, leb, ◌⊎◌, Ok, Err, sym, refl, ap, ◌∙◌, inl, inr, arith}
use Rattle.std.proofs.lemmas.Bool.{eqb-true, eqb-false, le-leb, lt-leb}
use Rattle.cells.specs.declared.value.Value.{Ghosts as ValueGhosts}
use Rattle.orders.specs.declared.class_order.ClassOrder.{Ghosts as OrderGhosts}
use Rattle.rules.specs.declared.local_rule.LocalRule.{Ghosts as RuleGhosts}
use Rattle.laws.specs.State.{Kind, update, long, with_bay}
use Rattle.laws.specs.Calls.{by, begin, done, refused, bay_not_free}
use Rattle.laws.specs.Clock.{declared}
use Rattle.laws.specs.Actions.{Outcome, answer, refuse, begins_in, kind_of}
use Rattle.jobs.specs.Represents.{setting, bay_of, bay_values}
use Rattle.jobs.specs.Parts.{with_bay_in, class_in, with_class_in}
use Rattle.jobs.specs.Opened.{opened}
use Rattle.register_parts.specs.JobKinds.{kind_by_number}
use Rattle.register_parts.specs.declared.bay.Bay.{Bay}
use Rattle.register_parts.specs.declared.bay.Bay.TheVariants.{Free, Closed, Open}
use Rattle.register_parts.specs.declared.bay.Job.{Job}
use Rattle.register_parts.specs.declared.job_kind.JobKind.{JobKind}
use Rattle.register_parts.specs.declared.job_kind.JobKind.TheVariants.{Update, Long}
use Rattle.register_parts.specs.declared.job_kind.UnknownKind.{UnknownKind}
use Rattle.jobs.specs.declared.memory.Memory.{Memory}
use Rattle.jobs.specs.declared.register.Register.{Register}
use Rattle.jobs.proofs.Exits.{Exit}
use Rattle.jobs.proofs.Entrance.{ok_not_err, class_here, cells_of, Inside, refuses, bay_becomes}

-- Kinds ---------------------------------------------------------------------------------------------------------

abbrev as_kind : JobKind → Kind
as_kind Update = update
as_kind Long = long

kind_is : (k : JobKind) (q : ℕ) → Ok k ≡ kind_by_number q → kind_of q ≡ as_kind k
kind_is k q e = go (eqb q 0) (eqb q 1) refl refl
  where
    go : (a b : Bool) → eqb q 0 ≡ a → eqb q 1 ≡ b → kind_of q ≡ as_kind k
    go true b f g = let h : Ok k ≡ Ok Update = rw f at e in let is : k ≡ Update = cc in rw (f, is)
    go false true f g = let h : Ok k ≡ Ok Long = rw (f, g) at e in let is : k ≡ Long = cc in rw (f, is)
    go false false f g = ok_not_err (rw (f, g) at e)

pub kind_known : (k : JobKind) (q : ℕ) → Ok k ≡ kind_by_number q → leb q 1 ≡ true
kind_known k q e = go (eqb q 0) (eqb q 1) refl refl
  where
    go : (a b : Bool) → eqb q 0 ≡ a → eqb q 1 ≡ b → leb q 1 ≡ true
    go true b f g = let is = eqb-true q 0 f in le-leb q 1 (omega arith)
    go false true f g = let is = eqb-true q 1 g in le-leb q 1 (omega arith)
    go false false f g = ok_not_err (rw (f, g) at e)

pub kind_unknown : (fault : UnknownKind) (q : ℕ) → Err fault ≡ kind_by_number q → leb q 1 ≡ false
kind_unknown fault q e = go (eqb q 0) (eqb q 1) refl refl
  where
    go : (a b : Bool) → eqb q 0 ≡ a → eqb q 1 ≡ b → leb q 1 ≡ false
    go true b f g = ok_not_err (sym (rw f at e))
    go false true f g = ok_not_err (sym (rw (f, g) at e))
    go false false f g = lt-leb q 1 (omega (arith, eqb-false q 0 f, eqb-false q 1 g))

-- Ways ----------------------------------------------------------------------------------------------------------

module _ {O V R : Type 0} (o : OrderGhosts O) (v : ValueGhosts V) (r : RuleGhosts R) (x : Register O) (m : Memory V R) (c b q : ℕ) where
  abbrev begins : Bay → Outcome V
  begins y = begins_in (setting o v r x) x.clock.ticks (cells_of o v r x m c b) c (class_here o v r x m c b) b (kind_of q) (bay_of (bay_values m.pending.now c b) y)

  abbrev number : ℕ
  number = declared x.clock.top (o.grade x.order c) x.clock.ticks

  opens : (k : JobKind) → kind_of q ≡ as_kind k → begins Free ≡ answer done (with_bay (class_here o v r x m c b) b (bay_of (bay_values m.pending.now c b) (Open (opened k number))))
  opens Update e = rw e
  opens Long e = rw e

  pub was_free : (k : JobKind) → Ok k ≡ kind_by_number q → (j : Job) → j ≡ opened k number → Inside o v r x m c b (begin q) Free
      → Exit o v r x m (by c b (begin q)) done (with_class_in x c (with_bay_in (class_in x c) b (Open j))) m
  was_free k named j e h = bay_becomes o v r x m c b (begin q) Free h done (Open j) (ap begins h.bay ∙ rw e (opens k (kind_is k q named)))

  pub not_free : (y : Bay) → (y ≡ Closed) ⊎ ((j : Job) × (y ≡ Open j)) → Inside o v r x m c b (begin q) y → Exit o v r x m (by c b (begin q)) (refused bay_not_free) x m
  not_free y w h = refuses o v r x m c b (begin q) y h bay_not_free (ap begins h.bay ∙ taken (kind_of q) y w)
    where
      taken : (k : Kind) (y : Bay) → (y ≡ Closed) ⊎ ((j : Job) × (y ≡ Open j))
          → begins_in (setting o v r x) x.clock.ticks (cells_of o v r x m c b) c (class_here o v r x m c b) b k (bay_of (bay_values m.pending.now c b) y) ≡ refuse bay_not_free (class_here o v r x m c b)
      taken update y (inl e) = rw e
      taken long y (inl e) = rw e
      taken update y (inr e) = rw e.1
      taken long y (inr e) = rw e.1
