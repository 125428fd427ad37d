-- A tick: the clock advances, and the sweep is what the definition says.
use Rattle.std.proofs.Common.{◌≡◌, ℕ, suc, Bool, true, false, cond, ltb, map, Ok, Err, sym, refl, ap, ◌∙◌, subst, ap₂, arith}
use mathlib.Core.Path.{fun_ext}
use Rattle.cells.specs.declared.value.Value.{Ghosts as ValueGhosts}
use Rattle.orders.specs.declared.class_order.ClassOrder.{Ghosts as OrderGhosts}
use Rattle.rules.specs.declared.local_rule.LocalRule.{Ghosts as RuleGhosts}
use Rattle.laws.specs.Setting.{Setting}
use Rattle.laws.specs.State.{Class, State}
use Rattle.laws.specs.Calls.{tick, ticked, refused, clock_at_end}
use Rattle.laws.specs.Clock.{last_tick, tick_grade, tick_number, swept, after_tick}
use Rattle.laws.specs.Step.{stepped}
use Rattle.jobs.specs.Represents.{setting, state, enough, classes_of}
use Rattle.jobs.specs.Lent.{none, below, ChangedOnly}
use Rattle.register_parts.specs.ClockCalls.{Shows, next_declaration, advance_reply}
use Rattle.jobs.specs.Sweeps.{SweptBelow}
use Rattle.register_parts.specs.declared.clock.Clock.{Clock}
use Rattle.register_parts.specs.declared.declaration.Declaration.{Declaration}
use Rattle.register_parts.specs.declared.job_fault.JobFault.{JobFault}
use Rattle.register_parts.specs.declared.job_fault.JobFault.TheVariants.{ClockAtEnd}
use Rattle.jobs.specs.declared.memory.Memory.{Memory}
use Rattle.jobs.specs.declared.register.Register.{Register}
use Rattle.jobs.proofs.Exits.{Exit, exit, with_enough}

-- What an answer of the clock says.
pub advanced : (x : Clock) (d : Declaration) → Ok d ≡ advance_reply x → (ltb x.ticks last_tick ≡ true) × (d ≡ next_declaration x)
advanced x d e = go (ltb x.ticks last_tick) refl
  where
    go : (q : Bool) → ltb x.ticks last_tick ≡ q → (ltb x.ticks last_tick ≡ true) × (d ≡ next_declaration x)
    go true f = let h : Ok d ≡ Ok (next_declaration x) = rw f at e in (f, cc)
    go false f = let h : Ok d ≡ Err ClockAtEnd = rw f at e in let z : ◌≡◌ {A = ℕ} 0 1 = cc in absurd (omega arith)

pub stopped : (x : Clock) (fault : JobFault) → Err fault ≡ advance_reply x → (ltb x.ticks last_tick ≡ false) × (fault ≡ ClockAtEnd)
stopped x fault e = go (ltb x.ticks last_tick) refl
  where
    go : (q : Bool) → ltb x.ticks last_tick ≡ q → (ltb x.ticks last_tick ≡ false) × (fault ≡ ClockAtEnd)
    go true f = let h : Err fault ≡ Ok (next_declaration x) = rw f at e in let z : ◌≡◌ {A = ℕ} 0 1 = cc in absurd (omega arith)
    go false f = let h : Err fault ≡ Err ClockAtEnd = rw f at e in (f, cc)

-- The register with another clock.
abbrev pub with_clock : {O : Type 0} → Register O → Clock → Register O
with_clock x clock = record { order = x.order; counts = x.counts; variant = x.variant; clock = clock; classes = x.classes }

module _ {O V R : Type 0} (o : OrderGhosts O) (v : ValueGhosts V) (r : RuleGhosts R) (x : Register O) (m : Memory V R) where
  abbrev S : Setting V
  S = setting o v r x

  abbrev A : State V
  A = state o v r x m

  -- The setting with this greatest grade.
  abbrev with_top : ℕ → Setting V
  with_top top = record {
    classes = S.classes;
    above = S.above;
    grade = S.grade;
    top = top;
    items = S.items;
    start = S.start;
    reading = S.reading;
    writing = S.writing;
    variant = S.variant;
  }

  abbrev classes_in : Setting V → ℕ → Class V
  classes_in T = classes_of T m.cells.now m.pending.now x.classes (map r.meaning m.rules.now)

  -- The clock has come to its end: nothing changes.
  pub at_end : enough o v r x m ≡ true → ltb x.clock.ticks last_tick ≡ false → (clock : Clock) → Shows clock x.clock.top x.clock.ticks
      → Exit o v r x m tick (refused clock_at_end) (with_clock x clock) m
  at_end e f clock shows =
      exit o v r x m tick (refused clock_at_end) (with_clock x clock) m same
      (with_enough o v r x m tick _ e (rw f (ap (stepped (refused clock_at_end)) (sym (ap₂ at shows.1 same)))))
    where
      same : setting o v r (with_clock x clock) ≡ S
      same = ap with_top shows.0

      at : ℕ → Setting V → State V
      at t T = record { ticks = t; class = classes_in T }

  module _ (clock : Clock) (shows : Shows clock x.clock.top (suc x.clock.ticks)) (d : Declaration) (is : d ≡ next_declaration x.clock)
      (x' : Register O) (m' : Memory V R) (w : SweptBelow o v r S.classes d (with_clock x clock) m x' m') where
    same : setting o v r (with_clock x clock) ≡ S
    same = ap with_top shows.0

    abbrev swept_in : Setting V → Declaration → ℕ → Class V
    swept_in T e c = cond (ltb c T.classes) (swept T e.grade e.number c (classes_in T c)) (classes_in T c)

    class_after : (c : ℕ) → (state o v r x' m').class c ≡ swept S (tick_grade S.top A.ticks) (tick_number S.top A.ticks) c (A.class c)
    class_after c = w.classes c ∙ ap₂ (λ (T : Setting V) (e : Declaration). swept_in T e c) same is ∙ go (ltb c S.classes) refl
      where
        go : (q : Bool) → ltb c S.classes ≡ q → swept_in S (next_declaration x.clock) c ≡ swept S (tick_grade S.top A.ticks) (tick_number S.top A.ticks) c (A.class c)
        go true e = rw e
        go false e = rw e

    same' : setting o v r x' ≡ S
    same' = ap (setting o v r) w.register ∙ same

    state_after : state o v r x' m' ≡ after_tick S A
    state_after =
        let made : ℕ → (ℕ → Class V) → State V = λ t f. record { ticks = t; class = f } in
        ap₂ made (ap (λ (y : Register O). y.clock.ticks) w.register ∙ shows.1) (fun_ext class_after)

    -- The sweep is what the tick has to do.
    pub ticks : enough o v r x m ≡ true → ltb x.clock.ticks last_tick ≡ true → Exit o v r x m tick (ticked d.grade d.number) x' m'
    ticks e f =
        exit o v r x m tick (ticked d.grade d.number) x' m' same'
        (with_enough o v r x m tick _ e (rw f (ap₂ stepped (ap (λ (e : Declaration). ticked e.grade e.number) (sym is)) (sym state_after))))

    -- Only rules of classes have changed.
    pub rules_changed : ChangedOnly none none (below S.classes) m m'
    rules_changed = subst (ChangedOnly none none (below S.classes) m) (sym w.memory) (record {
      lenders = (refl, refl, refl);
      lengths = (refl, refl, w.rules);
      cells = λ k e z. refl;
      pending = λ k e z. refl;
      rules = w.other_rules;
    })
